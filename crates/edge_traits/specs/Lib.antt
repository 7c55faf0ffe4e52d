pub mod Disk
pub mod Faults
pub mod Source
pub mod Sink
pub mod Runs
