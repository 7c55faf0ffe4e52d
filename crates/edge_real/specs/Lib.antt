pub mod Faults
pub mod FileDisk
pub mod StdSink
pub mod StdSource
