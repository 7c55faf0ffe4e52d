pub mod Heads
pub mod Items
pub mod Calls
pub mod Skipping
pub mod Spelled
pub mod Steady
