pub mod Loops
pub mod Fields
pub mod Parts
pub mod Entries
