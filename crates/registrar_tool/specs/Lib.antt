pub mod Status
pub mod Words
pub mod Script
pub mod Told
pub mod Opened
pub mod Run
pub mod Lines
