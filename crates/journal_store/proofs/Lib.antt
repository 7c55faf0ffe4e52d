pub mod Areas
pub mod Bodies
pub mod Headers
pub mod Unique
pub mod Steps
pub mod Single
