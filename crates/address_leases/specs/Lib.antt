pub mod Grants
pub mod Lent
pub mod Steps
pub mod Indices
pub mod Plain
