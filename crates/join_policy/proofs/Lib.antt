pub mod Hex
pub mod Lists
pub mod Places
pub mod Parsing
pub mod Distinct
pub mod Whole
