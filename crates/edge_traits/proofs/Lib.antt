pub mod Moments
pub mod Torn
pub mod Appends
