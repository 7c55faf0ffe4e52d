pub mod Answers
pub mod Updates
pub mod Requests
pub mod Joins
