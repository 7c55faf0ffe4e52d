pub mod Histories
pub mod Summaries
