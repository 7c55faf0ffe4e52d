pub mod Splits
pub mod Fields
pub mod AskLemmas
