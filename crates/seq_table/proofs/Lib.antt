pub mod ListLemmas
pub mod Steps
pub mod EndLemmas
