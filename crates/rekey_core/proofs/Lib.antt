pub mod IdLemmas
pub mod WriteLemmas
pub mod TreeLemmas
pub mod QueueLemmas
