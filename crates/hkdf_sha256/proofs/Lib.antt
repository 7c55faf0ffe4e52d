mod BlockLemmas
mod PrefixLemmas
mod KeyLemmas
mod OutputLemmas
