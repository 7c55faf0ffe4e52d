pub mod WordsLemmas
pub mod ScriptLemmas
pub mod ListedLemmas
pub mod ContextLemmas
pub mod AnswerLemmas
pub mod RunLemmas
pub mod StartLemmas
pub mod IdLemmas
