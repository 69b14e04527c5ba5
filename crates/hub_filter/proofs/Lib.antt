pub mod ListedLemmas
pub mod OrderLemmas
