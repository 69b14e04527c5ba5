pub mod ListLemmas
pub mod EditLemmas
