pub mod ListLemmas
pub mod IndexLemmas
pub mod IndexedLemmas
pub mod PageLemmas
pub mod SlotLemmas
pub mod OrderLemmas
pub mod IdPageLemmas
