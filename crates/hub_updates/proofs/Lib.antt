pub mod KeptLemmas
pub mod RowLemmas
pub mod NoteLemmas
