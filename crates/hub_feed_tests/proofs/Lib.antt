pub mod EditsLemmas
