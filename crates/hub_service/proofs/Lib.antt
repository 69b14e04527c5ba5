pub mod Looks
pub mod StreamLemmas
pub mod AnswerLemmas
