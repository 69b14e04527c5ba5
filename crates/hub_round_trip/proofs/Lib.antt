mod DocLemmas
mod HistoryLemmas
mod MemberLemmas
mod ReadLemmas
mod TextLemmas
mod Utf8Lemmas
pub mod ValueLemmas
mod WrittenLemmas
