mod NameLemmas
mod StoredLemmas
