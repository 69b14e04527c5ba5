pub mod AppendLemmas
mod AskedLemmas
mod BodyLemmas
pub mod MadeLemmas
pub mod DigestLemmas
pub mod FrontLemmas
pub mod PartLemmas
pub mod PathLemmas
pub mod PlaceLemmas
mod RevisionLemmas
pub mod TextLemmas
mod ValueLemmas
pub mod WriteLemmas
