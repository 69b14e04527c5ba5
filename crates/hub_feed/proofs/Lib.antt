pub mod CurrentLemmas
pub mod DueLemmas
pub mod FeedsLemmas
pub mod HandLemmas
pub mod Handing
pub mod ListedLemmas
pub mod ReachLemmas
