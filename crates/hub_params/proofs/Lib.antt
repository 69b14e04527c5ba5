pub mod QueryLemmas
pub mod RoomLemmas
pub mod ParsedLemmas
pub mod QuoteLemmas
