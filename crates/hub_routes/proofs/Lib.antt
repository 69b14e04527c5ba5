pub mod Inserts
pub mod RouteLemmas
