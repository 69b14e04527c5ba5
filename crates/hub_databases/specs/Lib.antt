pub mod Faults
pub mod Kept
pub mod Names
pub mod Refusals
