pub mod Asked
pub mod Fits
pub mod Kept
pub mod Laid
pub mod Log
