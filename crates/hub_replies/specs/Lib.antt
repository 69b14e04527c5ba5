pub mod Bodies
pub mod Bulk
