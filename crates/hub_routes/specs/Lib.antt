pub mod Table
pub mod Paths
pub mod Methods
pub mod Routes
pub mod WorkedPaths
