pub mod Loads
pub mod Passes
