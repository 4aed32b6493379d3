pub mod Rows
pub mod Running
pub mod Naming
pub mod Follows
pub mod Single
pub mod FirstSets
