pub mod Sizes
pub mod Texts
pub mod Counts
pub mod Branches
pub mod Lengths
pub mod Limits
