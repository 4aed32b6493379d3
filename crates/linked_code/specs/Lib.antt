pub mod Kept
pub mod Numbered
pub mod Linked
pub mod Links
pub mod World
