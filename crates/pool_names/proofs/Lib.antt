pub mod Entries
pub mod Claiming
pub mod Texts
pub mod Naming
pub mod Lists
pub mod Room
