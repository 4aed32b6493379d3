pub mod Weights
pub mod Numbers
pub mod Items
pub mod Pool
pub mod Keys
pub mod Limits
pub mod Mentions
