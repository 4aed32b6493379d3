pub mod Sums
pub mod First
pub mod Noted
pub mod Mentions
