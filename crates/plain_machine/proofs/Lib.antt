pub mod Standing
pub mod Starts
pub mod Steps
pub mod Feeding
pub mod Telling
