pub mod Tables
pub mod Frames
pub mod Content
pub mod Writable
