pub mod Descriptor
pub mod Reading
pub mod Answer
