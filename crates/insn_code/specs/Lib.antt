pub mod Shapes
pub mod Offsets
pub mod InsnBytes
pub mod Linking
pub mod InsnReading
pub mod CodeReading
