pub mod Lengths
pub mod Framing
pub mod Forms
pub mod Attributes
pub mod Classes
pub mod Pools
