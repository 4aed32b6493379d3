pub mod Offsets
pub mod First
pub mod TextSizes
pub mod FarBranches
pub mod LengthLaws
