pub mod Texts
pub mod SameTypes
pub mod Parts
pub mod First
pub mod Whole
pub mod Reserved
pub mod Again
