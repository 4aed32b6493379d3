pub mod Pieces
pub mod Written
pub mod Marking
pub mod WrittenSet
pub mod Mirrors
pub mod WrittenPaths
pub mod ClassFile
pub mod Refusals
