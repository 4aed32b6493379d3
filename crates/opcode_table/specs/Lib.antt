pub mod Opcodes
pub mod Runs
pub mod Fields
pub mod Spelling
pub mod Judging
pub mod Writing
