pub mod OpcodeOf
pub mod Raw
pub mod Families
pub mod Spelling
pub mod Conditions
