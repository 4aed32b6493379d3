pub mod Members
pub mod Base
pub mod Rows
