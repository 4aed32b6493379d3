pub mod CodeContent
pub mod WholeClass
pub mod CodeContentReading
