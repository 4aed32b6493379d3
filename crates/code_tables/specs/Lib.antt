pub mod CodeTables
pub mod TableReading
