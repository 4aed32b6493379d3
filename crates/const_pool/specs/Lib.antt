pub use Rattle.class_input.specs.Reading
pub use Rattle.class_input.specs.Grammar
pub use Rattle.modified_utf8.specs.Text
pub use Rattle.modified_utf8.specs.TextReading
pub mod Pool
pub mod PoolReading
pub mod Editor
