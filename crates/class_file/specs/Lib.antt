pub use Rattle.class_input.specs.Reading
pub use Rattle.class_input.specs.Grammar
pub use Rattle.const_pool.specs.Pool
pub use Rattle.class_attributes.specs.Attributes
pub mod ClassBytes
pub mod ClassReading
