pub use Rattle.class_shape.specs.Shaped
pub use Rattle.class_limits.specs.Limits
pub use Rattle.class_spelling.specs.ClassSpelling
pub use Rattle.code_attribute.specs.WholeClass
pub use Rattle.code_spelling.specs.Content
pub mod Encoding
