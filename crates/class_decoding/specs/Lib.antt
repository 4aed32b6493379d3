pub use Rattle.code_attribute.specs.WholeClass
