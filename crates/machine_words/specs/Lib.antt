pub mod Arith
pub mod Shapes
pub mod Tops
