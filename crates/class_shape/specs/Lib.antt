pub mod ShapedInsn
pub mod Shaped
