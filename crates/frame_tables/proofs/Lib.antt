pub mod FirstLaws
pub mod Loops
pub mod ShapeLaws
pub mod NameLaws
pub mod FrameLaws
