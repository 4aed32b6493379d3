pub mod Acts
pub mod FrameOps
