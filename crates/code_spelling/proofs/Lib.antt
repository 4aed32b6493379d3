pub mod TableLaws
pub mod FrameLaws
pub mod TableOfFrames
pub mod ContentLaws
pub mod FrameLoops
pub mod Lengths
pub mod Limits
pub mod Samples
