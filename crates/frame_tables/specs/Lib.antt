pub mod FirstFrame
pub mod FrameTable
pub mod FrameReading
