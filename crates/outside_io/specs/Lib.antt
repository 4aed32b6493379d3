pub mod Causes
pub mod Files
pub mod MemoryKinds
pub mod Streams
pub mod WriteLog
