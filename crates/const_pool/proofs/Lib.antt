pub mod Bytes
pub mod EntryLaws
pub mod PoolLaws
pub mod EditorLaws
