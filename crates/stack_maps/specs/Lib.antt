pub mod Bounds
pub mod Grammar
pub mod Expand
pub mod Marks
pub mod Reading
pub mod Table
pub mod Spelling
