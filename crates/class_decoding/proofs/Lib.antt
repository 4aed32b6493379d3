pub mod Counts
pub mod TypeShape
pub mod StartOrder
pub mod InsnShape
pub mod CodeShape
pub mod ClassShape
