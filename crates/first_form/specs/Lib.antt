pub mod Natives
pub mod Naming
pub mod Typing
pub mod Stepping
pub mod FormOne
pub mod Base
pub mod FirstSet
