pub mod Fitting
pub mod Fronts
pub mod Logs
pub mod Names
