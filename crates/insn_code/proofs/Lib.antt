pub mod Words
pub mod StepLaws
pub mod SwitchLaws
pub mod InsnLaws
pub mod Numbers
pub mod LinkLaws
pub mod CodeLaws
