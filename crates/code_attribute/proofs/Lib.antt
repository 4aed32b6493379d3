pub mod StepLaws
pub mod AttributeLaws
pub mod ContentLaws
