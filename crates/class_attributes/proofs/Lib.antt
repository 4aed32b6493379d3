pub mod AttributeLaws
pub mod ContentLaws
