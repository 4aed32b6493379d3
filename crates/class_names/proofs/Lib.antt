pub mod StepLaws
pub mod TextLaws
pub mod NameLaws
pub mod SpelledLaws
