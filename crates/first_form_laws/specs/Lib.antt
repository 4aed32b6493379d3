pub mod WrittenForm
pub mod Loading
