pub mod Machine
pub mod Fields
pub mod Methods
pub mod Names
pub mod Laws
