pub mod Store
pub mod Cases
