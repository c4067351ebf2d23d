pub mod Premises
pub mod Computed
