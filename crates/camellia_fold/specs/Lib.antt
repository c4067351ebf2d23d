pub mod Fold
pub mod Laws
pub mod Samples
