pub mod Xts
pub mod Pair
pub mod Laws
