pub mod Digits
pub mod Through
pub mod Offsets
pub mod Same
pub mod Explicit
pub mod Parts
