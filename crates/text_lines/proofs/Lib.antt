pub mod OneLine
pub mod OneHex
pub mod OneDecimal
mod Pairs
