mod Runs
pub mod ByParts
mod Read
