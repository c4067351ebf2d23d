pub mod Front
pub mod Whole
mod Joined
