pub mod Text
pub mod Read
pub mod Told
pub mod Faithful
