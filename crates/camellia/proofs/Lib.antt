pub mod Xors
pub mod Undo
pub mod Range
pub mod Small
pub mod Blocks
pub mod Whole
pub mod Schedules
pub mod Bytes
