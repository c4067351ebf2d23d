mod Frames
mod Sixteen
pub mod Undo
pub mod Same
