pub mod Answers
pub mod Frames
pub mod Worn
pub mod Slots
pub mod WornLemmas
