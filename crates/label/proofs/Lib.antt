pub mod Kept
pub mod Candidate
mod Frame
pub mod Read
pub mod Rules
mod Apart
mod Lines
