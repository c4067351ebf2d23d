mod Checks
mod Sealing
mod Holds
mod Carried
mod Effects
mod Runs
mod Agree
pub mod Law
pub mod Points
