pub mod Wide
pub mod Told
