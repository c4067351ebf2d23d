pub mod Groups
pub mod Report
