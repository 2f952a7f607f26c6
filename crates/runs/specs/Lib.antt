pub mod Runs
pub mod Groups
pub mod Promise
