pub mod Memory
pub mod Standing
