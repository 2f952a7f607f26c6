pub mod Lowest
pub mod Laws
pub mod Least
