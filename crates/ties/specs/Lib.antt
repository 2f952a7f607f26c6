pub mod Sizes
pub mod Ties
pub mod Keys
pub mod KeyLaws
pub mod Orders
