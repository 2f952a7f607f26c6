pub mod Sets
pub mod Ballots
pub mod Boards
pub mod Rules
