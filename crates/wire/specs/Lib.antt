pub mod Faults
pub mod Words
pub mod Messages
pub mod Format
pub mod Shown
pub mod Laws
