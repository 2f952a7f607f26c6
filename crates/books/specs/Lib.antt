pub mod Books
pub mod Till
pub mod Cabin
pub mod CabinWords
