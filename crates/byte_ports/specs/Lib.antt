pub mod Memory
pub mod Shelves
pub mod Streams
