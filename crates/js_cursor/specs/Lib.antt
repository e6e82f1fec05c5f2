pub mod Words
pub mod Reads
pub mod Questions
pub mod Rules
