pub mod Answers
pub mod Conversions
pub mod Operators
pub mod Parts
pub mod TextNumbers
pub mod Whole
