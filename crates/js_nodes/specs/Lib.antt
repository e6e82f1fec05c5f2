pub mod Next
pub mod Operators
pub mod Operands
pub mod Pieces
pub mod Classes
pub mod Lookups
