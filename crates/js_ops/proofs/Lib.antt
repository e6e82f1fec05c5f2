pub mod Alike
pub mod Digits
pub mod Givens
pub mod Order
