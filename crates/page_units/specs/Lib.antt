pub mod Blanks
pub mod Coding
pub mod Digits
pub mod Limits
pub mod LimitsOf
pub mod Metered
pub mod Numbers
pub mod Texts
