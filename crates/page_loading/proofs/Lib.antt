pub mod Reaching
pub mod Shown
pub mod Unique
pub mod Loaded
