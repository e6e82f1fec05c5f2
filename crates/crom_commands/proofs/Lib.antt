pub mod Checks
pub mod Commands
pub mod Complete
pub mod Counting
pub mod Defaults
pub mod Serving
