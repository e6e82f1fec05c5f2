pub mod Checking
pub mod Faults
pub mod Headline
pub mod Statuses
pub mod Words
