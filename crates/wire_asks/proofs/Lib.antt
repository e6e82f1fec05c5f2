pub mod Judged
pub mod Prefixes
pub mod Json
pub mod Keys
pub mod Paths
pub mod Seeks
pub mod Table
