pub mod Bare
pub mod StartKinds
pub mod StartRows
pub mod Putting
