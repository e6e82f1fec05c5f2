pub mod Signs
pub mod Refused
