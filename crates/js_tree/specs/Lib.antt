pub mod Shapes
pub mod Valid
