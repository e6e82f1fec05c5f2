pub mod BodiesLemmas
pub mod Fronts
pub mod Heads
pub mod Spelled
