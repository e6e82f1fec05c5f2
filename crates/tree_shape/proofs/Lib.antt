pub mod Asking
pub mod Depths
pub mod Nodes
pub mod SoundTrees
