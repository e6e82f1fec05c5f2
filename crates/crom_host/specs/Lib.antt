pub mod Loading
pub mod Plain
pub mod Replying
pub mod Stream
