pub mod Fronts
pub mod Hosting
pub mod Obeying
pub mod OneRun
pub mod Replied
