pub mod Asking
pub mod Bodies
pub mod Refusals
pub mod Routes
pub mod Table
