pub mod Bodies
pub mod ReplyBytes
