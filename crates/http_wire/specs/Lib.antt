pub mod Bounds
pub mod Fields
pub mod Messages
pub mod Outcomes
pub mod Requests
pub mod Held
pub mod Answers
pub mod Reading
pub mod Incoming
pub mod Wired
-- what the contracts of a host cite of what is asked
pub use Rattle.wire_asks.specs.declared.asked.Asked
pub use Rattle.wire_asks.specs.declared.asked.Asks
pub use Rattle.wire_asks.specs.declared.asked.Refusal
pub use Rattle.wire_asks.specs.Refusals
-- and of what is replied
pub use Rattle.wire_replies.specs.declared.bodies.Outcome
pub use Rattle.wire_replies.specs.declared.bodies.Stats
pub use Rattle.wire_replies.specs.declared.reply.Reply
pub use Rattle.wire_replies.specs.Bodies
pub use Rattle.wire_replies.specs.ReplyBytes
