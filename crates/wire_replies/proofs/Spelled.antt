-- Bodies, spelled out.
use Rattle.std.proofs.Common.{◌≡◌, codes, refl}
use Rattle.serde_json.proofs.OnLiterals.{serde_json_on_literals}
use Rattle.serde_json.specs.Written.{compact_text}
use Rattle.wire_asks.specs.declared.asked.Refusal.TheVariants.{NoRoute}
use Rattle.wire_replies.specs.Bodies.{refusal_data, halted_data, long_text_data}

pub no_route_is_spelled : compact_text (refusal_data NoRoute) ≡ codes "{\"refused\":\"NoRoute\"}"
unfolding serde_json_on_literals
no_route_is_spelled = refl

pub halted_is_spelled : compact_text halted_data ≡ codes "{\"outcome\":\"halted\"}"
unfolding serde_json_on_literals
halted_is_spelled = refl

pub long_text_is_spelled : compact_text long_text_data ≡ codes "{\"outcome\":\"bound text\"}"
unfolding serde_json_on_literals
long_text_is_spelled = refl
