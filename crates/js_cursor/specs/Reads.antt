-- What a parser's function ensures: what reading gives, unless memory was refused.
use Rattle.std.specs.Prelude.{◌≡◌, List, Option, Some, None, Result, Ok, Err}
use Rattle.grammar.specs.Reading.{Outcome, Got, Bad}
use Rattle.js_nodes.specs.declared.fault.ParseError.{ParseError}
use Rattle.js_nodes.specs.declared.fault.Fault.{Fault}
use Rattle.js_nodes.specs.Next.{Next}
use Rattle.js_nodes.specs.declared.fault.ParseError.TheVariants as errors

abbrev pub Reads : {A : Type 0} → Outcome Next Fault A → Result A ParseError → List Next → Type 0
Reads o (Ok v) new = o ≡ Got v new
Reads o (Err errors.Memory) new = Unit {0}
Reads o (Err errors.Unfit) new = o ≡ Bad None new
Reads o (Err (errors.Shown f)) new = o ≡ Bad (Some f) new

-- why the token that shows this fits nowhere
abbrev pub Unfits : Option Fault → ParseError → Type 0
Unfits None e = e ≡ errors.Unfit
Unfits (Some f) e = e ≡ errors.Shown f
