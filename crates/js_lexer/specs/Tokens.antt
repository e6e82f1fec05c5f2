-- What the tokens of a script are, and which fault it shows (ECMA-262 5.1, section 7, with this project's
-- restrictions).
use Rattle.std.specs.Prelude.{ℕ, List, Some, Vec, Result, Ok, Err, pos, ◌≤ℤ◌}
use Rattle.std.specs.declared.alloc.Global.{Global}
use Rattle.grammar.specs.Exactly.{Report, Value, Fault, OutOfMemory}
use Rattle.grammar.specs.Grammar.{Derives}
use Rattle.grammar.specs.Whole.{FaultAt}
use Rattle.page_units.specs.Numbers.{IsNumber}
use Rattle.placed_chars.specs.declared.chars.Char.{Char}
use Rattle.placed_chars.specs.Chars.{placed, stop}
use Rattle.js_lexer.specs.declared.fault.LexFault.{LexFault}
use Rattle.js_lexer.specs.declared.fault.LexFault.TheVariants.{NoMemory}
use Rattle.js_lexer.specs.declared.token.Kind.{Kind}
use Rattle.js_lexer.specs.declared.token.Kind.TheVariants.{Num}
use Rattle.js_lexer.specs.declared.token.Token.{Token}
use Rattle.js_lexer.specs.Source.{source}

-- The characters are these tokens.
abbrev pub AreTokens : List ℕ → List Token → Type 0
AreTokens cs tokens = Derives source (placed 0 cs) tokens stop

-- The characters are no tokens, and this is what is wrong where they stop to begin some.
abbrev pub LexesAs : List ℕ → LexFault → Type 0
LexesAs cs fault = (rest : List Char) × FaultAt stop source (placed 0 cs) (Some fault) rest

-- what reading the tokens reports
abbrev pub report : Result (Vec Token Global) LexFault → Report (List Token) LexFault
report (Ok tokens) = Value tokens.items
report (Err NoMemory) = OutOfMemory
report (Err fault) = Fault fault

-- A token that is a number is one from 0 to 2^53 - 1.
abbrev pub IsNumeral : Kind → Type 0
IsNumeral (Num n) = (pos 0 ≤ℤ n) × IsNumber n
IsNumeral kind = Unit {0}
