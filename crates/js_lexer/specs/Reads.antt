-- What a lexer's function ensures: what reading gives, unless memory was refused.
use Rattle.std.specs.Prelude.{◌≡◌, Bool, true, false, Some, List, Result, Ok, Err}
use Rattle.placed_chars.specs.declared.chars.Char.{Char}
use Rattle.js_lexer.specs.declared.fault.LexFault.{LexFault}
use Rattle.js_lexer.specs.declared.fault.LexFault.TheVariants.{BadChar, UnclosedText, UnclosedComment, BadNumber, BigNumber, LeftOut, NoMemory}
use Rattle.grammar.specs.Reading.{Outcome, Got, Bad}

-- whether it says that memory was refused, and nothing of the source
abbrev pub is_memory : LexFault → Bool
is_memory NoMemory = true
is_memory (BadChar at) = false
is_memory (UnclosedText at) = false
is_memory (UnclosedComment at) = false
is_memory (BadNumber at) = false
is_memory (BigNumber at) = false
is_memory (LeftOut at) = false

-- with the value that what was read has
abbrev pub ReadsAs : {A B : Type 0} → (B → A) → Outcome Char LexFault A → Result B LexFault → List Char → Type 0
ReadsAs value o (Ok v) new = o ≡ Got (value v) new
ReadsAs value o (Err f) new = is_memory f ≡ false → o ≡ Bad (Some f) new

abbrev pub Reads : {A : Type 0} → Outcome Char LexFault A → Result A LexFault → List Char → Type 0
Reads o result new = ReadsAs (λ v. v) o result new

-- this value, unless memory was refused
abbrev pub Gives : {A : Type 0} → A → Result A LexFault → Type 0
Gives v (Ok w) = w ≡ v
Gives v (Err f) = f ≡ NoMemory
