-- What a reader's function ensures: what reading gives, unless memory runs out.
use Rattle.std.specs.Prelude.{◌≡◌, ℕ, Bool, true, false, List, Some, Result, Ok, Err}
use Rattle.grammar.specs.Reading.{Outcome, Got, Bad}
use Rattle.placed_chars.specs.declared.chars.Char.{Char}
use Rattle.page_reader.specs.declared.fault.Fault.{Fault}
use Rattle.page_reader.specs.declared.fault.ReadError.{ReadError}
use Rattle.page_reader.specs.declared.fault.ReadError.TheVariants as errors
use Rattle.page_reader.specs.declared.node.Node.{Node}
use Rattle.page_reader.specs.declared.node.Slice.{Slice}
use Rattle.page_reader.specs.Content.{Content, Inside, Ended}

-- with the value that what was read has
abbrev pub ReadsAs : {A B : Type 0} → (B → A) → Outcome Char Fault A → Result B ReadError → List Char → Type 0
ReadsAs value o (Ok v) new = o ≡ Got (value v) new
ReadsAs value o (Err errors.Memory) new = Unit {0}
ReadsAs value o (Err (errors.Page f)) new = o ≡ Bad (Some f) new

abbrev pub Reads : {A : Type 0} → Outcome Char Fault A → Result A ReadError → List Char → Type 0
Reads o result new = ReadsAs (λ v. v) o result new

-- the content of an element whose end tag was read or wasn't
abbrev pub content : Bool → List Node → List ℕ → List Slice → Content
content false children units scripts = Inside children units scripts
content true children units scripts = Ended children scripts
