-- What a script is, and which fault it shows (ECMA-262 5.1, section 14, with this project's restrictions).
use Rattle.std.specs.Prelude.{◌≡◌, ℕ, List, map, Option, Some, None, Result, Ok, Err}
use Rattle.grammar.specs.Exactly.{Report, Value, OutOfMemory}
use Rattle.grammar.specs.Exactly as exact
use Rattle.grammar.specs.Grammar.{first, Derives}
use Rattle.grammar.specs.Whole.{FaultAt}
use Rattle.js_lexer.specs.declared.token.Token.{Token}
use Rattle.js_lexer.specs.Tokens.{AreTokens, LexesAs}
use Rattle.js_tree.specs.declared.code.Program.{Program}
use Rattle.js_nodes.specs.declared.fault.Fault.{Fault}
use Rattle.js_parser.specs.declared.fault.ScriptFault.{ScriptFault}
use Rattle.js_parser.specs.declared.fault.ScriptFault.TheVariants.{Lex, Syntax, Nesting, LeftOut, NoMemory}
use Rattle.js_nodes.specs.Next.{Next}
use Rattle.js_parser.specs.Sources.{program}
use Rattle.js_cursor.specs.Questions.{misfit}
use Rattle.js_nodes.specs.declared.fault.Fault.TheVariants as f
use Rattle.js_parser.specs.Faults as faults

-- The tokens are this program.
abbrev pub IsProgram : List Token → Program → Type 0
IsProgram tokens p = Derives program (map Some tokens) p None

-- what the rules say that it shows, or else that it fits none
abbrev pub shown : ℕ → Option Fault → Next → Fault
shown end None t = misfit end t
shown end (Some fault) t = fault

-- The tokens are no program, and this is shown by the first of them, or the end, behind a front that may begin one.
abbrev pub ParseFaultAt : ℕ → List Token → Fault → Type 0
ParseFaultAt end tokens fault = (k : Option Fault) × (rest : List Next) × FaultAt None program (map Some tokens) k rest × (fault ≡ shown end k (first rest None))

-- The same, as a fault of the script.
abbrev pub TokensFaultAt : ℕ → List Token → ScriptFault → Type 0
TokensFaultAt end tokens fault = (shows : Fault) × (fault ≡ faults.of shows) × ParseFaultAt end tokens shows

-- The characters are a script with this program.
abbrev pub IsScript : List ℕ → Program → Type 0
IsScript cs p = (tokens : List Token) × AreTokens cs tokens × IsProgram tokens p

-- The characters are tokens, which show this fault; the script has so many bytes.
abbrev pub ParsesAs : ℕ → List ℕ → Fault → Type 0
ParsesAs end cs fault = (tokens : List Token) × AreTokens cs tokens × ParseFaultAt end tokens fault

-- The characters are no script, and this is what is wrong; what is wrong with the tokens' own form comes first.
abbrev pub ScriptFaultAt : ℕ → List ℕ → ScriptFault → Type 0
ScriptFaultAt end cs (Lex fault) = LexesAs cs fault
ScriptFaultAt end cs (Syntax at) = ParsesAs end cs (f.Syntax at)
ScriptFaultAt end cs (Nesting at) = ParsesAs end cs (f.Nesting at)
ScriptFaultAt end cs (LeftOut at) = ParsesAs end cs (f.LeftOut at)
ScriptFaultAt end cs NoMemory = ⊥

-- what parsing reports
abbrev pub report : Result Program ScriptFault → Report Program ScriptFault
report (Ok program) = Value program
report (Err NoMemory) = OutOfMemory
report (Err fault) = exact.Fault fault
