-- Faults of a script, from those of its tokens' form and of what its rules read.
use Rattle.js_lexer.specs.declared.fault.LexFault.{LexFault}
use Rattle.js_nodes.specs.declared.fault.Fault.{Fault}
use Rattle.js_parser.specs.declared.fault.ScriptFault.{ScriptFault}
use Rattle.js_parser.specs.declared.fault.ScriptFault.TheVariants.{Lex, Syntax, Nesting, LeftOut, NoMemory}
use Rattle.js_lexer.specs.declared.fault.LexFault.TheVariants as l
use Rattle.js_nodes.specs.declared.fault.Fault.TheVariants as f

-- what is wrong with the tokens' own form
abbrev pub of_lexer : LexFault → ScriptFault
of_lexer l.NoMemory = NoMemory
of_lexer fault = Lex fault

-- what a token shows
abbrev pub of : Fault → ScriptFault
of (f.LeftOut at) = LeftOut at
of (f.Nesting at) = Nesting at
of (f.Syntax at) = Syntax at
