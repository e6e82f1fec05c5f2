-- The numbers and lines of the statuses (this project's own).
use Rattle.std.specs.Prelude.{ℕ, List, [], ◌++◌, Option, Some, None, codes, decimal}
use Rattle.js_lexer.specs.declared.fault.LexFault.TheVariants as lex
use Rattle.js_parser.specs.declared.fault.ScriptFault.{ScriptFault}
use Rattle.js_parser.specs.declared.fault.ScriptFault.TheVariants as script
use Rattle.page_reader.specs.declared.fault.PageFault.TheVariants as page
use Rattle.crom_commands.specs.declared.status.Status.{Status}
use Rattle.crom_commands.specs.declared.status.Status.TheVariants.{Ended, Usage, Page, Script, NotBuilt, ReadFault, WriteFault, NoMemory, ShelfFault, Truncated, RequestBound}

abbrev pub status_number : Status → ℕ
status_number Ended = 0
status_number Usage = 2
status_number (Page fault) = 3
status_number (Script index fault) = 3
status_number ReadFault = 4
status_number WriteFault = 5
status_number NoMemory = 6
status_number ShelfFault = 7
status_number Truncated = 8
status_number RequestBound = 10
status_number NotBuilt = 11

-- the number of the rule that a script breaks, with a second one where it is of the tokens' own form; None where
-- memory was refused, which is no rule
abbrev pub rule_of : ScriptFault → Option (List ℕ)
rule_of (script.Lex (lex.BadChar at)) = Some (codes "1.1")
rule_of (script.Lex (lex.UnclosedText at)) = Some (codes "1.2")
rule_of (script.Lex (lex.UnclosedComment at)) = Some (codes "1.3")
rule_of (script.Lex (lex.BadNumber at)) = Some (codes "1.4")
rule_of (script.Lex (lex.BigNumber at)) = Some (codes "1.5")
rule_of (script.Lex (lex.LeftOut at)) = Some (codes "1.6")
rule_of (script.Lex lex.NoMemory) = None
rule_of (script.Syntax at) = Some (codes "2")
rule_of (script.Nesting at) = Some (codes "3")
rule_of (script.LeftOut at) = Some (codes "4")
rule_of script.NoMemory = None

-- the byte of the script at which the rule is broken
abbrev pub place_of : ScriptFault → ℕ
place_of (script.Lex (lex.BadChar at)) = at
place_of (script.Lex (lex.UnclosedText at)) = at
place_of (script.Lex (lex.UnclosedComment at)) = at
place_of (script.Lex (lex.BadNumber at)) = at
place_of (script.Lex (lex.BigNumber at)) = at
place_of (script.Lex (lex.LeftOut at)) = at
place_of (script.Lex lex.NoMemory) = 0
place_of (script.Syntax at) = at
place_of (script.Nesting at) = at
place_of (script.LeftOut at) = at
place_of script.NoMemory = 0

abbrev pub script_line : (index : ℕ) → (rule : Option (List ℕ)) → (at : ℕ) → List ℕ
script_line index None at = codes "cromhost: no memory"
script_line index (Some rule) at = codes "cromhost: script " ++ (decimal index ++ (codes " rule " ++ (rule ++ (codes " at " ++ decimal at))))

-- what is printed to standard error; a run never ends with a fault of the page or a script that is out of memory
abbrev pub status_line : Status → List ℕ
status_line Ended = []
status_line Usage = codes "cromhost: usage"
status_line (Page (page.Rule rule at)) = codes "cromhost: page rule " ++ (decimal rule ++ (codes " at " ++ decimal at))
status_line (Page page.NoMemory) = codes "cromhost: no memory"
status_line (Script index fault) = script_line index (rule_of fault) (place_of fault)
status_line ReadFault = codes "cromhost: read fault"
status_line WriteFault = codes "cromhost: write fault"
status_line NoMemory = codes "cromhost: no memory"
status_line ShelfFault = codes "cromhost: page not read"
status_line Truncated = codes "cromhost: input ended inside a request"
status_line RequestBound = codes "cromhost: request bound"
status_line NotBuilt = codes "cromhost: not built"
