-- What the next token may begin, and what it shows.
use Rattle.std.specs.Prelude.{ℕ, Bool, true, false, not, cond, ◌&&◌, List, Option, Some, None, ◌||◌, nat_le}
use Rattle.js_nodes.specs.declared.fault.Fault.{Fault}
use Rattle.js_nodes.specs.declared.fault.Fault.TheVariants.{LeftOut, Syntax, Nesting}
use Rattle.js_nodes.specs.declared.context.After.{After}
use Rattle.js_nodes.specs.declared.context.Closer.{Closer}
use Rattle.js_nodes.specs.declared.context.Context.{Context}
use Rattle.js_nodes.specs.declared.context.Inside.{Inside}
use Rattle.js_nodes.specs.Next.{Next, of, place, is_there, shows, is_name, is_left_out_name, text, is_slash, is_key, is_accessor, says, is_on_new_line, is_identifier, is_left_out_word}
use Rattle.js_tree.specs.declared.expr.Entry.{Entry}
use Rattle.js_nodes.specs.declared.operand.Operand.{Operand}
use Rattle.js_nodes.specs.Operators.{is_step, is_prefix}
use Rattle.js_nodes.specs.Operands.{first_context, continues, inserted, is_bare_name}
use Rattle.js_nodes.specs.Classes.{begins_primary, is_link, opens}
use Rattle.js_nodes.specs.Pieces.{has, has_key, called}
use Rattle.js_lexer.specs.declared.token.Punct.TheVariants as p
use Rattle.js_lexer.specs.declared.token.Word.TheVariants as w
use Rattle.js_nodes.specs.declared.fault.Fault.TheVariants as f
use Rattle.js_nodes.specs.declared.context.Closer.TheVariants as c

-- a name that isn't among these
abbrev pub twice : List (List ℕ) → Next → Option Fault
twice names t =
    cond (of is_left_out_name t) (Some (LeftOut (place t)))
    (cond (of is_name t && has names (text t)) (Some (Syntax (place t))) None)

-- It stands before the `}` of a block.
abbrev pub in_block : Next → Bool
in_block t = not (shows p.RightBrace t) && is_there t

-- a key that stands among the entries (11.1.5, in strict code), or for whose value no level is left
abbrev pub key_flaw : ℕ → List Entry → Next → Option Fault
key_flaw room es t =
    cond (of is_key t && has_key es (text t)) (Some (Syntax (place t)))
    (cond (of is_key t && nat_le room 1) (Some (Nesting (place t))) None)

-- behind a key; another key behind `get` or `set` would make it an accessor, which is left out
abbrev pub accessor_flaw : Next → Next → Option Fault
accessor_flaw t u = cond (of is_accessor t && of is_key u) (Some (LeftOut (place t))) None

-- a form that is left out where an operand must begin
abbrev pub operand_left_out : Next → Option Fault
operand_left_out t = cond (of is_left_out_name t || of is_slash t) (Some (LeftOut (place t))) None

abbrev pub primary_flaw : ℕ → Next → Option Fault
primary_flaw room t =
    cond (of is_left_out_name t || of is_slash t) (Some (LeftOut (place t)))
    (cond (shows p.LeftParen t && nat_le room 1) (Some (Nesting (place t))) None)

-- `++` or `--` with no line terminator before it (11.3, 7.9.1)
abbrev pub is_postfix : Next → Bool
is_postfix t = of is_step t && not (is_on_new_line t)

abbrev pub begins_operand : Next → Bool
begins_operand t = of begins_primary t || (says w.New t || of is_prefix t)

-- An operand would begin here, and has no level.
abbrev pub operand_too_deep : Next → Option Fault
operand_too_deep t = cond (of is_left_out_name t || of is_slash t) (Some (LeftOut (place t))) (cond (begins_operand t) (Some (Nesting (place t))) None)

-- An expression goes on so behind a name.
abbrev pub goes_on : Next → Bool
goes_on t = continues first_context t || (is_postfix t || of is_link t)

-- An operand other than a name would begin here, and has no level.
abbrev pub unless_name : Next → Option Fault
unless_name t = cond (of is_name t) None (operand_too_deep t)

-- A name behind them would be a label, which is left out.
abbrev pub jump_label : Next → Option Fault
jump_label u = cond (of is_identifier u && not (is_on_new_line u)) (Some (LeftOut (place u))) None

abbrev pub thrown_left_out : Next → Option Fault
thrown_left_out u = cond (is_on_new_line u) (operand_left_out u) None

-- It stands before the end of a part of a `switch`.
abbrev pub in_case : Next → Bool
in_case t = in_block t && (not (says w.Case t) && not (says w.Default t))

abbrev pub is_case : Next → Bool
is_case t = says w.Case t || says w.Default t

-- A `:` behind a name alone would make a label of it, which is left out.
abbrev pub label_flaw : Operand → Next → Option Fault
label_flaw x u = cond (is_bare_name x && shows p.Colon u) (Some (LeftOut x.at)) None

-- An expression statement begins so, or is at least begun by what is left out (12.4: neither with `{` nor with `function`).
abbrev pub begins_statement : Next → Bool
begins_statement t =
    (begins_operand t || (of is_left_out_name t || of is_slash t)) && not (shows p.LeftBrace t || says w.Function t)

-- A statement would begin here, and has no level.
abbrev pub statement_too_deep : Inside → Next → Option Fault
statement_too_deep inside t =
    cond (of is_left_out_name t || of is_slash t) (Some (LeftOut (place t)))
    (cond (opens inside t || begins_statement t) (Some (Nesting (place t))) None)

abbrev pub source_too_deep : Inside → Next → Option Fault
source_too_deep inside t = cond (says w.Function t) (Some (Nesting (place t))) (statement_too_deep inside t)

-- what a token shows that fits no rule, or the end, which is at this byte
abbrev pub misfit : ℕ → Next → Fault
misfit end None = f.Syntax end
misfit end (Some t) = cond (is_left_out_word t.kind) (f.LeftOut t.at) (f.Syntax t.at)

-- ---- what may follow an operand of a prefix operator

-- where each statement may stand
abbrev pub anywhere : Inside
anywhere = record called { turning = true; leaving = true }

-- A statement begins so, wherever it may stand.
abbrev pub starts : Next → Bool
starts t = opens anywhere t || begins_statement t

-- It ends a list of statements: a block's or a body's, a part of a `switch`, or the script's.
abbrev pub ends_list : After → Next → Bool
ends_list after t = (after.brace && shows p.RightBrace t) || ((after.case && is_case t) || (after.end && not (is_there t)))

-- It goes on with the statement around: an `if` or a `do`.
abbrev pub goes_on_around : After → Next → Bool
goes_on_around after t = (after.otherwise && says w.Else t) || (after.repeat && says w.While t)

-- It may follow a statement.
abbrev pub comes_after : After → Next → Bool
comes_after after t = (after.statement && starts t)
    || ((after.declaration && says w.Function t) || (ends_list after t || goes_on_around after t))

abbrev pub closes : Closer → Next → Bool
closes (c.Statement after) t = shows p.Semicolon t || (inserted t && comes_after after t)
closes c.Semicolon t = shows p.Semicolon t
closes c.Paren t = shows p.RightParen t
closes c.Bracket t = shows p.RightBracket t
closes c.Brace t = shows p.RightBrace t
closes c.Middle t = shows p.Colon t
closes c.Case t = shows p.Colon t

-- what may follow a finished operand of a prefix operator
abbrev pub follows : Context → Next → Bool
follows x t = continues x t || closes x.closer t

-- A statement behind an inserted semicolon begins with a name that is left out.
abbrev pub begins_left_out : Closer → Next → Bool
begins_left_out (c.Statement after) t = of is_left_out_name t && (inserted t && after.statement)
begins_left_out _ t = false

-- what is shown where the operand has this flaw: a form that is left out, else the flaw, unless the token fits no rule
abbrev pub flaw_shown : Context → Fault → Next → Option Fault
flaw_shown x f t = cond (begins_left_out x.closer t) (Some (LeftOut (place t))) (cond (follows x t) (Some f) None)
