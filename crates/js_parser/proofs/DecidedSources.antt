-- One token decides in statements by their first token, in function declarations, and in whole scripts.
use Rattle.std.proofs.Common.{◌≡◌, ℕ, zero, suc, Bool, true, false, cond, inl, inr, [], Option, Some, None, refl, sym, ◌∙◌}
use Rattle.std.specs.Prelude.{◌||◌}
use Rattle.grammar.specs.Grammar.{again}
use Rattle.grammar.specs.Reading.{is_some, Decided}
use Rattle.js_lexer.specs.declared.token.Kind.{Kind}
use Rattle.js_lexer.specs.declared.token.Kind.TheVariants as k
use Rattle.js_lexer.specs.declared.token.Punct.TheVariants as p
use Rattle.js_lexer.specs.declared.token.Word.TheVariants as w
use Rattle.js_tree.specs.declared.stmt.Stmt.TheVariants as s
use Rattle.js_nodes.specs.declared.fault.Fault.{Fault}
use Rattle.js_nodes.specs.declared.context.Inside.{Inside}
use Rattle.js_nodes.specs.declared.series.State.{State}
use Rattle.js_nodes.specs.declared.series.Body.{Body}
use Rattle.js_nodes.specs.Next.{Next, of, is_there, says, is_left_out_name, is_slash}
use Rattle.js_cursor.specs.Words.{too_deep}
use Rattle.js_parser.specs.Levels.{Level}
use Rattle.js_nodes.specs.Operands.{nothing}
use Rattle.js_nodes.specs.Pieces.{state, body}
use Rattle.js_cursor.specs.Questions.{begins_statement}
use Rattle.js_nodes.specs.Classes.{opens, requires_part}
use Rattle.js_parser.specs.Sources.{statement_kind, statement_by, statement, declaration, source, no_level, next_level, level, program}
use Rattle.js_cursor.specs.Questions.{statement_too_deep, source_too_deep}
use Rattle.js_nodes.specs.Pieces.{outside}
use Rattle.js_parser.proofs.DecidedWords.{sound_decided, no_word, name_decided}
use Rattle.js_parser.proofs.DecidedKinds.{statement_begins, source_begins, other_not_opening, left_out_begins, statement_no_function, source_there}
use Rattle.js_parser.proofs.DecidedMay.{opening_may, statement_may, source_may}
use Rattle.js_parser.proofs.DecidedLevels.{Whole, Known}
use Rattle.js_parser.proofs.DecidedOperands.{code_decided, callee_decided}
use Rattle.js_parser.proofs.DecidedExpressions.{operand_deep, binary_whole, assign_whole, expr_whole, first_decided}
use Rattle.js_parser.proofs.DecidedStatements.{block_statement_decided, variables_decided, var_decided, if_decided, do_decided, while_decided, jump_decided, return_decided, throw_decided, switch_decided, try_decided, expression_decided, expression_eats}
use Rattle.js_parser.proofs.DecidedHeads.{for_decided}
use Rattle.js_cursor.specs.Words as words
use Rattle.js_parser.specs.Sources as sources

-- ---- where no level is left

-- Where no level is left each beginning shows a fault.
deep_flagged : (a b c : Bool) (f g : Fault) → (a ≡ true → c ≡ true) → is_some (cond a (Some f) (cond (b || c) (Some g) None)) ≡ (b || c)
deep_flagged true true c f g h = refl
deep_flagged true false c f g h = sym (h refl)
deep_flagged false true c f g h = refl
deep_flagged false false true f g h = refl
deep_flagged false false false f g h = refl

-- A statement without a level is refused where one begins.
statement_deep_may : (inside : Inside) (t : Next) → is_some (statement_too_deep inside t) ≡ statement_begins inside t
statement_deep_may inside t = deep_flagged (of is_left_out_name t || of is_slash t) (opens inside t) (begins_statement t) _ _ (left_out_begins t)

-- A source element is a function or a statement there too.
source_flagged : (a b : Bool) (f : Fault) (w : Option Fault) → is_some w ≡ b → is_some (cond a (Some f) w) ≡ (a || b)
source_flagged true b f w e = refl
source_flagged false b f w e = e

-- A source element without a level is refused where one begins.
source_deep_may : (inside : Inside) (t : Next) → is_some (source_too_deep inside t) ≡ source_begins inside t
source_deep_may inside t = source_flagged (says w.Function t) (statement_begins inside t) _ (statement_too_deep inside t) (statement_deep_may inside t)

-- One token decides in the rules without a level.
no_level_known : Known no_level
no_level_known = record {
  binary = λ _ _ _. operand_deep;
  assign = λ _ _. operand_deep;
  expr = λ _ _. operand_deep;
  callee = λ _. tt;
  first = λ _. tt;
  variables = λ _ _ _ _. tt;
  statement = λ inside added. record { decided = tt; eats = tt; begin = statement_deep_may inside };
  source = λ inside b. record { decided = tt; eats = tt; begin = source_deep_may inside };
}

-- No statement begins at the end.
no_opening : (inside : Inside) → opens inside None ≡ false
unfolding opens
no_opening inside = refl

module _ (below : Level) (known : Known below) where
  -- ---- statements

  -- One token decides in what each first token begins.
  kind_decided : (room : ℕ) (inside : Inside) (added : State) (t : Next) (kind : Kind) → Decided None (statement_kind room below inside added t kind)
  unfolding statement_kind
  kind_decided room inside added t (k.Punct p.LeftBrace) = block_statement_decided below known inside added t
  kind_decided room inside added t (k.Punct p.Semicolon) = tt
  kind_decided room inside added t (k.Word w.Var) = var_decided below known room inside added t
  kind_decided room inside added t (k.Word w.If) = if_decided below known inside added t
  kind_decided room inside added t (k.Word w.Do) = do_decided below known inside added t
  kind_decided room inside added t (k.Word w.While) = while_decided below known inside added t
  kind_decided room inside added t (k.Word w.For) = for_decided below known room inside added t
  kind_decided room inside added t (k.Word w.Continue) = jump_decided s.Continue added t
  kind_decided room inside added t (k.Word w.Break) = jump_decided s.Break added t
  kind_decided room inside added t (k.Word w.Return) = return_decided below known inside added t
  kind_decided room inside added t (k.Word w.Throw) = throw_decided below known inside added t
  kind_decided room inside added t (k.Word w.Switch) = switch_decided below known inside added t
  kind_decided room inside added t (k.Word w.Try) = try_decided below known inside added t
  kind_decided room inside added t _ = tt

  by_decided : (room : ℕ) (inside : Inside) (added : State) (t : Next) → Decided None (statement_by room below inside added t)
  unfolding statement_by
  by_decided room inside added None = tt
  by_decided room inside added (Some t) = kind_decided room inside added (Some t) t.kind

  pub statement_whole : (room : ℕ) (inside : Inside) (added : State) → Whole (statement_begins inside) (statement room below inside added)
  unfolding statement sources.told_statement statement_by words.sound
  statement_whole room inside added = record {
    decided = (
      λ t h. opening_may room inside t ∙ other_not_opening inside t h,
      (sound_decided (too_deep room (of requires_part)) (opens inside) (no_opening inside), by_decided room inside added),
      (tt, λ _. expression_decided below known inside added),
    );
    eats = (inl (tt, tt), inr (λ _. expression_eats below known inside added));
    begin = statement_may below room inside added;
  }

  -- ---- source elements

  declaration_decided : (b : Body) → Decided None (declaration below b)
  unfolding declaration words.name words.sound
  declaration_decided b = (no_word w.Function, λ t. (name_decided, λ n. (code_decided below known (Some n) b.state.codes, λ all. tt)))

  pub source_whole : (room : ℕ) (inside : Inside) (b : Body) → Whole (source_begins inside) (source room below inside b)
  unfolding source declaration words.name words.sound
  source_whole room inside b =
      let i = statement_whole room inside b.state in
      record {
        decided = (λ t h. statement_no_function inside t (sym (i.begin t) ∙ h), declaration_decided b, (i.decided, λ x. tt));
        eats = (inl tt, inl i.eats);
        begin = source_may below room inside b;
      }

  -- One token decides in the rules of a level, where it does in those below.
  next_known : (room : ℕ) → Known (next_level room below)
  next_known room = record {
    binary = binary_whole below known room;
    assign = assign_whole below known room;
    expr = expr_whole below known room;
    callee = callee_decided below known room;
    first = first_decided below known room;
    variables = variables_decided below known room;
    statement = statement_whole room;
    source = source_whole room;
  }

-- ---- levels, and whole scripts

-- One token decides in each rule of each level.
pub level_known : (room : ℕ) → Known (level room)
unfolding level
level_known zero = no_level_known
level_known (suc room) = next_known (level room) (level_known room) (suc room)

-- Each source element of a script is one turn.
pub program_turns : (b : Body) → Decided None (again (λ _ t. is_there t) (λ b. (level 128).source outside b) b)
program_turns b = (
  λ _. refl,
  λ b t h. source_there outside t (sym (((level_known 128).source outside b).begin t) ∙ h),
  λ b. ((level_known 128).source outside b).eats,
  λ b. ((level_known 128).source outside b).decided,
)

-- One token decides in scripts.
pub program_decided : Decided None program
unfolding program
program_decided = (program_turns (body [] (state [] []) [] nothing), λ b. tt)
