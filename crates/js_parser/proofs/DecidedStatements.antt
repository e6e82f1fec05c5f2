-- One token decides in statements but for loops with heads.
use Rattle.std.proofs.Common.{◌≡◌, ℕ, Bool, true, false, inl, List, [], Option, Some, None, refl, sym, ◌∙◌}
use Rattle.std.specs.Prelude.{◌||◌, ◌&&◌, not}
use Rattle.grammar.specs.Grammar.{again}
use Rattle.grammar.specs.Reading.{Eats, Decided}
use Rattle.grammar.proofs.Words.{turned, barred_decided}
use Rattle.js_lexer.specs.declared.token.Punct.TheVariants as p
use Rattle.js_lexer.specs.declared.token.Word.TheVariants as w
use Rattle.js_tree.specs.declared.code.FnCode.{FnCode}
use Rattle.js_tree.specs.declared.expr.Expr.{Expr}
use Rattle.js_tree.specs.declared.stmt.Stmt.{Stmt}
use Rattle.js_nodes.specs.declared.context.Closer.TheVariants as c
use Rattle.js_nodes.specs.declared.context.Context.{Context}
use Rattle.js_nodes.specs.declared.context.Inside.{Inside}
use Rattle.js_nodes.specs.declared.series.State.{State}
use Rattle.js_nodes.specs.declared.series.Series.{Series}
use Rattle.js_nodes.specs.declared.series.Decls.{Decls}
use Rattle.js_nodes.specs.declared.series.Cases.{Cases}
use Rattle.js_nodes.specs.Next.{Next, shows, says}
use Rattle.js_nodes.specs.Operands.{nothing, both, context, ends}
use Rattle.js_parser.specs.Levels.{Level}
use Rattle.js_nodes.specs.Pieces.{state}
use Rattle.js_cursor.specs.Questions.{in_block}
use Rattle.js_nodes.specs.Pieces.{series, cases, decls, braces, before_else, turning, doing, choosing}
use Rattle.js_cursor.specs.Rules.{semi, jump}
use Rattle.js_parser.specs.Statements.{series_more, statements, block, braced, block_statement, initial, decl_more, variables, var_statement, condition, if_statement, do_statement, while_statement, return_statement, throw_statement, case_body, case_part, switch_cases, switch_statement, finally_part, catch_part, try_statement, expression_statement}
use Rattle.js_cursor.specs.Questions.{in_case, is_case}
use Rattle.js_parser.proofs.DecidedWords.{first_true, barred_and, may_deeper, deeper_decided, no_sign, no_word, sign_decided, word_decided, name_decided}
use Rattle.js_parser.proofs.DecidedKinds.{statement_in_block, statement_in_case, no_block, no_case, no_part, finally_no_catch, default_no_case}
use Rattle.js_parser.proofs.DecidedMay.{case_may, catch_may, finally_may}
use Rattle.js_parser.proofs.DecidedLevels.{Known}
use Rattle.js_cursor.specs.Rules as rules
use Rattle.js_cursor.specs.Words as words
use Rattle.js_parser.specs.Statements as statement_rules

-- ---- ends of statements

-- A token is a semicolon, or one is inserted before it, and not both.
pub semi_decided : Decided None semi
unfolding semi words.sign
semi_decided = (λ t h. turned (shows p.Semicolon t) (first_true (not (shows p.Semicolon t)) _ h), (sign_decided p.Semicolon, λ _. tt), tt)

-- `continue` and `break` read no label.
pub jump_decided : (stmt : Stmt) (added : State) (t : Next) → Decided None (jump stmt added t)
unfolding jump semi rules.ended words.sign
jump_decided stmt added t = (barred_decided None _, λ _. (semi_decided, λ _. tt))

-- A part with a test, or one without where there was none, is a part.
part_is_case : (a b d : Bool) → (a || (b && d)) ≡ true → (a || b) ≡ true
part_is_case true b d h = refl
part_is_case false true d h = refl
part_is_case false false d h = cc

module _ (below : Level) (known : Known below) where
  -- ---- blocks

  series_decided : (inside : Inside) (y : Series) → Decided None (series_more inside below y)
  unfolding series_more
  series_decided inside y = ((known.statement inside y.state).decided, λ x. tt)

  series_eats : (inside : Inside) (y : Series) → Eats (series_more inside below y)
  unfolding series_more
  series_eats inside y = inl (known.statement inside y.state).eats

  pub block_turns : (inside : Inside) (y : Series) → Decided None (again (λ _ t. in_block t) (series_more inside below) y)
  unfolding series_more
  block_turns inside y =
      (λ _. no_block, λ y t h. statement_in_block inside t (sym ((known.statement inside y.state).begin t) ∙ h), series_eats inside, series_decided inside)

  pub case_turns : (inside : Inside) (y : Series) → Decided None (again (λ _ t. in_case t) (series_more inside below) y)
  unfolding series_more
  case_turns inside y =
      (λ _. no_case, λ y t h. statement_in_case inside t (sym ((known.statement inside y.state).begin t) ∙ h), series_eats inside, series_decided inside)

  block_decided : (inside : Inside) (added : State) → Decided None (block inside below added)
  unfolding statements block series_more words.sign
  block_decided inside added = (block_turns (braces inside) (series [] added nothing), λ y. (sign_decided p.RightBrace, λ _. tt))

  braced_decided : (inside : Inside) (added : State) → Decided None (braced inside below added)
  unfolding block braced words.sign
  braced_decided inside added = (sign_decided p.LeftBrace, λ _. block_decided inside added)

  pub block_statement_decided : (inside : Inside) (added : State) (t : Next) → Decided None (block_statement below inside added t)
  unfolding block_statement block words.sign
  block_statement_decided inside added t = (block_decided inside added, λ y. tt)

  -- ---- `var`

  initial_decided : (room : ℕ) (x : Context) (n : List ℕ) (d : Decls) → Decided None (initial room below x n d)
  unfolding initial words.deeper words.name words.sound
  initial_decided room x n d = (
    λ t h. may_deeper room (shows p.Assign) t ∙ turned (shows p.Assign t) h,
    (deeper_decided room (shows p.Assign) (no_sign p.Assign), λ _. ((known.assign x d.state.codes).decided, λ y. tt)),
    (tt, λ _. tt),
  )

  decl_decided : (room : ℕ) (x : Context) (d : Decls) → Decided None (decl_more room below x d)
  unfolding decl_more initial words.deeper words.name words.sign words.sound
  decl_decided room x d = (sign_decided p.Comma, λ _. (name_decided, λ n. initial_decided room x n d))

  decl_eats : (room : ℕ) (x : Context) (d : Decls) → Eats (decl_more room below x d)
  unfolding decl_more initial words.deeper words.name words.sign words.sound
  decl_eats room x d = inl (inl tt)

  pub decl_turns : (room : ℕ) (x : Context) (d : Decls) → Decided None (again (λ _ t. shows p.Comma t) (decl_more room below x) d)
  unfolding decl_more initial words.deeper words.name words.sign words.sound
  decl_turns room x d = (λ _. no_sign p.Comma, λ y t h. h, decl_eats room x, decl_decided room x)

  pub variables_decided : (room : ℕ) (x : Context) (at : ℕ) (n : List ℕ) (added : State) → Decided None (variables room below x at n added)
  unfolding variables initial words.deeper words.name words.sound
  variables_decided room x at n added = (initial_decided room x n (decls [] added nothing), λ d. (decl_turns room x d, λ d. tt))

  pub var_decided : (room : ℕ) (inside : Inside) (added : State) (t : Next) → Decided None (var_statement room below inside added t)
  unfolding var_statement semi words.name words.sign words.sound
  var_decided room inside added t = (name_decided, λ n. (variables_decided room (context (c.Statement inside.after)) _ n added, λ v. (semi_decided, λ _. tt)))

  -- ---- `if`, `do` and `while`

  condition_decided : (codes : List FnCode) → Decided None (condition below codes)
  unfolding condition words.sign
  condition_decided codes = (sign_decided p.LeftParen, λ _. ((known.expr (context c.Paren) codes).decided, λ x. (sign_decided p.RightParen, λ _. tt)))

  pub if_decided : (inside : Inside) (added : State) (t : Next) → Decided None (if_statement below inside added t)
  unfolding if_statement condition statement_rules.else_part statement_rules.other_part words.sign words.word
  if_decided inside added t = (
    condition_decided added.codes,
    λ x. (
      (known.statement (before_else inside) (state x.codes added.vars)).decided,
      λ y. (
        λ u h. turned (says w.Else u) h,
        (word_decided w.Else, λ _. ((known.statement inside y.state).decided, λ z. tt)),
        (tt, λ _. tt),
      ),
    ),
  )

  pub do_decided : (inside : Inside) (added : State) (t : Next) → Decided None (do_statement below inside added t)
  unfolding do_statement condition semi rules.ended statement_rules.repeated words.sign words.word
  do_decided inside added t = (
    (known.statement (doing inside) added).decided,
    λ y. (word_decided w.While, λ _. (condition_decided y.state.codes, λ x. (semi_decided, λ _. tt))),
  )

  pub while_decided : (inside : Inside) (added : State) (t : Next) → Decided None (while_statement below inside added t)
  unfolding while_statement condition words.sign
  while_decided inside added t = (condition_decided added.codes, λ x. ((known.statement (turning inside) (state x.codes added.vars)).decided, λ y. tt))

  -- ---- `return` and `throw`

  pub return_decided : (inside : Inside) (added : State) (t : Next) → Decided None (return_statement below inside added t)
  unfolding return_statement semi rules.ended words.sign
  return_decided inside added t = (
    λ u h. turned (ends u) h,
    (semi_decided, λ _. tt),
    (tt, λ _. ((known.expr (context (c.Statement inside.after)) added.codes).decided, λ x. (semi_decided, λ _. tt))),
  )

  pub throw_decided : (inside : Inside) (added : State) (t : Next) → Decided None (throw_statement below inside added t)
  unfolding throw_statement semi rules.ended words.sign
  throw_decided inside added t = (barred_decided None _, λ _. (tt, λ _. ((known.expr (context (c.Statement inside.after)) added.codes).decided, λ x. (semi_decided, λ _. tt))))

  -- ---- `switch`

  case_body_decided : (inside : Inside) (y : Cases) (test : Option Expr) → Decided None (case_body below inside y test)
  unfolding case_body series_more
  case_body_decided inside y test = (case_turns (choosing inside) (series [] y.state nothing), λ z. tt)

  case_decided : (inside : Inside) (y : Cases) → Decided None (case_part below inside y)
  unfolding case_part statement_rules.case_clause statement_rules.default_clause words.sign words.word
  case_decided inside y = (
    λ t h. default_no_case t (first_true (says w.Default t) _ h),
    (
      word_decided w.Case,
      λ _. ((known.expr (context c.Case) y.state.codes).decided, λ x. (sign_decided p.Colon, λ _. case_body_decided inside (cases y.cases (state x.codes y.state.vars) y.has_default (both y.depth x.depth)) (Some x.value))),
    ),
    (barred_and (says w.Default None) _ (no_word w.Default), λ _. (sign_decided p.Colon, λ _. case_body_decided inside (cases y.cases y.state true y.depth) None)),
  )

  case_eats : (inside : Inside) (y : Cases) → Eats (case_part below inside y)
  unfolding case_part statement_rules.case_clause statement_rules.default_clause words.sign words.word
  case_eats inside y = (inl (inl tt), inl tt)

  pub switch_turns : (inside : Inside) (y : Cases) → Decided None (again (λ _ u. is_case u) (case_part below inside) y)
  switch_turns inside y = (
    λ _. no_part,
    λ y t h. part_is_case (says w.Case t) (says w.Default t) _ (sym (case_may below inside y t) ∙ h),
    case_eats inside,
    case_decided inside,
  )

  pub switch_decided : (inside : Inside) (added : State) (t : Next) → Decided None (switch_statement below inside added t)
  unfolding switch_statement switch_cases condition statement_rules.switch_parts words.sign
  switch_decided inside added t = (
    condition_decided added.codes,
    λ x. (sign_decided p.LeftBrace, λ _. (switch_turns inside (cases [] (state x.codes added.vars) false nothing), λ y. (sign_decided p.RightBrace, λ _. tt))),
  )

  -- ---- `try`

  finally_decided : (inside : Inside) (t : Next) (y : Series) → Decided None (finally_part below inside t y)
  unfolding finally_part block braced words.sign words.word
  finally_decided inside t y = (word_decided w.Finally, λ _. (braced_decided inside y.state, λ v. tt))

  catch_decided : (inside : Inside) (t : Next) (y : Series) → Decided None (catch_part below inside t y)
  unfolding catch_part block braced statement_rules.caught words.name words.sign words.sound words.word
  catch_decided inside t y = (
    word_decided w.Catch,
    λ _. (
      sign_decided p.LeftParen,
      λ _. (
        name_decided,
        λ n. (
          sign_decided p.RightParen,
          λ _. (
            braced_decided inside y.state,
            λ z. (
              λ u h. turned (says w.Finally u) h,
              (word_decided w.Finally, λ _. (braced_decided inside z.state, λ v. tt)),
              (tt, λ _. tt),
            ),
          ),
        ),
      ),
    ),
  )

  pub try_decided : (inside : Inside) (added : State) (t : Next) → Decided None (try_statement below inside added t)
  unfolding try_statement block braced words.sign
  try_decided inside added t = (
    braced_decided inside added,
    λ y. (
      λ u h. catch_may below inside t y u ∙ finally_no_catch u (sym (finally_may below inside t y u) ∙ h),
      catch_decided inside t y,
      finally_decided inside t y,
    ),
  )

  -- ---- expression statements

  pub expression_decided : (inside : Inside) (added : State) → Decided None (expression_statement below inside added)
  unfolding expression_statement semi rules.ended words.sign
  expression_decided inside added = ((known.expr (context (c.Statement inside.after)) added.codes).decided, λ x. (barred_decided None _, λ _. (semi_decided, λ _. tt)))

  pub expression_eats : (inside : Inside) (added : State) → Eats (expression_statement below inside added)
  unfolding expression_statement semi rules.ended words.sign
  expression_eats inside added = inl (known.expr (context (c.Statement inside.after)) added.codes).eats
