-- One token decides in `for`.
use Rattle.std.proofs.Common.{◌≡◌, ℕ, ◌-◌, Bool, true, false, List, Option, Some, None, sym, ◌∙◌}
use Rattle.std.specs.Prelude.{◌||◌, not}
use Rattle.grammar.specs.Reading.{Decided}
use Rattle.grammar.proofs.Words.{turned}
use Rattle.js_lexer.specs.declared.token.Punct.{Punct}
use Rattle.js_lexer.specs.declared.token.Punct.TheVariants as p
use Rattle.js_lexer.specs.declared.token.Word.TheVariants as w
use Rattle.js_tree.specs.declared.code.FnCode.{FnCode}
use Rattle.js_tree.specs.declared.stmt.Stmt.{Stmt}
use Rattle.js_tree.specs.declared.stmt.Stmt.TheVariants as s
use Rattle.js_nodes.specs.declared.context.Closer.TheVariants as c
use Rattle.js_nodes.specs.declared.context.Closer.{Closer}
use Rattle.js_nodes.specs.declared.context.Inside.{Inside}
use Rattle.js_nodes.specs.declared.depth.Depth.{Depth}
use Rattle.js_nodes.specs.declared.operand.Operand.{Operand}
use Rattle.js_nodes.specs.declared.series.State.{State}
use Rattle.js_nodes.specs.Next.{Next, place, shows, says}
use Rattle.js_nodes.specs.Operands.{nothing, raised, level_flaw, context, first_context, is_bare_name, name_of}
use Rattle.js_parser.specs.Levels.{Level}
use Rattle.js_nodes.specs.Pieces.{state}
use Rattle.js_nodes.specs.Pieces.{declared, turning}
use Rattle.js_parser.specs.Heads.{head_part, for_rest, for_each, for_variables, for_expression, for_head, for_statement}
use Rattle.js_parser.proofs.DecidedWords.{barred_and, no_word, no_sign, may_takes, takes_decided, sign_decided, word_decided, name_decided}
use Rattle.js_parser.proofs.DecidedKinds.{sign_no_word, var_no_semicolon}
use Rattle.js_parser.proofs.DecidedLevels.{Known}
use Rattle.js_cursor.specs.Words as words
use Rattle.js_parser.specs.Heads as heads

-- What is neither of two isn't the second.
neither : (a b : Bool) → not (a || b) ≡ true → b ≡ false
neither true b h = cc
neither false b h = turned b h

module _ (below : Level) (known : Known below) where
  part_decided : (closer : Closer) (end : Punct) (codes : List FnCode) → Decided None (head_part below closer end codes)
  unfolding head_part words.sign
  part_decided closer end codes = (
    λ t h. turned (shows end t) h,
    (sign_decided end, λ _. tt),
    (tt, λ _. ((known.expr (context closer) codes).decided, λ x. (sign_decided end, λ _. tt))),
  )

  rest_decided : (inside : Inside) (t : Next) (head : Option Stmt) (added : State) (depth : Depth) → Decided None (for_rest below inside t head added depth)
  unfolding for_rest heads.for_body
  rest_decided inside t head added depth = (
    part_decided c.Semicolon p.Semicolon added.codes,
    λ y. (
      part_decided c.Paren p.RightParen y.codes,
      λ z. ((known.statement (turning inside) (state z.codes added.vars)).decided, λ v. tt),
    ),
  )

  each_decided : (inside : Inside) (t : Next) (n : List ℕ) (added : State) → Decided None (for_each below inside t n added)
  unfolding for_each heads.each_body words.sign
  each_decided inside t n added = (
    (known.expr (context c.Paren) added.codes).decided,
    λ x. (sign_decided p.RightParen, λ _. ((known.statement (turning inside) (state x.codes added.vars)).decided, λ v. tt)),
  )

  head_variables_decided : (inside : Inside) (t : Next) (at : ℕ) (added : State) → Decided None (for_variables below inside t at added)
  unfolding for_variables heads.for_declared heads.for_listed heads.for_named words.name words.sign words.sound words.word
  head_variables_decided inside t at added = (
    name_decided,
    λ n. (
      λ a h. turned (says w.In a) h,
      (word_decided w.In, λ _. each_decided inside t n (declared added n)),
      (
        tt,
        λ _. (known.variables first_context at n added, λ d. (sign_decided p.Semicolon, λ _. rest_decided inside t (Some d.stmt) d.state d.depth)),
      ),
    ),
  )

  head_expression_decided : (room : ℕ) (inside : Inside) (t : Next) (vars : List (List ℕ)) (x : Operand) → Decided None (for_expression room below inside t vars x)
  unfolding for_expression heads.for_first words.sound words.takes
  head_expression_decided room inside t vars x = (
    λ u h. barred_and (says w.In u) (is_bare_name x) (sign_no_word p.Semicolon w.In u (sym (may_takes (shows p.Semicolon) (level_flaw (room - 1) x.depth) u) ∙ h)),
    (barred_and (says w.In None) (is_bare_name x) (no_word w.In), λ _. each_decided inside t (name_of x.value) (state x.codes vars)),
    (takes_decided (shows p.Semicolon) (level_flaw (room - 1) x.depth) (no_sign p.Semicolon), λ _. rest_decided inside t (Some (s.Expr x.value)) (state x.codes vars) (raised x.at x.depth)),
  )

  head_decided : (room : ℕ) (inside : Inside) (t : Next) (added : State) → Decided None (for_head room below inside t added)
  unfolding for_head words.sign
  head_decided room inside t added = (
    var_no_semicolon,
    (sign_decided p.Semicolon, λ _. rest_decided inside t None added nothing),
    (
      λ u h. neither (shows p.Semicolon u) (says w.Var u) h,
      (no_word w.Var, λ u. head_variables_decided inside t (place u) added),
      (tt, λ _. (known.first added.codes, λ x. head_expression_decided room inside t added.vars x)),
    ),
  )

  pub for_decided : (room : ℕ) (inside : Inside) (added : State) (t : Next) → Decided None (for_statement room below inside added t)
  unfolding for_statement words.sign
  for_decided room inside added t = (sign_decided p.LeftParen, λ _. head_decided room inside t added)
