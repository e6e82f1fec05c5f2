-- Every program that is derived is valid (ECMA-262 5.1, sections 11 to 14).
use Rattle.std.proofs.Common.{◌≡◌, ℕ, zero, suc, ◌≤◌, true, List, [], ◌∷◌, ◌++◌, length, map, Some, None, refl, arith}
use Rattle.std.specs.Prelude.{All}
use Rattle.std.proofs.lemmas.List.Elements.{All-nil, All-push, All-weaker, All-map}
use Rattle.grammar.specs.Grammar.{Derives, first}
use Rattle.grammar.proofs.Giving.{gives, kept}
use Rattle.js_lexer.specs.declared.token.Kind.{Kind}
use Rattle.js_lexer.specs.declared.token.Kind.TheVariants as k
use Rattle.js_lexer.specs.declared.token.Punct.TheVariants as p
use Rattle.js_lexer.specs.declared.token.Word.TheVariants as w
use Rattle.js_lexer.specs.declared.token.Token.{Token}
use Rattle.js_lexer.specs.Tokens.{IsNumeral}
use Rattle.js_tree.specs.declared.code.FnCode.{FnCode}
use Rattle.js_tree.specs.declared.code.Program.{Program}
use Rattle.js_tree.specs.declared.stmt.Stmt.TheVariants as s
use Rattle.js_tree.specs.Valid.{Surroundings, ValidStmt, IsNamed, ValidCode, IsValid}
use Rattle.js_tree.specs.Valid as valid
use Rattle.js_nodes.specs.declared.context.Inside.{Inside}
use Rattle.js_nodes.specs.declared.operand.Coded.{Coded}
use Rattle.js_nodes.specs.declared.series.State.{State}
use Rattle.js_nodes.specs.declared.series.Said.{Said}
use Rattle.js_nodes.specs.declared.series.Body.{Body}
use Rattle.js_nodes.specs.Next.{Next, of, place, is_there, text}
use Rattle.js_cursor.specs.Words.{too_deep}
use Rattle.js_nodes.specs.Operands.{nothing, both, raised}
use Rattle.js_parser.specs.Levels.{Level}
use Rattle.js_nodes.specs.Pieces.{state, body}
use Rattle.js_nodes.specs.Classes.{opens_kind, opens, requires_part}
use Rattle.js_parser.specs.Sources.{statement_kind, statement_by, statement, body_more, declaration, source, level, program_of, program}
use Rattle.js_nodes.specs.Pieces.{outside}
use Rattle.js_parser.proofs.ValidCodes.{adds_length, adds_named, adds_none, adds_both}
use Rattle.js_parser.proofs.ValidFits.{Fine, Has, use_of, let_through, height_raised, left_height, right_height, both_height}
use Rattle.js_parser.proofs.ValidLevels.{around, FitsState, FitsSaid, FitsBody, Valid, no_body, stmts_more}
use Rattle.js_parser.proofs.ValidFunctions.{FitsCoded, code_fits}
use Rattle.js_parser.proofs.ValidChains.{callee_fits}
use Rattle.js_parser.proofs.ValidExpressions.{binary_fits, assign_fits, expr_fits, first_fits}
use Rattle.js_parser.proofs.ValidSeries.{said_fits, said_wider}
use Rattle.js_parser.proofs.ValidStatements.{block_fits, variables_fit, var_statement_fits, if_fits, do_fits, while_fits, jump_fits, return_fits, throw_fits, expression_fits, switch_fits, try_statement_fits}
use Rattle.js_parser.proofs.ValidHeads.{for_fits}
use Rattle.js_cursor.specs.Words as words
use Rattle.js_parser.specs.Sources as sources

-- what a body is with one function more that it declares
declared_fits : (room : ℕ) (q : Surroundings) (cs : List FnCode) (b : Body) (n : List ℕ) (all : Coded) (at : ℕ) → FitsBody (suc room) q cs b → FitsCoded room (Some n) b.state.codes all → FitsBody (suc room) q cs (body b.stmts (state all.codes b.state.vars) (b.funs ++ length b.state.codes ∷ []) (both b.depth (raised at all.depth)))
declared_fits room q cs b n all at f k =
    let d = raised at all.depth in
    record {
      adds = adds_both f.adds k.adds;
      vars = f.vars;
      height = both_height b.depth d (suc room) f.height (omega (arith, height_raised at all.depth, k.height));
      funs = All-push (IsNamed all.codes) b.funs (length b.state.codes) (All-weaker (IsNamed b.state.codes) (IsNamed all.codes) (λ m h. adds_named k.adds m h) b.funs f.funs) (k.named refl);
      valid = stmts_more b.depth.height (both b.depth d).height (length b.state.codes) (length all.codes) q b.stmts (left_height b.depth d) (adds_length k.adds) f.valid;
    }

-- the same with one statement more
body_fits : (room : ℕ) (q : Surroundings) (cs : List FnCode) (b : Body) (x : Said) → FitsBody room q cs b → FitsSaid room q b.state.codes x → FitsBody room q cs (body_more b x)
body_fits room q cs b x f k =
    let h = (both b.depth x.depth).height in
    record {
      adds = adds_both f.adds k.adds;
      vars = k.vars;
      height = both_height b.depth x.depth room f.height k.height;
      funs = All-weaker (IsNamed b.state.codes) (IsNamed x.state.codes) (λ m n. adds_named k.adds m n) b.funs f.funs;
      valid = All-push (ValidStmt h (length x.state.codes) q) b.stmts x.stmt
          (stmts_more b.depth.height h (length b.state.codes) (length x.state.codes) q b.stmts (left_height b.depth x.depth) (adds_length k.adds) f.valid)
          (said_wider k h x.state.codes (right_height b.depth x.depth) (adds_none x.state.codes k.adds.ready));
    }

module _ (room : ℕ) (below : Level) (known : Valid room below) where
  kind_fits : (inside : Inside) (added : State) (t : Next) (kind : Kind) → FitsState added → opens_kind inside kind ≡ true → Has (statement_kind (suc room) below inside added t kind) (FitsSaid (suc room) (around inside) added.codes)
  unfolding statement_kind
  kind_fits inside added t (k.Punct p.LeftBrace) f e = block_fits room below known inside added t f
  kind_fits inside added t (k.Punct p.Semicolon) f e = record { at = λ u. said_fits room (around inside) added.codes s.Empty added (place t) nothing (adds_none added.codes f.ready) f.vars (omega arith) (rw s.outs-Empty tt) }
  kind_fits inside added t (k.Word w.Var) f e = var_statement_fits room below known inside added t f
  kind_fits inside added t (k.Word w.If) f e = if_fits room below known inside added t f
  kind_fits inside added t (k.Word w.Do) f e = do_fits room below known inside added t f
  kind_fits inside added t (k.Word w.While) f e = while_fits room below known inside added t f
  kind_fits inside added t (k.Word w.For) f e = for_fits room below known inside added t f
  kind_fits inside added t (k.Word w.Continue) f e = jump_fits room below known inside s.Continue added t f (rw s.outs-Continue e)
  kind_fits inside added t (k.Word w.Break) f e = jump_fits room below known inside s.Break added t f (rw s.outs-Break e)
  kind_fits inside added t (k.Word w.Return) f e = return_fits room below known inside added t f e
  kind_fits inside added t (k.Word w.Throw) f e = throw_fits room below known inside added t f
  kind_fits inside added t (k.Word w.Switch) f e = switch_fits room below known inside added t f
  kind_fits inside added t (k.Word w.Try) f e = try_statement_fits room below known inside added t f
  kind_fits inside added t _ f e = record { at = λ u. tt }

  by_fits : (inside : Inside) (added : State) (t : Next) → FitsState added → opens inside t ≡ true → Has (statement_by (suc room) below inside added t) (FitsSaid (suc room) (around inside) added.codes)
  unfolding opens statement_by
  by_fits inside added None f e = record { at = λ u. tt }
  by_fits inside added (Some t) f e = kind_fits inside added (Some t) t.kind f e

  statement_fits : (inside : Inside) (added : State) → FitsState added → Has (statement (suc room) below inside added) (FitsSaid (suc room) (around inside) added.codes)
  unfolding statement sources.told_statement statement_by words.sound
  statement_fits inside added f = record {
    at = λ t. (
      (tt, λ _ e u. (by_fits inside added t f (let_through (opens inside t) (too_deep (suc room) (of requires_part) t) e).0).at u),
      λ _. (expression_fits room below known inside added f).at t,
    );
  }

  declaration_fits : (q : Surroundings) (cs : List FnCode) (b : Body) → FitsBody (suc room) q cs b → Has (declaration below b) (FitsBody (suc room) q cs)
  unfolding declaration words.name words.sound
  declaration_fits q cs b f = record {
    at = λ t. λ _ _ u. (
      tt,
      λ _ _ r.
          use_of (code_fits room below known (Some (text u)) b.state.codes f.adds.ready) r _ (λ all o m. declared_fits room q cs b (text u) all (place t) f m),
    );
  }

  source_fits : (inside : Inside) (cs : List FnCode) (b : Body) → FitsBody (suc room) (around inside) cs b → Has (source (suc room) below inside b) (FitsBody (suc room) (around inside) cs)
  unfolding source
  source_fits inside cs b f = record {
    at = λ t. (
      (declaration_fits (around inside) cs b f).at t,
      use_of (statement_fits inside b.state (record { ready = f.adds.ready; vars = f.vars })) t _ (λ x u m. body_fits (suc room) (around inside) cs b x f m),
    );
  }

-- ---- levels

-- What the rules give with so many levels left is valid with so many.
level_valid : (room : ℕ) → room ≤ 128 → Valid room (level room)
unfolding level
level_valid zero l = record {
  small = l;
  binary = λ x n cs h. record { at = λ t. tt };
  assign = λ x cs h. record { at = λ t. tt };
  expr = λ x cs h. record { at = λ t. tt };
  callee = λ cs h. record { at = λ t. tt };
  first = λ cs h. record { at = λ t. tt };
  variables = λ x at n q added f. record { at = λ t. tt };
  statement = λ inside added f. record { at = λ t. tt };
  source = λ inside cs b f. record { at = λ t. tt };
}
level_valid (suc room) l =
    let known = level_valid room (omega arith) in
    record {
      small = l;
      binary = binary_fits room (level room) known;
      assign = assign_fits room (level room) known;
      expr = expr_fits room (level room) known;
      callee = callee_fits room (level room) known;
      first = first_fits room (level room) known;
      variables = variables_fit room (level room) known;
      statement = statement_fits room (level room) known;
      source = source_fits room (level room) known;
    }

-- ---- whole scripts

-- The program of a body that fits is valid.
program_fits : (b : Body) → FitsBody 128 (around outside) [] b → IsValid (program_of b)
program_fits b f = record {
  codes = f.adds.ready;
  vars = f.vars;
  funs = f.funs;
  body = stmts_more b.depth.height 128 (length b.state.codes) (length b.state.codes) valid.outside b.stmts f.height (omega arith) f.valid;
}

-- Each program of the grammar is valid.
program_has : Has program IsValid
unfolding program
program_has = record {
  at = λ t. kept Fine (λ _ u. is_there u) (λ b. (level 128).source outside b) (body [] (state [] []) [] nothing) t _ (FitsBody 128 (around outside) [])
      (no_body 128 (around outside) [] (All-nil (ValidCode [])))
      (λ b u f. ((level_valid 128 (omega arith)).source outside [] b f).at u)
      (λ b u f. program_fits b f);
}

-- Every program that is derived from tokens whose numbers are from 0 to 2^53 - 1 is valid.
pub program_valid : (tokens : List Token) (p : Program) → All (λ (t : Token). IsNumeral t.kind) tokens → Derives program (map Some tokens) p None → IsValid p
program_valid tokens p all d = gives Fine program (map Some tokens) p None (λ v _. IsValid v) (All-map Fine Some tokens all) d (program_has.at (first (map Some tokens) None))
