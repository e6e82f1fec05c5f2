-- What each part of a choice begins with.
use Rattle.std.proofs.Common.{◌≡◌, ℕ, Bool, true, false, cond, List, Some, None, refl, sym, ap, ◌∙◌}
use Rattle.std.specs.Prelude.{◌||◌, ◌&&◌, not, nat_le}
use Rattle.grammar.specs.Reading.{is_some, may}
use Rattle.js_lexer.specs.declared.token.Kind.{Kind}
use Rattle.js_lexer.specs.declared.token.Punct.TheVariants as p
use Rattle.js_lexer.specs.declared.token.Word.TheVariants as w
use Rattle.js_tree.specs.declared.code.FnCode.{FnCode}
use Rattle.js_nodes.specs.declared.fault.Fault.{Fault}
use Rattle.js_nodes.specs.declared.context.Context.{Context}
use Rattle.js_nodes.specs.declared.context.Inside.{Inside}
use Rattle.js_nodes.specs.declared.operand.Operand.{Operand}
use Rattle.js_nodes.specs.declared.series.State.{State}
use Rattle.js_nodes.specs.declared.series.Body.{Body}
use Rattle.js_nodes.specs.declared.series.Cases.{Cases}
use Rattle.js_nodes.specs.declared.series.Series.{Series}
use Rattle.js_nodes.specs.declared.series.Decls.{Decls}
use Rattle.js_nodes.specs.Next.{Next, of, shows, says, is_left_out_name, is_slash}
use Rattle.js_cursor.specs.Words.{sound, too_deep}
use Rattle.js_nodes.specs.Operators.{is_prefix}
use Rattle.js_nodes.specs.Operands.{level_flaw}
use Rattle.js_parser.specs.Levels.{Level}
use Rattle.js_nodes.specs.Classes.{begins_primary}
use Rattle.js_cursor.specs.Questions.{primary_flaw}
use Rattle.js_parser.specs.Primary.{primary}
use Rattle.js_parser.specs.Chains.{link, construction, head, left}
use Rattle.js_parser.specs.Expressions.{prefix, postfix, unary, binds_at, operation, comma}
use Rattle.js_parser.specs.Statements.{case_part, finally_part, catch_part, decl_more}
use Rattle.js_cursor.specs.Questions.{begins_statement}
use Rattle.js_nodes.specs.Classes.{requires_part, opens}
use Rattle.js_parser.specs.Sources.{declaration, statement, source}
use Rattle.js_parser.proofs.DecidedWords.{may_sound, may_takes, may_deeper, may_too_deep}
use Rattle.js_parser.proofs.DecidedKinds.{at_sign, part_opens, primary_begins, left_begins, operand_begins, prefix_or_left, statement_begins, source_begins}
use Rattle.js_cursor.specs.Rules as rules
use Rattle.js_cursor.specs.Words as words
use Rattle.js_parser.specs.Chains as chains
use Rattle.js_parser.specs.Primary as primaries
use Rattle.js_parser.specs.Sources as sources
use Rattle.js_parser.specs.Statements as statement_rules

-- A fault of what begins something adds no other beginning.
primary_flagged : (a c d e : Bool) (f g : Fault) → (c ≡ true → e ≡ true) → (is_some (cond a (Some f) (cond (c && d) (Some g) None)) || e) ≡ (a || e)
primary_flagged true c d e f g h = refl
primary_flagged false true true e f g h = sym (h refl)
primary_flagged false true false e f g h = refl
primary_flagged false false d e f g h = refl

-- A `(` begins a primary expression.
paren_begins : (t : Next) → shows p.LeftParen t ≡ true → of begins_primary t ≡ true
paren_begins t h = at_sign begins_primary p.LeftParen t h

-- A primary expression begins as its token says, or with what is left out.
pub primary_here : (room : ℕ) (t : Next) → (is_some (primary_flaw room t) || of begins_primary t) ≡ primary_begins t
primary_here room t = primary_flagged (of is_left_out_name t || of is_slash t) (shows p.LeftParen t) (nat_le room 1) (of begins_primary t) _ _ (paren_begins t)

-- A statement that its first token tells begins so.
pub opening_may : (room : ℕ) (inside : Inside) (t : Next) → may (sound (too_deep room (of requires_part)) (opens inside)) t ≡ opens inside t
unfolding sound
opening_may room inside t = may_too_deep room (of requires_part) (opens inside) t (part_opens inside t)

module _ (below : Level) where
  -- What each expression begins with.
  pub primary_may : (room : ℕ) (codes : List FnCode) (t : Next) → may (primary room below codes) t ≡ primary_begins t
  unfolding primary primaries.primary_by sound
  primary_may room codes t = may_sound (primary_flaw room) (of begins_primary) t ∙ primary_here room t

  pub link_may : (class : Kind → Bool) (room : ℕ) (x : Operand) (t : Next) → may (link class room below x) t ≡ of class t
  unfolding link chains.call chains.index chains.link_by chains.link_kind rules.indexed rules.member sound words.sign words.takes
  link_may class room x t = may_takes (of class) (level_flaw room x.depth) t

  pub construction_may : (room : ℕ) (codes : List FnCode) (t : Next) → may (construction room below codes) t ≡ says w.New t
  unfolding construction chains.new_arguments sound words.deeper words.sign
  construction_may room codes t = may_deeper room (says w.New) t

  pub head_may : (room : ℕ) (codes : List FnCode) (t : Next) → may (head room below codes) t ≡ left_begins t
  unfolding head
  head_may room codes t = ap (λ (b : Bool). b || may (primary room below codes) t) (construction_may room codes t) ∙ ap (λ (b : Bool). says w.New t || b) (primary_may room codes t)

  pub left_may : (room : ℕ) (codes : List FnCode) (t : Next) → may (left room below codes) t ≡ left_begins t
  unfolding left head
  left_may room codes t = head_may room codes t

  pub postfix_may : (room : ℕ) (codes : List FnCode) (t : Next) → may (postfix room below codes) t ≡ left_begins t
  unfolding postfix rules.stepped_or_not sound words.takes
  postfix_may room codes t = left_may room codes t

  pub prefix_may : (room : ℕ) (context : Context) (codes : List FnCode) (t : Next) → may (prefix room below context codes) t ≡ of is_prefix t
  unfolding prefix rules.prefix_end sound words.deeper
  prefix_may room context codes t = may_deeper room (of is_prefix) t

  pub unary_may : (room : ℕ) (context : Context) (codes : List FnCode) (t : Next) → may (unary room below context codes) t ≡ operand_begins t
  unfolding unary
  unary_may room context codes t = ap (λ (b : Bool). b || may (postfix room below codes) t) (prefix_may room context codes t) ∙ (ap (λ (b : Bool). of is_prefix t || b) (postfix_may room codes t) ∙ prefix_or_left t)

  pub operation_may : (room : ℕ) (context : Context) (n : ℕ) (x : Operand) (t : Next) → may (operation room below context n x) t ≡ binds_at context n t
  unfolding operation sound words.takes
  operation_may room context n x t = may_takes (binds_at context n) (level_flaw room x.depth) t

  pub comma_may : (room : ℕ) (context : Context) (x : Operand) (t : Next) → may (comma room below context x) t ≡ shows p.Comma t
  unfolding comma sound words.takes
  comma_may room context x t = may_takes (shows p.Comma) (level_flaw room x.depth) t

  -- What the parts of statements begin with.
  pub decl_may : (room : ℕ) (context : Context) (d : Decls) (t : Next) → may (decl_more room below context d) t ≡ shows p.Comma t
  unfolding decl_more sound statement_rules.initial words.deeper words.name words.sign
  decl_may room context d t = refl

  pub catch_may : (inside : Inside) (u : Next) (y : Series) (t : Next) → may (catch_part below inside u y) t ≡ says w.Catch t
  unfolding catch_part sound statement_rules.block statement_rules.braced statement_rules.caught words.name words.sign words.word
  catch_may inside u y t = refl

  pub finally_may : (inside : Inside) (u : Next) (y : Series) (t : Next) → may (finally_part below inside u y) t ≡ says w.Finally t
  unfolding finally_part statement_rules.block statement_rules.braced words.sign words.word
  finally_may inside u y t = refl

  pub case_may : (inside : Inside) (y : Cases) (t : Next) → may (case_part below inside y) t ≡ (says w.Case t || (says w.Default t && not y.has_default))
  unfolding case_part statement_rules.case_clause statement_rules.default_clause words.sign words.word
  case_may inside y t = refl

  pub declaration_may : (b : Body) (t : Next) → may (declaration below b) t ≡ says w.Function t
  unfolding declaration sound words.name
  declaration_may b t = refl

  -- What statements and source elements begin with.
  pub statement_may : (room : ℕ) (inside : Inside) (added : State) (t : Next) → may (statement room below inside added) t ≡ statement_begins inside t
  unfolding statement sound sources.statement_by sources.told_statement
  statement_may room inside added t = ap (λ (b : Bool). b || begins_statement t) (opening_may room inside t)

  pub source_may : (room : ℕ) (inside : Inside) (b : Body) (t : Next) → may (source room below inside b) t ≡ source_begins inside t
  unfolding source declaration sound words.name
  source_may room inside b t = ap (λ (b : Bool). says w.Function t || b) (statement_may room inside b.state t)
