-- One token decides in expressions from the postfix operators up.
use Rattle.std.proofs.Common.{◌≡◌, ℕ, zero, suc, ◌-◌, Bool, true, false, cond, inl, List, Option, Some, None, refl, sym, ◌∙◌}
use Rattle.std.proofs.Math.Dec.{eqb-zero-suc}
use Rattle.std.specs.Prelude.{◌||◌, nat_le}
use Rattle.grammar.specs.Grammar.{refused, again}
use Rattle.grammar.specs.Reading.{is_some, Eats, Decided}
use Rattle.grammar.proofs.Words.{turned, barred_decided}
use Rattle.js_lexer.specs.declared.token.Punct.TheVariants as p
use Rattle.js_tree.specs.declared.code.FnCode.{FnCode}
use Rattle.js_nodes.specs.declared.fault.Fault.{Fault}
use Rattle.js_nodes.specs.declared.context.Context.{Context}
use Rattle.js_nodes.specs.declared.operand.Operand.{Operand}
use Rattle.js_nodes.specs.Next.{Next, of, shows, is_name, is_left_out_name, is_slash}
use Rattle.js_nodes.specs.Operators.{is_assignment, is_prefix}
use Rattle.js_nodes.specs.Operands.{level_flaw, target_flaw, middle, first_context, binds}
use Rattle.js_parser.specs.Levels.{Level}
use Rattle.js_cursor.specs.Questions.{is_postfix, begins_operand, operand_too_deep, unless_name}
use Rattle.js_parser.specs.Expressions.{postfix, flaw_of_prefix, prefix, unary, binds_at, operation, binary, conditional, assign, comma, expr, first}
use Rattle.js_cursor.specs.Rules.{prefix_end, lone_name}
use Rattle.js_parser.proofs.DecidedWords.{may_takes, sound_decided, takes_decided, deeper_decided, no_sign, sign_decided}
use Rattle.js_parser.proofs.DecidedKinds.{operand_begins, left_not_prefix}
use Rattle.js_parser.proofs.DecidedMay.{prefix_may, postfix_may, unary_may, operation_may, comma_may}
use Rattle.js_parser.proofs.DecidedLevels.{Whole, Known}
use Rattle.js_parser.proofs.DecidedOperands.{left_whole}
use Rattle.js_cursor.specs.Rules as rules
use Rattle.js_cursor.specs.Words as words
use Rattle.js_parser.specs.Expressions as expression_rules

-- Where no level is left each beginning shows a fault.
deep_flagged : (a b : Bool) (f g : Fault) → is_some (cond a (Some f) (cond b (Some g) None)) ≡ (a || b)
deep_flagged true b f g = refl
deep_flagged false true f g = refl
deep_flagged false false f g = refl

-- where no level is left
pub operand_deep : Whole {A = Operand} operand_begins (refused operand_too_deep)
operand_deep = record { decided = tt; eats = tt; begin = λ t. deep_flagged (of is_left_out_name t || of is_slash t) (begins_operand t) _ _ }

-- Behind a prefix operator's operand nothing is read.
prefix_end_decided : (context : Context) (t : Next) (x : Operand) (flaw : Option Fault) → Decided None (prefix_end context t x flaw)
unfolding prefix_end
prefix_end_decided context t x None = tt
prefix_end_decided context t x (Some f) = tt

-- No operator stands at the end.
no_operator : (context : Context) (n : ℕ) → binds_at context (suc n) None ≡ false
unfolding binds
no_operator context n = eqb-zero-suc n

-- ---- a name alone

lone_name_decided : (codes : List FnCode) → Decided None (lone_name codes)
unfolding lone_name words.sound
lone_name_decided codes = (sound_decided unless_name (of is_name) refl, λ t. (barred_decided None _, λ _. tt))

module _ (below : Level) (known : Known below) where
  postfix_decided : (room : ℕ) (codes : List FnCode) → Decided None (postfix room below codes)
  unfolding postfix rules.stepped_or_not words.sound words.takes
  postfix_decided room codes = (
    (left_whole below known room codes).decided,
    λ x. (
      λ t h. may_takes is_postfix (target_flaw room x) t ∙ turned (is_postfix t) h,
      (takes_decided is_postfix (target_flaw room x) refl, λ t. tt),
      (tt, λ _. tt),
    ),
  )

  postfix_eats : (room : ℕ) (codes : List FnCode) → Eats (postfix room below codes)
  unfolding postfix rules.stepped_or_not words.sound words.takes
  postfix_eats room codes = inl (left_whole below known room codes).eats

  prefix_decided : (room : ℕ) (context : Context) (codes : List FnCode) → Decided None (prefix room below context codes)
  unfolding prefix prefix_end words.deeper words.sound
  prefix_decided room context codes = (
    deeper_decided room (of is_prefix) refl,
    λ t. ((known.binary context 0 codes).decided, λ x. prefix_end_decided context t x (flaw_of_prefix t x)),
  )

  prefix_eats : (room : ℕ) (context : Context) (codes : List FnCode) → Eats (prefix room below context codes)
  unfolding prefix prefix_end words.deeper words.sound
  prefix_eats room context codes = inl (tt, tt)

  unary_whole : (room : ℕ) (context : Context) (codes : List FnCode) → Whole operand_begins (unary room below context codes)
  unfolding unary
  unary_whole room context codes = record {
    decided = (
      λ t h. prefix_may below room context codes t ∙ left_not_prefix t (sym (postfix_may below room codes t) ∙ h),
      prefix_decided room context codes,
      postfix_decided room codes,
    );
    eats = (prefix_eats room context codes, postfix_eats room codes);
    begin = unary_may below room context codes;
  }

  operation_decided : (room : ℕ) (context : Context) (n : ℕ) (x : Operand) → Decided None (operation room below context (suc n) x)
  unfolding operation words.sound words.takes
  operation_decided room context n x =
      (takes_decided (binds_at context (suc n)) (level_flaw room x.depth) (no_operator context n), λ t. ((known.binary context (suc n - 1) x.codes).decided, λ y. tt))

  operation_eats : (room : ℕ) (context : Context) (n : ℕ) (x : Operand) → Eats (operation room below context n x)
  unfolding operation words.sound words.takes
  operation_eats room context n x = inl (tt, tt)

  pub operation_turns : (room : ℕ) (context : Context) (n : ℕ) (x : Operand) → Decided None (again (λ _ t. binds_at context (suc n) t) (operation room below context (suc n)) x)
  operation_turns room context n x =
      (λ _. no_operator context n, λ y t h. sym (operation_may below room context (suc n) y t) ∙ h, operation_eats room context (suc n), operation_decided room context n)

  pub binary_whole : (room : ℕ) (context : Context) (n : ℕ) (codes : List FnCode) → Whole operand_begins (binary room below context n codes)
  unfolding binary
  binary_whole room context zero codes = unary_whole room context codes
  binary_whole room context (suc n) codes =
      let i = binary_whole room context n codes in
      record { decided = (i.decided, operation_turns room context n); eats = inl i.eats; begin = i.begin }

  pub conditional_whole : (room : ℕ) (context : Context) (codes : List FnCode) → Whole operand_begins (conditional room below context codes)
  unfolding conditional expression_rules.branches expression_rules.chosen expression_rules.other_branch words.sign words.sound words.takes
  conditional_whole room context codes =
      let i = binary_whole room context 10 codes in
      record {
        decided = (
          i.decided,
          λ x. (
            λ t h. may_takes (shows p.Question) (level_flaw room x.depth) t ∙ turned (shows p.Question t) h,
            (
              takes_decided (shows p.Question) (level_flaw room x.depth) (no_sign p.Question),
              λ _. (
                (known.assign (middle context) x.codes).decided,
                λ y. (sign_decided p.Colon, λ _. ((known.assign context y.codes).decided, λ z. tt)),
              ),
            ),
            (tt, λ _. tt),
          ),
        );
        eats = inl i.eats;
        begin = i.begin;
      }

  pub assign_whole : (room : ℕ) (context : Context) (codes : List FnCode) → Whole operand_begins (assign room below context codes)
  unfolding assign expression_rules.assigned_or_not words.sound words.takes
  assign_whole room context codes =
      let i = conditional_whole room context codes in
      record {
        decided = (
          i.decided,
          λ x. (
            λ t h. may_takes (of is_assignment) (target_flaw room x) t ∙ turned (of is_assignment t) h,
            (takes_decided (of is_assignment) (target_flaw room x) refl, λ t. ((known.assign context x.codes).decided, λ y. tt)),
            (tt, λ _. tt),
          ),
        );
        eats = inl i.eats;
        begin = i.begin;
      }

  comma_decided : (room : ℕ) (context : Context) (x : Operand) → Decided None (comma room below context x)
  unfolding comma words.sound words.takes
  comma_decided room context x =
      (takes_decided (shows p.Comma) (level_flaw room x.depth) (no_sign p.Comma), λ _. ((known.assign context x.codes).decided, λ y. tt))

  comma_eats : (room : ℕ) (context : Context) (x : Operand) → Eats (comma room below context x)
  unfolding comma words.sound words.takes
  comma_eats room context x = inl (tt, tt)

  pub comma_turns : (room : ℕ) (context : Context) (x : Operand) → Decided None (again (λ _ t. shows p.Comma t) (comma room below context) x)
  comma_turns room context x = (λ _. no_sign p.Comma, λ y t h. sym (comma_may below room context y t) ∙ h, comma_eats room context, comma_decided room context)

  pub expr_whole : (room : ℕ) (context : Context) (codes : List FnCode) → Whole operand_begins (expr room below context codes)
  unfolding expr
  expr_whole room context codes =
      let i = assign_whole room context codes in
      record { decided = (i.decided, comma_turns room context); eats = inl i.eats; begin = i.begin }

  first_cond : (b : Bool) (codes : List FnCode) → Decided None (cond b (lone_name codes) (below.expr first_context codes))
  first_cond true codes = lone_name_decided codes
  first_cond false codes = (known.expr first_context codes).decided

  pub first_decided : (room : ℕ) (codes : List FnCode) → Decided None (first room below codes)
  unfolding first
  first_decided room codes = first_cond (nat_le room 1) codes
