-- Functions give valid codes (ECMA-262 5.1, section 13).
use Rattle.std.proofs.Common.{◌≡◌, ℕ, ◌≤◌, ◌<◌, Bool, true, false, cond, List, [], ◌∷◌, ◌++◌, length, Option, Some, None, refl, arith}
use Rattle.std.specs.Prelude.{◌||◌, ◌&&◌, bytes_eq}
use Rattle.std.proofs.lemmas.Slice.Eq.{bytes_eq-Decides}
use Rattle.std.proofs.lemmas.List.Elements.{All-nil, All-push}
use Rattle.grammar.proofs.Giving.{kept}
use Rattle.js_lexer.specs.declared.token.Punct.TheVariants as p
use Rattle.js_tree.specs.declared.code.FnCode.{FnCode}
use Rattle.js_tree.specs.Valid.{AreDistinct, is_there, in_function, IsNamed, ValidCode}
use Rattle.js_nodes.specs.declared.fault.Fault.{Fault}
use Rattle.js_nodes.specs.declared.operand.Coded.{Coded}
use Rattle.js_nodes.specs.declared.series.Body.{Body}
use Rattle.js_nodes.specs.Next.{Next, of, shows, is_name, is_left_out_name, text}
use Rattle.js_nodes.specs.Operands.{nothing}
use Rattle.js_parser.specs.Levels.{Level}
use Rattle.js_nodes.specs.Pieces.{blank, has, state, body, called}
use Rattle.js_parser.specs.Functions.{code, some_parameters, parameters, function_body, function_code}
use Rattle.js_cursor.specs.Questions.{twice, in_block}
use Rattle.js_cursor.specs.Rules.{more_parameters}
use Rattle.js_parser.proofs.ValidCodes.{Ready, Adds, held, filled}
use Rattle.js_parser.proofs.ValidFits.{Fine, Has, use_of, let_through}
use Rattle.js_parser.proofs.ValidLevels.{FitsBody, Valid, no_body, stmts_more}
use Rattle.js_cursor.specs.Rules as rules
use Rattle.js_cursor.specs.Words as words

-- ---- names

-- Of two tests that fail together the first fails.
first_not : (a b : Bool) → (a || b) ≡ false → a ≡ false
first_not true b e = cc
first_not false b e = refl

-- Of two tests that fail together the second fails.
second_not : (a b : Bool) → (a || b) ≡ false → b ≡ false
second_not true b e = cc
second_not false b e = e

-- Names that are spelled otherwise differ.
pub differ : (m n : List ℕ) → bytes_eq m n ≡ false → m ≡ n → ⊥
differ m n e h = let t = (bytes_eq-Decides m n).1 h in cc

-- A name that isn't among the others is added.
pub distinct_push : (names : List (List ℕ)) (n : List ℕ) → AreDistinct names → has names n ≡ false → AreDistinct (names ++ n ∷ [])
distinct_push [] n d e = (All-nil (λ (k : List ℕ). k ≡ n → ⊥), tt)
distinct_push (m ∷ ms) n d e = (
  All-push (λ (k : List ℕ). k ≡ m → ⊥) ms n d.0 (λ h. differ m n (first_not (bytes_eq m n) (has ms n) e) (cc)),
  distinct_push ms n d.1 (second_not (bytes_eq m n) (has ms n) e),
)

-- A name that shows no fault as one that stands twice stands nowhere before.
fresh : (a b c : Bool) (f g : Fault) → b ≡ true → cond a (Some f) (cond (b && c) (Some g) None) ≡ None → c ≡ false
fresh true b c f g e h = cc
fresh false true true f g e h = cc
fresh false true false f g e h = refl
fresh false false c f g e h = cc

-- A parameter that is taken is none of those before it.
new_name : (names : List (List ℕ)) (t : Next) → (of is_name t ≡ true) × (twice names t ≡ None) → has names (text t) ≡ false
new_name names t h = fresh (of is_left_out_name t) (of is_name t) (has names (text t)) _ _ h.0 h.1

-- Parameters differ with one more.
one_more : (names : List (List ℕ)) (t : Next) → AreDistinct names → (of is_name t ≡ true) × (twice names t ≡ None) → AreDistinct (names ++ text t ∷ [])
one_more names t d h = distinct_push names (text t) d (new_name names t h)

-- Parameters differ, behind their `(`.
some_parameters_differ : Has some_parameters AreDistinct
unfolding some_parameters more_parameters rules.parameter words.sign words.sound
some_parameters_differ = record {
  at = λ t. (
    tt,
    λ q e s. kept Fine (λ _ u. shows p.Comma u) more_parameters (text t ∷ []) s _ AreDistinct (one_more [] t tt (let_through (of is_name t) (twice [] t) e))
        (λ names u d. λ _ _ r. (tt, λ _ f _. one_more names r d (let_through (of is_name r) (twice names r) f)))
        (λ names u d. λ _ _ _. d),
  );
}

-- Parameters differ.
parameters_differ : Has parameters AreDistinct
unfolding parameters words.sign
parameters_differ = record { at = λ t. λ _ _ s. (λ _ _ _. tt, λ _. some_parameters_differ.at s) }

-- ---- codes

pub record FitsCoded (room : ℕ) (name : Option (List ℕ)) (cs : List FnCode) (all : Coded) : Type 0 where
  pub adds : Adds cs all.codes
  pub height : all.depth.height ≤ room
  pub fits : length cs < length all.codes
  pub named : is_there name ≡ true → IsNamed all.codes (length cs)

module _ (room : ℕ) (below : Level) (known : Valid room below) where
  body_fits : (cs : List FnCode) → Ready cs → Has (function_body below cs) (FitsBody room in_function cs)
  unfolding function_body words.sign
  body_fits cs h = record {
    at = λ t. λ _ _ s. kept Fine (λ _ u. in_block u) (λ b. below.source called b) (body [] (state cs []) [] nothing) s _ (FitsBody room in_function cs)
        (no_body room in_function cs h)
        (λ b u f. (known.source called cs b f).at u)
        (λ b u f. λ _ _ _. f);
  }

  code_valid : (name : Option (List ℕ)) (params : List (List ℕ)) (cs : List FnCode) (b : Body) → AreDistinct params → FitsBody room in_function cs b → ValidCode b.state.codes (code name params b)
  code_valid name params cs b d f = record {
    params = d;
    vars = f.vars;
    funs = f.funs;
    body = stmts_more b.depth.height 128 (length b.state.codes) (length b.state.codes) in_function b.stmts (omega (arith, f.height, known.small)) (omega arith) f.valid;
  }

  pub code_fits : (name : Option (List ℕ)) (cs : List FnCode) → Ready cs → Has (function_code below name cs) (FitsCoded room name cs)
  unfolding function_code
  code_fits name cs h = record {
    at = λ t. use_of parameters_differ t _ (λ params s d.
        use_of (body_fits (cs ++ blank ∷ []) (held cs h)) s _ (λ b r f.
        let k = filled cs b.state.codes (code name params b) f.adds (code_valid name params (cs ++ blank ∷ []) b d f) in
        record { adds = k.adds; height = f.height; fits = k.fits; named = λ e. (code name params b, k.here, e) }));
  }
