-- One token decides in what the words for rules make, and loops of code read by turns.
use Rattle.std.proofs.Common.{◌≡◌, ◌<◌, Bool, true, false, cond, List, length, Option, Some, None, refl, ap, ◌∙◌}
use Rattle.std.specs.Prelude.{◌||◌, not}
use Rattle.grammar.specs.Grammar.{Rule, again, first}
use Rattle.grammar.specs.Reading.{Outcome, Got, and_then, is_some, Decided, read}
use Rattle.grammar.specs.Words.{need, must, choice, barred}
use Rattle.grammar.proofs.Reader.{again_goes, shrinks}

-- What is a fault unless it is of a class, and is one, isn't of the class.
pub unless : {K : Type 0} (b : Bool) (k : K) → is_some (cond b None (Some k)) ≡ true → b ≡ false
unless true k h = cc
unless false k h = refl

-- What is a fault just where it is of a class.
pub unless_not : {K : Type 0} (b : Bool) (k : K) → is_some (cond (not b) None (Some k)) ≡ b
unless_not true k = refl
unless_not false k = refl

-- What isn't so is false.
pub turned : (b : Bool) → not b ≡ true → b ≡ false
turned true e = cc
turned false e = refl

-- Of two tests that fail together the first fails.
pub first_false : (a b : Bool) → (a || b) ≡ false → a ≡ false
first_false true b h = cc
first_false false b h = refl

-- Of two tests that fail together the second fails.
pub second_false : (a b : Bool) → (a || b) ≡ false → b ≡ false
second_false true b h = cc
second_false false b h = h

module _ {T K : Type 0} (end : T) where
  pub need_decided : (p : T → Bool) (f : T → K) → p end ≡ false → Decided end (need p f)
  need_decided p f e = (λ t h. unless (p t) (f t) h, e, tt)

  pub must_decided : (p : T → Bool) (f : T → K) → p end ≡ false → Decided end (must p f)
  must_decided p f e = (need_decided p f e, λ _. tt)

  pub barred_decided : (f : T → Option K) → Decided end (barred f)
  barred_decided f = (λ t h. turned (is_some (f t)) h, tt, tt)

  pub choice_decided : {A : Type 0} (p : T → Bool) (a b : Rule T K A) → p end ≡ false → Decided end a → Decided end b → Decided end (choice p a b)
  choice_decided p a b e d d' = (λ t h. turned (p t) h, (e, λ _. d), (tt, λ _. d'))

  -- of a choice that a finished value makes
  pub cond_decided : {A : Type 0} (b : Bool) (g h : Rule T K A) → Decided end g → Decided end h → Decided end (cond b g h)
  cond_decided true g h d e = d
  cond_decided false g h d e = e

  -- One turn of a loop: it may go on with what is left, which is shorter.
  pub turn : {A : Type 0} (p : A → T → Bool) (f : A → Rule T K A) (x : A) (ts : List T) (u : A) (r : List T) → Decided end (again p f x) → p x (first ts end) ≡ true → read end (f x) ts ≡ Got u r → (read end (again p f x) ts ≡ read end (again p f u) r) × (length r < length ts)
  turn p f x ts u r d h e = (again_goes K end p f d.0 d.2 d.3 x ts u r h e, shrinks K end (f x) ts u r (d.3 x) (d.2 x) e)

-- What a loop's invariant says behind one turn.
pub onward : {T K A B : Type 0} (X : Outcome T K B) (go_on : A → List T → Outcome T K B) (o o' : Outcome T K A) → X ≡ and_then o go_on → o ≡ o' → X ≡ and_then o' go_on
onward {T} {K} {A} {B} X go_on o o' e k = e ∙ ap (λ (x : Outcome T K A). and_then x go_on) k
