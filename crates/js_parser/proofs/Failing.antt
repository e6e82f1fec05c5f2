-- What is refused in a turn of a loop is refused by what the loop stands in.
use Rattle.std.proofs.Common.{◌≡◌, ◌∙◌, Bool, true, false, List, None, Some, Result, Ok, Err, refl, sym, ap, subst}
use Rattle.std.specs.Result.{IsErr, IsErrAnd}
use Rattle.grammar.specs.Grammar.{again, first}
use Rattle.grammar.specs.Reading.{Outcome, Got, Bad, and_then, Decided, read}
use Rattle.grammar.proofs.Reader.{again_fails, again_stops}
use Rattle.js_nodes.specs.declared.fault.Fault.{Fault}
use Rattle.js_nodes.specs.declared.fault.ParseError.{ParseError}
use Rattle.js_nodes.specs.declared.fault.ParseError.TheVariants as errors
use Rattle.js_nodes.specs.Next.{Next}
use Rattle.js_cursor.specs.Words.{R}
use Rattle.js_cursor.specs.Reads.{Reads}

abbrev pub failed : {A : Type 0} → ParseError → Result A ParseError
failed e = Err e

turn_failed : {A B : Type 0} (X : Outcome Next Fault B) (class : A → Next → Bool) (f : A → R A) (k : A → List Next → Outcome Next Fault B) (x : A) (ts : List Next) (e : ParseError) (new : List Next) → Decided None (again class f x) → X ≡ and_then (read None (again class f x) ts) k → class x (first ts None) ≡ true → Reads (read None (f x) ts) (failed e) new → Reads X (failed e) new
turn_failed {A} {B} X class f k x ts errors.Memory new d inv h r = tt
turn_failed {A} {B} X class f k x ts errors.Unfit new d inv h r = inv ∙ ap (λ (o : Outcome Next Fault A). and_then o k) (again_fails Fault None class f d.0 d.2 d.3 x ts None new h r)
turn_failed {A} {B} X class f k x ts (errors.Shown g) new d inv h r = inv ∙ ap (λ (o : Outcome Next Fault A). and_then o k) (again_fails Fault None class f d.0 d.2 d.3 x ts (Some g) new h r)

-- with the error that `?` hands on
pub loop_failed : {A B : Type 0} (X : Outcome Next Fault B) (class : A → Next → Bool) (f : A → R A) (k : A → List Next → Outcome Next Fault B) (x : A) (ts : List Next) (e : ParseError) (new : List Next) (res : Result B ParseError) → Decided None (again class f x) → X ≡ and_then (read None (again class f x) ts) k → class x (first ts None) ≡ true → Reads (read None (f x) ts) (failed e) new → IsErr res × IsErrAnd res (λ g. g ≡ e) → Reads X res new
loop_failed {A} {B} X class f k x ts e new (Ok v) d inv h r (q, s) = cc
loop_failed {A} {B} X class f k x ts e new (Err g) d inv h r (q, s) = subst (λ (g : ParseError). Reads X (failed g) new) (sym s) (turn_failed X class f k x ts e new d inv h r)

got_so : {A : Type 0} (o : Outcome Next Fault A) → o ≡ and_then o (λ u r. Got u r)
got_so (Got u r) = refl
got_so (Bad k r) = refl

-- the same of a loop that stands last
pub last_failed : {A : Type 0} (X : Outcome Next Fault A) (class : A → Next → Bool) (f : A → R A) (x : A) (ts : List Next) (e : ParseError) (new : List Next) (res : Result A ParseError) → Decided None (again class f x) → X ≡ read None (again class f x) ts → class x (first ts None) ≡ true → Reads (read None (f x) ts) (failed e) new → IsErr res × IsErrAnd res (λ g. g ≡ e) → Reads X res new
last_failed {A} X class f x ts e new res d inv h r q = loop_failed X class f (λ u s. Got u s) x ts e new res d (inv ∙ got_so (read None (again class f x) ts)) h r q

-- What is refused in a part is refused by what the part stands in.
pub part_failed : {A B : Type 0} (X : Outcome Next Fault B) (o : Outcome Next Fault A) (k : A → List Next → Outcome Next Fault B) (e : ParseError) (new : List Next) (res : Result B ParseError) → X ≡ and_then o k → Reads o (failed e) new → IsErr res × IsErrAnd res (λ g. g ≡ e) → Reads X res new
part_failed {A} {B} X o k e new (Ok v) inv r (q, s) = cc
part_failed {A} {B} X o k errors.Memory new (Err g) inv r (q, s) = subst (λ (g : ParseError). Reads X (failed g) new) (sym s) tt
part_failed {A} {B} X o k errors.Unfit new (Err g) inv r (q, s) = subst (λ (g : ParseError). Reads X (failed g) new) (sym s) (inv ∙ ap (λ (o : Outcome Next Fault A). and_then o k) r)
part_failed {A} {B} X o k (errors.Shown f) new (Err g) inv r (q, s) = subst (λ (g : ParseError). Reads X (failed g) new) (sym s) (inv ∙ ap (λ (o : Outcome Next Fault A). and_then o k) r)

-- A loop has ended, and what stands behind it gives this.
pub loop_ended : {A B : Type 0} (X : Outcome Next Fault B) (class : A → Next → Bool) (f : A → R A) (k : A → List Next → Outcome Next Fault B) (x : A) (ts : List Next) (v : B) → Decided None (again class f x) → X ≡ and_then (read None (again class f x) ts) k → class x (first ts None) ≡ false → k x ts ≡ Got v ts → X ≡ Got v ts
loop_ended {A} {B} X class f k x ts v d inv h e = inv ∙ (ap (λ (o : Outcome Next Fault A). and_then o k) (again_stops Fault None class f d.0 d.2 d.3 x ts h) ∙ e)
