-- What begins as a word for rules says, and that one token decides in it.
use Rattle.std.proofs.Common.{◌≡◌, ℕ, Bool, true, false, cond, Option, Some, None, refl, sym, ap, ◌∙◌}
use Rattle.std.specs.Prelude.{◌||◌, ◌&&◌, not, nat_le}
use Rattle.grammar.specs.Reading.{is_some, may, Eats, Decided}
use Rattle.grammar.proofs.Words.{turned}
use Rattle.js_lexer.specs.declared.token.Kind.{Kind}
use Rattle.js_lexer.specs.declared.token.Kind.TheVariants as k
use Rattle.js_lexer.specs.declared.token.Punct.{Punct}
use Rattle.js_lexer.specs.declared.token.Word.{Word}
use Rattle.js_nodes.specs.declared.fault.Fault.{Fault}
use Rattle.js_nodes.specs.Next.{Next, of, shows, says, is_identifier, is_name, is_left_out_name}
use Rattle.js_cursor.specs.Words.{sound, where_of, takes, too_deep, deeper, sign, word, name, left_out}

-- ---- tests

-- A fault that is seen where this holds.
pub flagged : {K : Type 0} (b : Bool) (f : K) → is_some (cond b (Some f) None) ≡ b
flagged true f = refl
flagged false f = refl

-- What isn't barred is barred or let through.
pub either_way : (a b : Bool) → (a || (b && not a)) ≡ (a || b)
either_way true b = refl
either_way false true = refl
either_way false false = refl

-- What holds just where the other does adds nothing.
pub absorbed : (a b : Bool) → (a ≡ true → b ≡ true) → (a || b) ≡ b
absorbed true b h = sym (h refl)
absorbed false b h = refl

-- Of two tests that hold together the first holds.
pub first_true : (a b : Bool) → (a && b) ≡ true → a ≡ true
first_true true b h = refl
first_true false b h = cc

-- Of two tests that hold together the second holds.
pub second_true : (a b : Bool) → (a && b) ≡ true → b ≡ true
second_true true b h = h
second_true false b h = cc

-- Where the first of two tests fails they don't hold together.
pub barred_and : (a b : Bool) → a ≡ false → (a && b) ≡ false
barred_and true b h = cc
barred_and false b h = refl

-- ---- a token, unless it shows a fault

-- It begins with a token of the class, or with one that shows a fault.
pub may_sound : (flaw : Next → Option Fault) (class : Next → Bool) (t : Next) → may (sound flaw class) t ≡ (is_some (flaw t) || class t)
unfolding sound
may_sound flaw class t = either_way (is_some (flaw t)) (class t)

-- One token tells the fault from the token of the class.
pub sound_decided : (flaw : Next → Option Fault) (class : Next → Bool) → class None ≡ false → Decided None (sound flaw class)
unfolding sound
sound_decided flaw class e = (λ t h. turned (is_some (flaw t)) (second_true (class t) _ h), tt, barred_and (class None) _ e)

-- It reads the token.
pub sound_eats : (flaw : Next → Option Fault) (class : Next → Bool) → Eats (sound flaw class)
unfolding sound
sound_eats flaw class = (tt, tt)

-- Only a token of the class shows the flaw.
where_of_class : (b : Bool) (w : Option Fault) → is_some (cond b w None) ≡ true → b ≡ true
where_of_class true w h = refl
where_of_class false w h = cc

-- It begins with a token of the class, whether or not that shows the flaw.
pub may_takes : (class : Next → Bool) (w : Option Fault) (t : Next) → may (takes class w) t ≡ class t
unfolding sound takes
may_takes class w t = may_sound (where_of class w) class t ∙ absorbed (is_some (where_of class w t)) (class t) (where_of_class (class t) w)

pub takes_decided : (class : Next → Bool) (w : Option Fault) → class None ≡ false → Decided None (takes class w)
unfolding sound takes
takes_decided class w e = sound_decided (where_of class w) class e

-- It begins with a token of the class, whether or not a level is left.
pub may_deeper : (room : ℕ) (class : Next → Bool) (t : Next) → may (deeper room class) t ≡ class t
unfolding deeper sound
may_deeper room class t = may_sound (too_deep room class) class t ∙ absorbed (is_some (too_deep room class t)) (class t) (λ h. first_true (class t) (nat_le room 1) (sym (flagged (class t && nat_le room 1) _) ∙ h))

pub deeper_decided : (room : ℕ) (class : Next → Bool) → class None ≡ false → Decided None (deeper room class)
unfolding deeper sound
deeper_decided room class e = sound_decided (too_deep room class) class e

-- A token of a class that holds wherever a level is required.
pub may_too_deep : (room : ℕ) (part class : Next → Bool) (t : Next) → (part t ≡ true → class t ≡ true) → may (sound (too_deep room part) class) t ≡ class t
unfolding sound
may_too_deep room part class t k = may_sound (too_deep room part) class t ∙ absorbed (is_some (too_deep room part t)) (class t) (λ h. k (first_true (part t) (nat_le room 1) (sym (flagged (part t && nat_le room 1) _) ∙ h)))

-- ---- punctuators, reserved words and names

-- No punctuator stands at the end.
pub no_sign : (p : Punct) → shows p None ≡ false
unfolding shows
no_sign p = refl

-- No reserved word stands at the end.
pub no_word : (w : Word) → says w None ≡ false
unfolding says
no_word w = refl

-- Signs, words and names are one token, which isn't the end.
pub sign_decided : (p : Punct) → Decided None (sign p)
unfolding sign
sign_decided p = (no_sign p, λ _. tt)

pub word_decided : (w : Word) → Decided None (word w)
unfolding word
word_decided w = (no_word w, λ _. tt)

pub name_decided : Decided None name
unfolding name sound
name_decided = (sound_decided left_out (of is_name) refl, λ _. tt)

-- A name is left out or is none that is left out.
named : (b : Bool) → (b || not b) ≡ true
named true = refl
named false = refl

name_kind : (kind : Kind) → (is_left_out_name kind || is_name kind) ≡ is_identifier kind
name_kind (k.Name n) = named _
name_kind _ = refl

name_here : (t : Next) → (of is_left_out_name t || of is_name t) ≡ of is_identifier t
name_here None = refl
name_here (Some t) = name_kind t.kind

-- A name begins with each identifier, also with what is left out as a name.
pub may_name : (t : Next) → may name t ≡ of is_identifier t
unfolding name sound
may_name t = may_sound left_out (of is_name) t ∙ (ap (λ (b : Bool). b || of is_name t) (flagged (of is_left_out_name t) _) ∙ name_here t)
