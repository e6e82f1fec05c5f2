-- Texts that make nodes, and children by the levels that are left.
use Prim.Native.Char.{code}
use Rattle.std.proofs.Common.{◌≡◌, ℕ, suc, ◌-◌, ◌<◌, Bool, true, cond, List, [], ◌∷◌, ◌++◌, Option, Some, None, refl, sym, ap, subst, ◌∙◌, arith}
use Rattle.std.specs.Prelude.{not, drop}
use Rattle.grammar.specs.Grammar.{first}
use Rattle.grammar.specs.Reading.{Outcome, Got, Bad, and_then, may, read}
use Rattle.placed_chars.specs.declared.chars.Char.{Char}
use Rattle.placed_chars.specs.Chars.{stop}
use Rattle.page_reader.specs.declared.fault.Fault.{Fault}
use Rattle.page_reader.specs.declared.fault.PageRule.TheVariants.{Nesting}
use Rattle.page_reader.specs.declared.node.Node.{Node}
use Rattle.page_reader.specs.declared.node.Node.TheVariants as n
use Rattle.page_reader.specs.declared.node.Slice.{Slice}
use Rattle.page_reader.specs.Classes.{is_letter}
use Rattle.page_reader.specs.Rules.{fault}
use Rattle.page_reader.specs.Content.{Found, flushed, Inside, markup, element, opened}
use Rattle.page_reader.proofs.Apart.{not_code}
use Rattle.page_reader.proofs.Decided.{opened_within}

pub flushed_text : (children : List Node) (units : List ℕ) → (units ≡ [] → ⊥) → flushed children units ≡ children ++ n.Chars units ∷ []
flushed_text children [] h = absurd (h refl)
flushed_text children (x ∷ xs) h = refl

pub flushed_none : (children : List Node) (units : List ℕ) → units ≡ [] → flushed children units ≡ children
flushed_none children [] h = refl
flushed_none children (x ∷ xs) h = cc

-- An element inside begins with a letter, whatever levels are left.
pub may_opened : (room at : ℕ) (scripts : List Slice) (t : Char) → may (opened room at scripts) t ≡ is_letter t.code
may_opened room at scripts t = (opened_within room).begin at scripts t

abbrev bad_as : Option Fault → List Char → Outcome Char Fault Found
bad_as k ts = Bad k ts

-- Where no level is left a letter is a fault.
pub no_level : (room at : ℕ) (scripts : List Slice) (ts : List Char) → room ≡ 0 → is_letter (first ts stop).code ≡ true → read stop (opened room at scripts) ts ≡ Bad (Some (fault Nesting at)) ts
unfolding opened
no_level room at scripts ts none h = subst (λ (n : ℕ). read stop (opened n at scripts) ts ≡ Bad (Some (fault Nesting at)) ts) (sym none) (ap (λ (b : Bool). bad_as (cond (not b) None (Some (fault Nesting at))) ts) h)

deeper : {X : Type 0} (f : ℕ → X) (n : ℕ) → 0 < n → f n ≡ f (suc (n - 1))
deeper f n some = let e : n ≡ suc (n - 1) = omega arith in ap f e

abbrev character_read : Bool → List Char → Outcome Char Fault Char
character_read b ts = cond b (Got (first ts stop) (drop 1 ts)) (Bad None ts)

-- Where a level is left a letter begins an element.
pub one_level : (room at : ℕ) (scripts : List Slice) (ts : List Char) → 0 < room → is_letter (first ts stop).code ≡ true → read stop (opened room at scripts) ts ≡ read stop (element (opened (room - 1)) at scripts (first ts stop).code) (drop 1 ts)
unfolding opened
one_level room at scripts ts some h = deeper (λ n. read stop (opened n at scripts) ts) room some ∙ ap (λ (b : Bool). and_then (character_read b ts) (λ t r. read stop (element (opened (room - 1)) at scripts t.code) r)) h

-- A child behind a `<`.
pub markup_child : (room : ℕ) (tag : List ℕ) (at : ℕ) (children : List Node) (units : List ℕ) (scripts : List Slice) (ts : List Char) (child : Found) (r : List Char) → is_letter (first ts stop).code ≡ true → read stop (opened room at scripts) ts ≡ Got child r → read stop (markup (opened room) tag at children units scripts) ts ≡ Got (Inside (flushed children units ++ child.node ∷ []) [] child.scripts) r
markup_child room tag at children units scripts ts child r h e =
    rw (not_code (code "!") is_letter refl (first ts stop).code h) rw (not_code (code "/") is_letter refl (first ts stop).code h) rw (may_opened room at scripts (first ts stop)) rw h rw e refl

-- The same, with the children and the text that are left.
pub child_read : (room : ℕ) (tag : List ℕ) (at : ℕ) (children : List Node) (units : List ℕ) (scripts : List Slice) (ts : List Char) (child : Found) (r : List Char) (children' : List Node) (units' : List ℕ) → is_letter (first ts stop).code ≡ true → read stop (opened room at scripts) ts ≡ Got child r → children' ≡ flushed children units ++ child.node ∷ [] → units' ≡ []
    → read stop (markup (opened room) tag at children units scripts) ts ≡ Got (Inside children' units' child.scripts) r
child_read room tag at children units scripts ts child r children' units' h e k k' = rw k rw k' (markup_child room tag at children units scripts ts child r h e)
