-- What a put leaves as it was: every slot of another rank.
use Rattle.std.proofs.Common.{◌≡◌, ◌≢◌, ℕ, ◌<◌, List, ap, sym, subst, inl, inr, ◌⊎◌, arith}
use Rattle.page_units.specs.declared.value.CellName.{CellName}
use Rattle.cell_places.specs.declared.place.Place.{Place}
use Rattle.cell_places.specs.declared.place.Slot.{Slot}
use Rattle.cell_places.specs.declared.place.Slot.TheVariants as s
use Rattle.cell_places.specs.declared.answer.Answer.{Answer}
use Rattle.cell_places.specs.Places.{slot_rank}
use Rattle.cell_places.specs.Heap.{Heap, place, put_at}
use Rattle.cell_places.specs.Valid.{CanPut, Stands}
use Rattle.cell_places.specs.Sound.{AnswerIsSound, AttributesAreListed, NodesAreTrees, PageIsSound, LengthFits, SumsWith, IsSound}
use Rattle.cell_places.proofs.SamePlace.{put_at-same, put_at-other, put_at-each}
use Rattle.cell_places.proofs.ListsKept.{name_cases}
use Rattle.cell_places.proofs.Grown.{Stands-put}
use Rattle.cell_places.proofs.KeepsSound.{Keeps, KeepsPage, PageIsSound-kept, SumsWith-kept, AttributesAreListed-kept, NodesAreTrees-kept, LengthFits-kept}

-- each slot but those of one rank
abbrev pub KeepsBut : ℕ → (Place → Answer) → (Place → Answer) → Type 0
KeepsBut rank f g = (slot : Slot) → slot_rank slot ≢ rank → Keeps slot f g

pub KeepsBut-put : (f : Place → Answer) (p : Place) (x : Answer) → KeepsBut (slot_rank p.slot) f (put_at f p x)
KeepsBut-put f p x slot apart n =
    put_at-other f p (place n slot) x (λ (e : p ≡ place n slot). apart (sym (ap (λ (q : Place). slot_rank q.slot) e)))

-- the slots of the page have the ranks from 12 on
pub KeepsPage-but : (rank : ℕ) (f g : Place → Answer) → rank < 12 → KeepsBut rank f g → KeepsPage f g
KeepsPage-but rank f g low keeps = record {
  clock = keeps s.Clock (λ e. omega arith);
  next_timer = keeps s.NextTimer (λ e. omega arith);
  timers = keeps s.Timers (λ e. omega arith);
  next_guess = keeps s.NextGuess (λ e. omega arith);
  guesses = keeps s.Guesses (λ e. omega arith);
}

slot_by : (P : Answer → Type 0) (f : Place → Answer) (n : CellName) (slot : Slot) (x : Answer) → P x → ((m : CellName) → P (f (place m slot))) → (m : CellName) → (n ≡ m) ⊎ (n ≡ m → ⊥) → P (put_at f (place n slot) x (place m slot))
slot_by P f n slot x new old m (inl e) =
    subst (λ (c : CellName). P (put_at f (place n slot) x (place c slot))) e (subst P (sym (put_at-same f (place n slot) x)) new)
slot_by P f n slot x new old m (inr apart) =
    subst P (sym (put_at-other f (place n slot) (place m slot) x (λ e. apart (ap (λ (p : Place). p.cell) e)))) (old m)

-- what holds of the slot of each cell, and of what is put, holds after the put
pub slot_each : (P : Answer → Type 0) (f : Place → Answer) (n : CellName) (slot : Slot) (x : Answer) → P x → ((m : CellName) → P (f (place m slot))) → (m : CellName) → P (put_at f (place n slot) x (place m slot))
slot_each P f n slot x new old m = slot_by P f n slot x new old m (name_cases n m)

-- ---- the parts of soundness that puts can touch

pub record PutsSound (weight : ℕ) (H : Heap) : Type 0 where
  pub places : (p : Place) → Stands H.kinds p (H.at p)
  pub answers : (p : Place) → AnswerIsSound H.kinds (H.at p)
  pub lengths : (n : CellName) → LengthFits (H.at (place n s.Length))
  pub attributes : (n : CellName) → AttributesAreListed H n
  pub nodes : NodesAreTrees H
  pub page : PageIsSound H
  pub sums : SumsWith weight 3999999999 H

pub parts_of : (codes weight : ℕ) (H : Heap) → IsSound codes H → SumsWith weight 3999999999 H → PutsSound weight H
parts_of codes weight H sound sums = record {
  places = sound.valid.places;
  answers = sound.answers;
  lengths = sound.lengths;
  attributes = sound.attributes;
  nodes = sound.nodes;
  page = sound.page;
  sums = sums;
}

pub stands_put : (weight : ℕ) (H : Heap) (p : Place) (x : Answer) → PutsSound weight H → CanPut H p x → (q : Place) → Stands H.kinds q (put_at H.at p x q)
stands_put weight H p x parts can = put_at-each (Stands H.kinds) H.at p x parts.places (Stands-put H.kinds p x can)

pub answers_put : (weight : ℕ) (H : Heap) (p : Place) (x : Answer) → PutsSound weight H → AnswerIsSound H.kinds x → (q : Place) → AnswerIsSound H.kinds (put_at H.at p x q)
answers_put weight H p x parts sound = put_at-each (λ q. AnswerIsSound H.kinds) H.at p x parts.answers sound

-- ---- each part stays where its slots do

pub lengths_kept : (weight : ℕ) (H : Heap) (g : Place → Answer) → PutsSound weight H → Keeps s.Length H.at g → (n : CellName) → LengthFits (g (place n s.Length))
lengths_kept weight H g parts keeps n = LengthFits-kept _ _ (keeps n) (parts.lengths n)

pub attributes_kept : (weight : ℕ) (H : Heap) (g : Place → Answer) → PutsSound weight H → Keeps s.AttrNames H.at g → ((name : List ℕ) → Keeps (s.Attr name) H.at g) → (n : CellName) → AttributesAreListed (record H { at = g }) n
attributes_kept weight H g parts names keeps n =
    AttributesAreListed-kept H (record H { at = g }) n (names n) (λ name. keeps name n) (parts.attributes n)

pub nodes_kept : (weight : ℕ) (H : Heap) (g : Place → Answer) → PutsSound weight H → Keeps s.Parent H.at g → Keeps s.Children H.at g → NodesAreTrees (record H { at = g })
nodes_kept weight H g parts parent children = NodesAreTrees-kept H (record H { at = g }) parent children (λ n h. h) parts.nodes

pub page_kept : (weight : ℕ) (H : Heap) (g : Place → Answer) → PutsSound weight H → KeepsPage H.at g → PageIsSound (record H { at = g })
page_kept weight H g parts keeps = PageIsSound-kept H (record H { at = g }) keeps parts.page

pub sums_kept : (weight : ℕ) (H : Heap) (g : Place → Answer) → PutsSound weight H → Keeps s.Heard H.at g → Keeps s.NextTimer H.at g → Keeps s.NextGuess H.at g → SumsWith weight 3999999999 (record H { at = g })
sums_kept weight H g parts heard timer guess = SumsWith-kept weight 3999999999 H g heard timer guess parts.sums
