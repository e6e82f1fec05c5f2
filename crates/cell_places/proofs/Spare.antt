-- Charges give credit, and made cells use it; puts at quiet slots keep it.
use Rattle.std.proofs.Common.{◌≡◌, ℕ, ◌+◌, ◌≤◌, true, refl, arith}
use Rattle.cell_places.specs.declared.place.Place.{Place}
use Rattle.cell_places.specs.declared.place.Slot.{Slot}
use Rattle.cell_places.specs.declared.place.Slot.TheVariants as s
use Rattle.cell_places.specs.declared.answer.Answer.{Answer}
use Rattle.cell_places.specs.declared.kind.CellKind.{CellKind}
use Rattle.cell_places.specs.Heap.{Heap, put_at, weight_left, next}
use Rattle.cell_places.specs.Valid.{CanPut}
use Rattle.cell_places.specs.Acts.{made, placed, charged, moved}
use Rattle.cell_places.specs.Sound.{AnswerIsSound, SumsWith, IsSound}
use Rattle.cell_places.specs.Fine.{FineKind}
use Rattle.cell_places.specs.Spare.{Spare}
use Rattle.cell_places.proofs.KeepsSound.{is_free, is_quiet, KeepsOutside, KeepsOutside-put, SumsWith-more, SumsWith-made, SumsWith-kept, NodesAreTrees-kept, IsSound-put_quiet, sound_made}
use Rattle.cell_places.proofs.Puts.{PutsSound, parts_of}

-- ---- charges

sums_charged : (weight bound : ℕ) (H : Heap) (w : ℕ) → SumsWith weight bound H → SumsWith weight bound (moved H (charged w))
sums_charged weight bound H w h = record { count = h.count; heard = h.heard; timers = h.timers; guesses = h.guesses }

-- a charge within the limit keeps a heap sound
pub sound_charged : (codes : ℕ) (H : Heap) (w : ℕ) → IsSound codes H → H.spent + w ≤ H.limit → IsSound codes (moved H (charged w))
sound_charged codes H w sound within =
    let K = moved H (charged w) in
    record {
      valid = record { places = sound.valid.places; kinds = sound.valid.kinds; count = sound.valid.count; spent = within };
      start = sound.start;
      kinds = sound.kinds;
      answers = sound.answers;
      lengths = sound.lengths;
      attributes = λ n. let h = sound.attributes n in record { once = h.once; there = h.there; all = h.all };
      nodes = NodesAreTrees-kept H K (λ n. refl) (λ n. refl) (λ n h. h) sound.nodes;
      page = let h = sound.page in record { clock = h.clock; timers = h.timers; guesses = h.guesses };
      sums = SumsWith-more (weight_left H) (weight_left K) 3999999999 3999999999 K (omega arith) (omega arith) (sums_charged (weight_left H) 3999999999 H w sound.sums);
    }

-- and adds its weight to the credit
pub spare_charged_more : (codes credit : ℕ) (H : Heap) (w : ℕ) → Spare codes credit H → H.spent + w ≤ H.limit → Spare codes (credit + w) (moved H (charged w))
spare_charged_more codes credit H w spare within =
    let K = moved H (charged w) in
    record {
      sound = sound_charged codes H w spare.sound within;
      sums = SumsWith-more (weight_left H + credit) (weight_left K + (credit + w)) 3999999999 3999999999 K (omega arith) (omega arith)
          (sums_charged (weight_left H + credit) 3999999999 H w spare.sums);
    }

-- ---- with no credit, and with less

pub spare_less : (codes less credit : ℕ) (H : Heap) → less ≤ credit → Spare codes credit H → Spare codes less H
spare_less codes less credit H le spare = record {
  sound = spare.sound;
  sums = SumsWith-more (weight_left H + credit) (weight_left H + less) 3999999999 3999999999 H (omega arith) (omega arith) spare.sums;
}

pub spare_of : (codes : ℕ) (H : Heap) → IsSound codes H → Spare codes 0 H
spare_of codes H sound = record {
  sound = sound;
  sums = SumsWith-more (weight_left H) (weight_left H + 0) 3999999999 3999999999 H (omega arith) (omega arith) sound.sums;
}

-- a charge of a sound heap gives a credit of its weight
pub spare_charged : (codes : ℕ) (H : Heap) (w : ℕ) → IsSound codes H → H.spent + w ≤ H.limit → Spare codes w (moved H (charged w))
spare_charged codes H w sound within =
    spare_less codes w (0 + w) (moved H (charged w)) (omega arith) (spare_charged_more codes 0 H w (spare_of codes H sound) within)

-- ---- cells

-- a made cell takes one of the credit
pub spare_made : (codes credit : ℕ) (H : Heap) (k : CellKind) → Spare codes (credit + 1) H → FineKind codes H.kinds k → Spare codes credit (moved H (made (next H) k))
spare_made codes credit H k spare fine =
    let less = SumsWith-more (weight_left H + (credit + 1)) (weight_left H + credit) 3999999999 3999999999 H (omega arith) (omega arith) spare.sums in
    record {
      sound = sound_made codes H k spare.sound (let c = spare.sums.count in omega arith) fine.there fine.sound;
      sums = SumsWith-made (weight_left H + credit) 3999999999 H (next H) k (let c = spare.sums.count in omega arith) less;
    }

-- ---- puts

-- puts that keep each part of soundness keep the rest
pub spare_puts : (codes credit less : ℕ) (H : Heap) (g : Place → Answer) → Spare codes credit H → PutsSound (weight_left H + less) (record H { at = g }) → Spare codes less (record H { at = g })
spare_puts codes credit less H g spare parts =
    let sound = spare.sound in
    record {
      sound = record {
        valid = record { places = parts.places; kinds = sound.valid.kinds; count = sound.valid.count; spent = sound.valid.spent };
        start = sound.start;
        kinds = sound.kinds;
        answers = parts.answers;
        lengths = parts.lengths;
        attributes = parts.attributes;
        nodes = parts.nodes;
        page = parts.page;
        sums = SumsWith-more (weight_left H + less) (weight_left H) 3999999999 3999999999 (record H { at = g }) (omega arith) (omega arith) parts.sums;
      };
      sums = parts.sums;
    }

-- the parts of a heap with credit
pub parts_spare : (codes credit : ℕ) (H : Heap) → Spare codes credit H → PutsSound (weight_left H + credit) H
parts_spare codes credit H spare = parts_of codes (weight_left H + credit) H spare.sound spare.sums

pub quiet_free : (slot : Slot) → is_quiet slot ≡ true → is_free slot ≡ true
quiet_free (s.Own key) h = refl
quiet_free s.Keys h = refl
quiet_free s.Proto h = refl
quiet_free s.Length h = absurd (cc)
quiet_free (s.Bind name) h = refl
quiet_free s.Parent h = refl
quiet_free s.Children h = refl
quiet_free (s.Attr name) h = absurd (cc)
quiet_free s.AttrNames h = absurd (cc)
quiet_free s.Chars h = refl
quiet_free s.Heard h = absurd (cc)
quiet_free s.Flags h = refl
quiet_free s.Clock h = absurd (cc)
quiet_free s.NextTimer h = absurd (cc)
quiet_free s.Timers h = absurd (cc)
quiet_free s.NextGuess h = absurd (cc)
quiet_free s.Guesses h = absurd (cc)

-- a put at a quiet slot
pub sound_put : (codes : ℕ) (H : Heap) (p : Place) (x : Answer) → IsSound codes H → is_quiet p.slot ≡ true → CanPut H p x → AnswerIsSound H.kinds x → IsSound codes (moved H (placed p x))
sound_put codes H p x sound quiet can answer = IsSound-put_quiet codes H p x sound quiet (quiet_free p.slot quiet) can answer

pub spare_put : (codes credit : ℕ) (H : Heap) (p : Place) (x : Answer) → Spare codes credit H → is_quiet p.slot ≡ true → CanPut H p x → AnswerIsSound H.kinds x → Spare codes credit (moved H (placed p x))
spare_put codes credit H p x spare quiet can answer =
    let keeps : KeepsOutside is_free H.at (put_at H.at p x) = KeepsOutside-put is_free H.at p x (quiet_free p.slot quiet) in
    record {
      sound = sound_put codes H p x spare.sound quiet can answer;
      sums = SumsWith-kept (weight_left H + credit) 3999999999 H (put_at H.at p x) (keeps s.Heard refl) (keeps s.NextTimer refl) (keeps s.NextGuess refl) spare.sums;
    }
