-- Heaps in which the parent of one node and the children of another changed.
use Rattle.std.proofs.Common.{◌≡◌, ◌≢◌, ℕ, ◌+◌, List, ap, sym, ◌∙◌}
use Rattle.page_units.specs.declared.value.CellName.{CellName}
use Rattle.page_units.specs.declared.value.Value.{Value}
use Rattle.cell_places.specs.declared.place.Place.{Place}
use Rattle.cell_places.specs.declared.place.Slot.{Slot}
use Rattle.cell_places.specs.declared.place.Slot.TheVariants as s
use Rattle.cell_places.specs.declared.answer.Answer.{Answer}
use Rattle.cell_places.specs.declared.answer.Answer.TheVariants as a
use Rattle.cell_places.specs.Places.{slot_rank}
use Rattle.cell_places.specs.Heap.{Heap, place, put_at, cells_in, weight_left}
use Rattle.cell_places.specs.Valid.{CanPut, Stands}
use Rattle.cell_places.specs.Acts.{placed, moved}
use Rattle.cell_places.specs.Sound.{AnswerIsSound, NodesAreTrees}
use Rattle.cell_places.specs.Spare.{Spare}
use Rattle.cell_places.proofs.SamePlace.{put_at-same, put_at-other, put_at-each}
use Rattle.cell_places.proofs.Grown.{Stands-put}
use Rattle.cell_places.proofs.KeepsSound.{Keeps}
use Rattle.cell_places.proofs.Puts.{KeepsBut-put, stands_put, answers_put, lengths_kept, attributes_kept, page_kept, sums_kept}
use Rattle.cell_places.proofs.Spare.{parts_spare, spare_puts}

-- g is f, but n has this parent, and m these children
pub record LinksAre (f g : Place → Answer) (n m : CellName) (parent : Value) (cs : List CellName) : Type 0 where
  pub parent_new : g (place n s.Parent) ≡ a.One parent
  pub parent_old : (x : CellName) → (x ≡ n → ⊥) → g (place x s.Parent) ≡ f (place x s.Parent)
  pub children_new : cells_in (g (place m s.Children)) ≡ cs
  pub children_old : (x : CellName) → (x ≡ m → ⊥) → g (place x s.Children) ≡ f (place x s.Children)

-- the children of m are put, and then the parent of n
abbrev pub relinked : Heap → CellName → CellName → Value → List CellName → Heap
relinked H n m parent cs = moved (moved H (placed (place m s.Children) (a.Cells cs))) (placed (place n s.Parent) (a.One parent))

apart_rank : (n m : CellName) (x y : Slot) → slot_rank x ≢ slot_rank y → place n x ≢ place m y
apart_rank n m x y apart e = apart (ap (λ (p : Place). slot_rank p.slot) e)

apart_cell : (n m : CellName) (x y : Slot) → (m ≡ n → ⊥) → place n x ≢ place m y
apart_cell n m x y apart e = apart (sym (ap (λ (p : Place). p.cell) e))

pub relinked_links : (H : Heap) (n m : CellName) (parent : Value) (cs : List CellName) → LinksAre H.at (relinked H n m parent cs).at n m parent cs
relinked_links H n m parent cs =
    let p = place m s.Children in
    let q = place n s.Parent in
    let x = a.Cells cs in
    let y = a.One parent in
    let f : Place → Answer = put_at H.at p x in
    record {
      parent_new = put_at-same f q y;
      parent_old = λ c apart. put_at-other f q (place c s.Parent) y (apart_cell n c s.Parent s.Parent apart)
          ∙ put_at-other H.at p (place c s.Parent) x (apart_rank m c s.Children s.Parent (λ e. cc));
      children_new = ap cells_in (put_at-other f q p y (apart_rank n m s.Parent s.Children (λ e. cc)) ∙ put_at-same H.at p x);
      children_old = λ c apart. put_at-other f q (place c s.Children) y (apart_rank n c s.Parent s.Children (λ e. cc))
          ∙ put_at-other H.at p (place c s.Children) x (apart_cell m c s.Children s.Children apart);
    }

-- the heap stays sound where nodes stay trees
pub spare_relinked : (codes credit : ℕ) (H : Heap) (n m : CellName) (parent : Value) (cs : List CellName) → Spare codes credit H → CanPut H (place m s.Children) (a.Cells cs) → CanPut H (place n s.Parent) (a.One parent) → AnswerIsSound H.kinds (a.One parent)
    → NodesAreTrees (relinked H n m parent cs) → Spare codes credit (relinked H n m parent cs)
spare_relinked codes credit H n m parent cs spare can_children can_parent sound nodes =
    let p = place m s.Children in
    let q = place n s.Parent in
    let x = a.Cells cs in
    let y = a.One parent in
    let f : Place → Answer = put_at H.at p x in
    let g : Place → Answer = put_at f q y in
    let weight = weight_left H + credit in
    let parts = parts_spare codes credit H spare in
    let keep : (slot : Slot) → slot_rank slot ≢ 6 → slot_rank slot ≢ 5 → Keeps slot H.at g = λ slot first second c. KeepsBut-put f q y slot second c ∙ KeepsBut-put H.at p x slot first c in
    spare_puts codes credit credit H g spare (record {
      places = put_at-each (Stands H.kinds) f q y (stands_put weight H p x parts can_children) (Stands-put H.kinds q y can_parent);
      answers = put_at-each (λ r. AnswerIsSound H.kinds) f q y (answers_put weight H p x parts tt) sound;
      lengths = lengths_kept weight H g parts (keep s.Length (λ e. cc) (λ e. cc));
      attributes = attributes_kept weight H g parts (keep s.AttrNames (λ e. cc) (λ e. cc)) (λ name. keep (s.Attr name) (λ e. cc) (λ e. cc));
      nodes = nodes;
      page = page_kept weight H g parts (record {
        clock = keep s.Clock (λ e. cc) (λ e. cc);
        next_timer = keep s.NextTimer (λ e. cc) (λ e. cc);
        timers = keep s.Timers (λ e. cc) (λ e. cc);
        next_guess = keep s.NextGuess (λ e. cc) (λ e. cc);
        guesses = keep s.Guesses (λ e. cc) (λ e. cc);
      });
      sums = sums_kept weight H g parts (keep s.Heard (λ e. cc) (λ e. cc)) (keep s.NextTimer (λ e. cc) (λ e. cc)) (keep s.NextGuess (λ e. cc) (λ e. cc));
    })
