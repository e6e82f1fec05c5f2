-- What holds of each place after puts one after another.
use Rattle.std.proofs.Common.{◌≡◌, ℕ, ◌<◌, zero, suc, List, [], ◌∷◌, ◌++◌, length, map, Bool, true, false, ◌&&◌, get_or, refl, arith}
use Rattle.std.specs.List.{list_all, flat_map}
use Rattle.cell_places.specs.declared.place.Place.{Place}
use Rattle.cell_places.specs.declared.answer.Answer.{Answer}
use Rattle.cell_places.specs.Lists.{Every}
use Rattle.cell_places.specs.Heap.{Heap}
use Rattle.cell_places.specs.Acts.{placed, moved, after}
use Rattle.cell_places.specs.StartRows.{Row, puts}
use Rattle.cell_places.proofs.SamePlace.{put_at-each}

-- where both hold, each does
pub both_true : (a b : Bool) → (a && b) ≡ true → (a ≡ true) × (b ≡ true)
both_true true b e = (refl, e)
both_true false b e = cc

-- what a test tells of an item holds of each item, where all pass the test
pub Every-tested : {X : Type 0} (test : X → Bool) (Q : X → Type 0) → ((x : X) → test x ≡ true → Q x) → (xs : List X) → list_all test xs ≡ true → Every Q xs
Every-tested test Q tells [] e = tt
Every-tested test Q tells (x ∷ xs) e =
    let both = both_true (test x) (list_all test xs) e in
    (tells x both.0, Every-tested test Q tells xs both.1)

-- what holds of each place and its answer, and of each row that is put, holds after the puts
pub puts-each : (P : Place → Answer → Type 0) (H : Heap) (rows : List Row) → ((p : Place) → P p (H.at p)) → Every (λ (r : Row). P r.0 r.1) rows → (p : Place) → P p ((after H (puts rows)).at p)
puts-each P H [] before each = before
puts-each P H (r ∷ rows) before each =
    puts-each P (moved H (placed r.0 r.1)) rows (put_at-each P H.at r.0 r.1 before each.0) each.1

-- puts leave the kinds as they are
pub puts-kinds : (H : Heap) (rows : List Row) → (after H (puts rows)).kinds ≡ H.kinds
puts-kinds H [] = refl
puts-kinds H (r ∷ rows) = puts-kinds (moved H (placed r.0 r.1)) rows

-- puts after puts
pub puts-append : (H : Heap) (rows more : List Row) → after H (puts (rows ++ more)) ≡ after (after H (puts rows)) (puts more)
puts-append H [] more = refl
puts-append H (r ∷ rows) more = puts-append (moved H (placed r.0 r.1)) rows more

-- ---- what holds of each item of a list holds of each of a part

pub Every-left : {X : Type 0} (P : X → Type 0) (xs ys : List X) → Every P (xs ++ ys) → Every P xs
Every-left P [] ys h = tt
Every-left P (x ∷ xs) ys h = (h.0, Every-left P xs ys h.1)

pub Every-right : {X : Type 0} (P : X → Type 0) (xs ys : List X) → Every P (xs ++ ys) → Every P ys
Every-right P [] ys h = h
Every-right P (x ∷ xs) ys h = Every-right P xs ys h.1

pub Every-map_back : {X Y : Type 0} (P : Y → Type 0) (f : X → Y) (xs : List X) → Every P (map f xs) → Every (λ (x : X). P (f x)) xs
Every-map_back P f [] h = tt
Every-map_back P f (x ∷ xs) h = (h.0, Every-map_back P f xs h.1)

pub Every-flat : {X Y : Type 0} (P : Y → Type 0) (f : X → List Y) (xs : List X) → Every P (flat_map f xs) → Every (λ (x : X). Every P (f x)) xs
Every-flat P f [] h = tt
Every-flat P f (x ∷ xs) h = (Every-left P (f x) (flat_map f xs) h, Every-flat P f xs (Every-right P (f x) (flat_map f xs) h))

pub Every-at : {X : Type 0} (P : X → Type 0) (xs : List X) (i : ℕ) (d : X) → Every P xs → i < length xs → P (get_or xs i d)
Every-at P [] i d h few = absurd (omega arith)
Every-at P (x ∷ xs) zero d h few = h.0
Every-at P (x ∷ xs) (suc i) d h few = Every-at P xs i d h.1 (omega arith)
