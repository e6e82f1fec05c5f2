-- Bytes that come and go in pieces.
use Rattle.std.proofs.Common.{◌≡◌, ℕ, ◌+◌, zero, List, [], ◌∷◌, ◌++◌, length, take, drop, Option, Some, None, refl, suc, ap, sym, ◌∙◌, append_assoc, arith, subst}
use Rattle.std.proofs.lemmas.List.{take_at, drop-drop, take-append-drop, append-nil}
use Rattle.byte_ports.specs.Streams.{before, after, Rose}

-- the bytes that came are the next of those that were left
pub came : (bs ys rest : List ℕ) (at n k : ℕ) → ys ≡ take k (drop at bs) → k ≡ n → length ys ≡ n → drop at bs ≡ take n (ys ++ rest) ++ drop (at + n) bs
came bs ys rest at n k e kn l =
    let front : take n (ys ++ rest) ≡ ys = take_at ys rest n l in
    let back : drop n (drop at bs) ≡ drop (at + n) bs = drop-drop n at bs in
    let whole : take n (drop at bs) ++ drop n (drop at bs) ≡ drop at bs = take-append-drop n (drop at bs) in
    let ys_is : ys ≡ take n (drop at bs) = subst (λ (m : ℕ). ys ≡ take m (drop at bs)) kn e in
    sym (ap (λ (z : List ℕ). z ++ drop (at + n) bs) (front ∙ ys_is) ∙ ap (λ (z : List ℕ). take n (drop at bs) ++ z) (sym back) ∙ whole)

take_nil : (m : ℕ) → ◌≡◌ {A = List ℕ} (take m []) []
take_nil zero = refl
take_nil (suc m) = refl

-- a front and the next piece make a longer front
pub take_then : (n m : ℕ) (xs : List ℕ) → take n xs ++ take m (drop n xs) ≡ take (n + m) xs
take_then zero m xs = ap (λ k. take k xs) (let e : m ≡ 0 + m = Prim.omega arith in e)
take_then (suc n) m [] = take_nil m ∙ sym (take_nil (suc n + m))
take_then (suc n) m (x ∷ xs) = ap (λ (z : List ℕ). x ∷ z) (take_then n m xs) ∙ ap (λ k. take k (x ∷ xs)) (let e : suc (n + m) ≡ suc n + m = Prim.omega arith in e)

pub after_after : (t : Option (List ℕ)) (xs ys : List ℕ) → after (after t xs) ys ≡ after t (xs ++ ys)
after_after None xs ys = refl
after_after (Some front) xs ys = ap Some (append_assoc front xs ys)

pub before_before : (t : Option (List ℕ)) (xs ys : List ℕ) → before xs (before ys t) ≡ before (xs ++ ys) t
before_before None xs ys = refl
before_before (Some rest) xs ys = ap Some (sym (append_assoc xs ys rest))

pub after_nil : (t : Option (List ℕ)) → after t [] ≡ t
after_nil None = refl
after_nil (Some front) = ap Some (append-nil front)

pub before_nil : (t : Option (List ℕ)) → before [] t ≡ t
before_nil None = refl
before_nil (Some rest) = refl

pub Rose-from : (a b c : ℕ) → a ≡ b → Rose b c → Rose a c
Rose-from a b c e r = subst (λ (x : ℕ). Rose x c) (sym e) r

-- the front that was written, and the next piece
pub written_more : (t u v : Option (List ℕ)) (n m : ℕ) (bs : List ℕ) → u ≡ after t (take n bs) → v ≡ after u (take m (drop n bs)) → v ≡ after t (take (n + m) bs)
written_more t u v n m bs e f = f ∙ ap (λ (z : Option (List ℕ)). after z (take m (drop n bs))) e ∙ after_after t (take n bs) (take m (drop n bs)) ∙ ap (after t) (take_then n m bs)
