-- Codes are only added, and a code's place that is held is filled.
use Rattle.std.proofs.Common.{◌≡◌, ℕ, zero, suc, ◌≤◌, ◌<◌, true, false, List, [], ◌∷◌, ◌++◌, length, Some, refl, subst, sym, ap, ◌∙◌, arith, append_assoc, length-append}
use Rattle.std.specs.Prelude.{All, slice_get, slice_set}
use Rattle.std.proofs.lemmas.List.{append-nil}
use Rattle.std.proofs.lemmas.List.Elements.{All-nil, All-weaker, All-append, All-push, All-cons, All-tail}
use Rattle.std.proofs.Math.Seq.{set-append_seam}
use Rattle.grammar.proofs.Giving.{all_front, all_behind}
use Rattle.js_tree.specs.declared.code.FnCode.{FnCode}
use Rattle.js_tree.specs.Valid.{is_there, in_function, ValidStmt, IsNamed, ValidCode}
use Rattle.js_nodes.specs.Pieces.{blank}
use Rattle.js_parser.proofs.ValidMore.{stmt_more}

-- Each code is valid where there are these.
abbrev pub Ready : List FnCode → Type 0
Ready cs = All (ValidCode cs) cs

-- The second are the first with more behind them, and are ready.
pub record Adds (cs ds : List FnCode) : Type 0 where
  pub more : List FnCode
  pub extends : ds ≡ cs ++ more
  pub ready : Ready ds

-- A code keeps its number behind which others are added.
get_more : (cs es : List FnCode) (n : ℕ) (c : FnCode) → slice_get cs n ≡ Some c → slice_get (cs ++ es) n ≡ Some c
get_more [] es n c h = cc
get_more (x ∷ cs) es zero c h = h
get_more (x ∷ cs) es (suc n) c h = get_more cs es n c h

-- Codes that are added make no fewer.
pub adds_length : {cs ds : List FnCode} → Adds cs ds → length cs ≤ length ds
adds_length {cs} {ds} h = omega (arith, ap (λ (l : List FnCode). length l) h.extends, length-append cs h.more)

-- A code with a name still has it where others were added.
pub adds_named : {cs ds : List FnCode} → Adds cs ds → (n : ℕ) → IsNamed cs n → IsNamed ds n
adds_named {cs} {ds} h n (c, e, t) = (c, subst (λ (l : List FnCode). slice_get l n ≡ Some c) (sym h.extends) (get_more cs h.more n c e), t)

-- Nothing is added.
pub adds_none : (cs : List FnCode) → Ready cs → Adds cs cs
adds_none cs h = record { more = []; extends = sym (append-nil cs); ready = h }

-- What is added in two steps is added.
pub adds_both : {cs ds es : List FnCode} → Adds cs ds → Adds ds es → Adds cs es
adds_both {cs} {ds} {es} h k = record {
  more = h.more ++ k.more;
  extends = k.extends ∙ (ap (λ (l : List FnCode). l ++ k.more) h.extends ∙ append_assoc cs h.more k.more);
  ready = k.ready;
}

-- A valid code is valid where there are as many codes, and those with names still have them.
pub code_more : (cs ds : List FnCode) → length cs ≤ length ds → ((n : ℕ) → IsNamed cs n → IsNamed ds n) → (c : FnCode) → ValidCode cs c → ValidCode ds c
code_more cs ds l k c h = record {
  params = h.params;
  vars = h.vars;
  funs = All-weaker (IsNamed cs) (IsNamed ds) k c.funs h.funs;
  body = All-weaker (ValidStmt 128 (length cs) in_function) (ValidStmt 128 (length ds) in_function) (λ x v. stmt_more 128 128 (length cs) (length ds) in_function x (omega arith) l v) c.body h.body;
}

-- ---- a held place

-- What holds a place is valid.
blank_valid : (cs : List FnCode) → ValidCode cs blank
blank_valid cs = record { params = tt; vars = tt; funs = All-nil (IsNamed cs); body = All-nil (ValidStmt 128 (length cs) in_function) }

-- Codes are ready with one more place held.
pub held : (cs : List FnCode) → Ready cs → Ready (cs ++ blank ∷ [])
held cs h =
    let ds = cs ++ blank ∷ [] in
    All-push (ValidCode ds) cs blank
    (All-weaker (ValidCode cs) (ValidCode ds) (λ c v. code_more cs ds (omega (arith, length-append cs (blank ∷ []))) (λ n (k, e, t). (k, get_more cs (blank ∷ []) n k e, t)) c v) cs h)
    (blank_valid ds)

-- Where a held place is filled, the codes with names are as before.
get_filled : (cs es : List FnCode) (c : FnCode) (n : ℕ) (k : FnCode) → slice_get (cs ++ blank ∷ es) n ≡ Some k → is_there k.name ≡ true → slice_get (cs ++ c ∷ es) n ≡ Some k
get_filled [] es c zero k e t =
    let b : blank ≡ k = cc in
    let f : false ≡ true = ap (λ (x : FnCode). is_there x.name) b ∙ t in
    cc
get_filled [] es c (suc n) k e t = e
get_filled (x ∷ cs) es c zero k e t = e
get_filled (x ∷ cs) es c (suc n) k e t = get_filled cs es c n k e t

-- Filling a place changes no number of codes.
length_filled : (cs es : List FnCode) (c d : FnCode) → length (cs ++ c ∷ es) ≡ length (cs ++ d ∷ es)
length_filled cs es c d = length-append cs (c ∷ es) ∙ sym (length-append cs (d ∷ es))

-- Where a held place is filled with a valid code, all are valid.
ready_filled : (cs es : List FnCode) (c : FnCode) → Ready (cs ++ blank ∷ es) → ValidCode (cs ++ blank ∷ es) c → Ready (cs ++ c ∷ es)
ready_filled cs es c h v =
    let old = cs ++ blank ∷ es in
    let new = cs ++ c ∷ es in
    let k = code_more old new (omega (arith, length_filled cs es blank c)) (λ n (x, e, t). (x, get_filled cs es c n x e t, t)) in
    let all = All-weaker (ValidCode old) (ValidCode new) k old h in
    All-append (ValidCode new) cs (c ∷ es) (all_front (ValidCode new) old cs (blank ∷ es) refl all)
    (All-cons (ValidCode new) c es (k c v) (All-tail (ValidCode new) blank es (all_behind (ValidCode new) cs (blank ∷ es) all)))

-- The code of a place that was filled stands there.
get_here : (cs es : List FnCode) (c : FnCode) → slice_get (cs ++ c ∷ es) (length cs) ≡ Some c
get_here [] es c = refl
get_here (x ∷ cs) es c = get_here cs es c

-- what the codes are where a held place was filled
pub record Filled (cs : List FnCode) (c : FnCode) (ds : List FnCode) : Type 0 where
  pub adds : Adds cs ds
  pub here : slice_get ds (length cs) ≡ Some c
  pub fits : length cs < length ds

-- the same of the codes before the place and behind it
filled_at : (cs es : List FnCode) (c : FnCode) → Ready (cs ++ blank ∷ es) → ValidCode (cs ++ blank ∷ es) c → Filled cs c (cs ++ c ∷ es)
filled_at cs es c h v = record {
  adds = record { more = c ∷ es; extends = refl; ready = ready_filled cs es c h v };
  here = get_here cs es c;
  fits = omega (arith, length-append cs (c ∷ es));
}

-- A code that is valid with the others is put into the place that was held for it.
pub filled : (cs ds : List FnCode) (c : FnCode) → Adds (cs ++ blank ∷ []) ds → ValidCode ds c → Filled cs c (slice_set ds (length cs) c)
filled cs ds c h v =
    let e = h.extends ∙ append_assoc cs (blank ∷ []) h.more in
    subst (λ (l : List FnCode). Filled cs c l) (sym (ap (λ (l : List FnCode). slice_set l (length cs) c) e ∙ set-append_seam cs blank h.more c))
    (filled_at cs h.more c (subst Ready e h.ready) (subst (λ (l : List FnCode). ValidCode l c) e v))
