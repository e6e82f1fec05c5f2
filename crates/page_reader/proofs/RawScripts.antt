-- The content of a script ends where a character of the page does.
use Rattle.std.proofs.Common.{◌≡◌, ℕ, ◌+◌, ◌-◌, ◌≤◌, Bool, true, false, inr, List, [], ◌∷◌, ◌++◌, length, Option, Some, None, refl, subst, sym, ap, ◌∙◌, append_assoc, arith}
use Rattle.std.specs.Prelude.{not, ◌&&◌}
use Rattle.std.specs.Str.{IsCharBoundary}
use Rattle.std.specs.Char.Escape.{encode_utf16}
use Rattle.std.proofs.lemmas.Bool.{and_parts}
use Rattle.std.proofs.lemmas.Bool.Decides.{nat_tests}
use Rattle.grammar.specs.Reading.{is_some}
use Rattle.placed_chars.specs.declared.chars.Char.{Char}
use Rattle.placed_chars.specs.Chars.{placed, is_end}
use Rattle.page_reader.specs.declared.node.RawContent.{RawContent}
use Rattle.page_reader.specs.Classes.{is_gt}
use Rattle.page_reader.specs.Names.{is_script}
use Rattle.page_reader.specs.Raw.{end_tag_at, raw_goes, raw_character, before_end_tag, raw}
use Rattle.page_reader.proofs.Leaves.{Leaves, kept}
use Rattle.page_reader.proofs.Places.{bytes_of, bytes_push, bytes_append, IsAt, at_past, at_boundary, Begins, IsRest, IsRead, read_one, begins_past}
use Rattle.page_reader.proofs.Units.{units_of, units_push, IsAsciiFrom, IsCut, cut}
use Rattle.page_reader.proofs.EndTags.{EndsInAscii, ends_in_ascii}

-- From the one byte to before the other the bytes are characters.
pub record IsSpan (bytes : List ℕ) (start end : ℕ) : Type 0 where
  pub ordered : start ≤ end
  pub begins : IsCharBoundary bytes start
  pub ends : IsCharBoundary bytes end

-- A `>` isn't the end.
pub gt_stands : (x : ℕ) → is_gt x ≡ true → is_end x ≡ false
gt_stands x e = grind (arith, nat_tests)

-- What makes `not` true is false.
not_true : (b : Bool) → not b ≡ true → b ≡ false
not_true true e = absurd cc
not_true false e = refl

-- Some characters stand from this byte on, their units are these, and after them come the tokens.
pub record IsRun (bytes : List ℕ) (start : ℕ) (units : List ℕ) (ts : List Char) : Type 0 where
  pub done : List ℕ
  pub codes : List ℕ
  pub stands : IsAt bytes start (done ++ codes)
  pub coded : units ≡ units_of done
  pub tokens : ts ≡ placed (start + bytes_of done) codes

-- none so far
run_begins : (bytes : List ℕ) (start : ℕ) (ts : List Char) → Begins bytes start ts → IsRun bytes start [] ts
run_begins bytes start ts b = record {
  done = [];
  codes = b.codes;
  stands = b.stands;
  coded = refl;
  tokens = b.tokens ∙ ap (λ (m : ℕ). placed m b.codes) (omega arith);
}

-- one character more
run_more : (bytes : List ℕ) (start : ℕ) (units : List ℕ) (t : Char) (ts rest : List Char) → IsRun bytes start units ts → ts ≡ t ∷ rest → is_end t.code ≡ false → IsRun bytes start (units ++ encode_utf16 t.code) rest
run_more bytes start units t ts rest r e h =
    let one : IsRead bytes (start + bytes_of r.done) r.codes t rest = read_one bytes (start + bytes_of r.done) r.codes t rest (sym e ∙ r.tokens) h in
    record {
      done = r.done ++ one.code ∷ [];
      codes = one.more;
      stands = subst (λ l. IsAt bytes start l) (ap (λ (l : List ℕ). r.done ++ l) one.split ∙ sym (append_assoc r.done (one.code ∷ []) one.more)) r.stands;
      coded = ap (λ (l : List ℕ). l ++ encode_utf16 t.code) r.coded ∙ ap (λ (c : ℕ). units_of r.done ++ encode_utf16 c) one.is_code ∙ sym (units_push r.done one.code);
      tokens = one.after ∙ ap (λ (m : ℕ). placed m one.more) (omega (arith, bytes_push r.done one.code));
    }

-- ---- where the content ends

-- at the `>`, or before the end tag
end_cut : (bytes : List ℕ) (start : ℕ) (tag units : List ℕ) (ts : List Char) (at : ℕ) → is_script tag ≡ true → (r : IsRun bytes start units ts) → at ≡ start + bytes_of r.done → (o : Option ℕ) → end_tag_at tag units ≡ o → IsSpan bytes start (before_end_tag units o at).end
end_cut bytes start tag units ts at s r e None h = record {
  ordered = omega (arith, e);
  begins = at_boundary bytes start (r.done ++ r.codes) r.stands;
  ends = subst (λ m. IsCharBoundary bytes m) (sym e) (at_boundary bytes (start + bytes_of r.done) r.codes (at_past bytes start r.done r.codes r.stands));
}
end_cut bytes start tag units ts at s r e (Some n) h =
    let a : EndsInAscii n units = ends_in_ascii tag units n s h in
    let k : IsCut r.done n = cut r.done n (subst (λ l. n ≤ length l) r.coded a.within) (subst (λ l. IsAsciiFrom n l) r.coded a.ascii) in
    let stands : IsAt bytes start (k.prefix ++ (k.suffix ++ r.codes)) = subst (λ l. IsAt bytes start l) (ap (λ (l : List ℕ). l ++ r.codes) k.split ∙ append_assoc k.prefix k.suffix r.codes) r.stands in
    let parts : bytes_of r.done ≡ bytes_of k.prefix + bytes_of k.suffix = ap (λ (l : List ℕ). bytes_of l) k.split ∙ bytes_append k.prefix k.suffix in
    let long : n + bytes_of k.suffix ≡ length units = k.long ∙ sym (ap (λ (l : List ℕ). length l) r.coded) in
    let place : start + bytes_of k.prefix ≡ at - (length units - n) = omega (arith, e, parts, long) in
    record {
      ordered = omega (arith, place);
      begins = at_boundary bytes start (r.done ++ r.codes) r.stands;
      ends = subst (λ m. IsCharBoundary bytes m) place (at_boundary bytes (start + bytes_of k.prefix) (k.suffix ++ r.codes) (at_past bytes start k.prefix (k.suffix ++ r.codes) stands));
    }

-- What raw content leaves: the tokens after the end tag, and the content's bytes, if it is that of a script.
abbrev pub IsRaw : List ℕ → ℕ → List ℕ → RawContent → List Char → Type 0
IsRaw bytes start tag content rest = IsRest bytes rest × (is_script tag ≡ true → IsSpan bytes start content.end)

-- At the `>` that ends raw content that is so.
raw_ends : (bytes : List ℕ) (start : ℕ) (tag units : List ℕ) (t : Char) (ts rest : List Char) → IsRun bytes start units ts → ts ≡ t ∷ rest → is_gt t.code ≡ true → IsRaw bytes start tag (before_end_tag units (end_tag_at tag units) t.at) rest
raw_ends bytes start tag units t ts rest r e q =
    let one : IsRead bytes (start + bytes_of r.done) r.codes t rest = read_one bytes (start + bytes_of r.done) r.codes t rest (sym e ∙ r.tokens) (gt_stands t.code q) in
    let here : IsRest bytes (t ∷ rest) = subst (λ l. IsRest bytes l) e (inr (start + bytes_of r.done, record { codes = r.codes; stands = at_past bytes start r.done r.codes r.stands; tokens = r.tokens })) in
    (inr (t.past, begins_past bytes t rest here (gt_stands t.code q)), λ s. end_cut bytes start tag units ts t.at s r one.here (end_tag_at tag units) refl)

-- Raw content that begins at a byte leaves that.
pub raw_leaves : (bytes : List ℕ) (start tag_at : ℕ) (tag : List ℕ) (ts : List Char) → Begins bytes start ts → Leaves (raw tag_at tag) ts (IsRaw bytes start tag)
unfolding raw
raw_leaves bytes start tag_at tag ts b =
    kept (raw_goes tag) (raw_character tag) [] ts _ (λ units s. IsRun bytes start units s) (run_begins bytes start ts b)
    (λ units s r t rest e q. run_more bytes start units t s rest r e (not_true (is_end t.code) (and_parts (not (is_end t.code)) (not (is_gt t.code && is_some (end_tag_at tag units))) q).0))
    (λ units s r. (λ t rest e q. raw_ends bytes start tag units t s rest r e q, tt))
