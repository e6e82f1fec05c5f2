-- The places of a text's characters in its bytes, and the tokens that stand from a place on.
use Rattle.std.proofs.Common.{◌≡◌, ℕ, ◌+◌, ◌≤◌, ◌⊎◌, true, false, inl, inr, List, [], ◌∷◌, ◌++◌, length, drop, refl, subst, sym, ap, ◌∙◌, arith}
use Rattle.std.specs.Prelude.{encode_utf8}
use Rattle.std.specs.Str.{chars, IsUtf8, IsCharBoundary, encode_utf8_all}
use Rattle.std.specs.Char.{len_utf8}
use Rattle.std.proofs.lemmas.List.{length-append, length-drop}
use Rattle.std.proofs.lemmas.Str.{encodes-chars, length-encode, drop_past_char, IsUtf8-past_char, IsCharBoundary-from_drop}
use Rattle.placed_chars.specs.declared.chars.Char.{Char}
use Rattle.placed_chars.specs.Chars.{placed, is_end}

-- how many bytes these characters have
abbrev pub bytes_of : List ℕ → ℕ
bytes_of [] = 0
bytes_of (c ∷ cs) = len_utf8 c + bytes_of cs

-- From this byte on the bytes are these characters.
pub record IsAt (bytes : List ℕ) (n : ℕ) (cs : List ℕ) : Type 0 where
  pub within : n ≤ length bytes
  pub utf8 : IsUtf8 (drop n bytes)
  pub spelled : drop n bytes ≡ encode_utf8_all cs

-- all of a text
pub at_start : (bytes : List ℕ) → IsUtf8 bytes → IsAt bytes 0 (chars bytes)
at_start bytes u = record { within = omega arith; utf8 = u; spelled = sym (encodes-chars bytes u) }

-- after its first character
pub at_next : (bytes : List ℕ) (n c : ℕ) (cs : List ℕ) → IsAt bytes n (c ∷ cs) → IsAt bytes (n + len_utf8 c) cs
at_next bytes n c cs a =
    let past : drop (n + len_utf8 c) bytes ≡ encode_utf8_all cs = drop_past_char bytes (encode_utf8_all cs) n c a.spelled in
    let long : length (drop n bytes) ≡ length (encode_utf8 c) + length (encode_utf8_all cs) = ap (λ (l : List ℕ). length l) a.spelled ∙ length-append (encode_utf8 c) (encode_utf8_all cs) in
    let within : n ≤ length bytes = a.within in
    record {
      within = omega (arith, length-drop n bytes, length-encode c);
      utf8 = subst (λ l. IsUtf8 l) (sym past) (IsUtf8-past_char (drop n bytes) (encode_utf8_all cs) c a.utf8 a.spelled);
      spelled = past;
    }

-- after some characters
pub at_past : (bytes : List ℕ) (n : ℕ) (cs ds : List ℕ) → IsAt bytes n (cs ++ ds) → IsAt bytes (n + bytes_of cs) ds
at_past bytes n [] ds a = subst (λ m. IsAt bytes m ds) (omega arith) a
at_past bytes n (c ∷ cs) ds a = subst (λ m. IsAt bytes m ds) (omega arith) (at_past bytes (n + len_utf8 c) cs ds (at_next bytes n c (cs ++ ds) a))

-- Such a place is a boundary of characters.
pub at_boundary : (bytes : List ℕ) (n : ℕ) (cs : List ℕ) → IsAt bytes n cs → IsCharBoundary bytes n
at_boundary bytes n cs a = IsCharBoundary-from_drop bytes n a.within a.utf8

-- the bytes of one character more
pub bytes_push : (cs : List ℕ) (c : ℕ) → bytes_of (cs ++ c ∷ []) ≡ bytes_of cs + len_utf8 c
bytes_push [] c = omega arith
bytes_push (d ∷ cs) c = omega (arith, bytes_push cs c)

-- the bytes of characters and of others after them
pub bytes_append : (cs ds : List ℕ) → bytes_of (cs ++ ds) ≡ bytes_of cs + bytes_of ds
bytes_append [] ds = omega arith
bytes_append (c ∷ cs) ds = omega (arith, bytes_append cs ds)

-- These tokens are the characters from the byte n on.
pub record Begins (bytes : List ℕ) (n : ℕ) (ts : List Char) : Type 0 where
  pub codes : List ℕ
  pub stands : IsAt bytes n codes
  pub tokens : ts ≡ placed n codes

-- These tokens are the characters from some byte on, or even the end is read.
abbrev pub IsRest : List ℕ → List Char → Type 0
IsRest bytes ts = (ts ≡ []) ⊎ ((n : ℕ) × Begins bytes n ts)

-- After a token come the characters after the first, or none.
begins_next : (bytes : List ℕ) (n : ℕ) (t : Char) (ts : List Char) (codes : List ℕ) → IsAt bytes n codes → t ∷ ts ≡ placed n codes → IsRest bytes ts
begins_next bytes n t ts [] a e = inl cc
begins_next bytes n t ts (c ∷ cs) a e = inr (n + len_utf8 c, record { codes = cs; stands = at_next bytes n c cs a; tokens = cc })

-- after the first of them
pub rest_tail : (bytes : List ℕ) (t : Char) (ts : List Char) → IsRest bytes (t ∷ ts) → IsRest bytes ts
rest_tail bytes t ts (inl e) = absurd cc
rest_tail bytes t ts (inr (n, b)) = begins_next bytes n t ts b.codes b.stands b.tokens

-- a character that was read at a byte
pub record IsRead (bytes : List ℕ) (n : ℕ) (codes : List ℕ) (t : Char) (ts : List Char) : Type 0 where
  pub code : ℕ
  pub more : List ℕ
  pub split : codes ≡ code ∷ more
  pub is_code : t.code ≡ code
  pub here : t.at ≡ n
  pub past : t.past ≡ n + len_utf8 code
  pub after : ts ≡ placed (n + len_utf8 code) more

-- Of the characters from a byte on the first was read, which isn't the end.
pub read_one : (bytes : List ℕ) (n : ℕ) (codes : List ℕ) (t : Char) (ts : List Char) → t ∷ ts ≡ placed n codes → is_end t.code ≡ false → IsRead bytes n codes t ts
read_one bytes n [] t ts e h =
    let same : t ≡ record { code = 0x11_0000; at = n; past = n } = cc in
    let over : true ≡ false = subst (λ (x : Char). is_end x.code ≡ false) same h in
    absurd cc
read_one bytes n (c ∷ cs) t ts e h =
    let same : t ≡ record { code = c; at = n; past = n + len_utf8 c } = cc in
    record {
      code = c;
      more = cs;
      split = refl;
      is_code = ap (λ (x : Char). x.code) same;
      here = ap (λ (x : Char). x.at) same;
      past = ap (λ (x : Char). x.past) same;
      after = cc;
    }

-- After such a character the tokens are those from its end on.
pub begins_past : (bytes : List ℕ) (t : Char) (ts : List Char) → IsRest bytes (t ∷ ts) → is_end t.code ≡ false → Begins bytes t.past ts
begins_past bytes t ts (inl e) h = absurd cc
begins_past bytes t ts (inr (n, b)) h =
    let r : IsRead bytes n b.codes t ts = read_one bytes n b.codes t ts b.tokens h in
    subst (λ m. Begins bytes m ts) (sym r.past)
    (record { codes = r.more; stands = at_next bytes n r.code r.more (subst (λ l. IsAt bytes n l) r.split b.stands); tokens = r.after })
