-- The tables of reserved words and punctuators: what is found is what is spelled so, and each is found.
use Rattle.std.proofs.Common.{◌≡◌, ℕ, ◌⊎◌, inl, inr, Bool, true, false, cond, List, [], ◌∷◌, ◌++◌, Some, refl, sym, ap, ◌∙◌}
use Rattle.std.specs.Prelude.{bytes_eq, find}
use Rattle.std.proofs.lemmas.Slice.Eq.{bytes_eq-Decides}
use Rattle.js_lexer.specs.declared.token.Word.{Word}
use Rattle.js_lexer.specs.declared.token.Word.TheVariants as w
use Rattle.js_lexer.specs.declared.token.Punct.{Punct}
use Rattle.js_lexer.specs.declared.token.Punct.TheVariants as p
use Rattle.js_lexer.specs.Words as words
use Rattle.js_lexer.specs.Words.{word_of}
use Rattle.js_lexer.specs.Punctuators as puncts
use Rattle.js_lexer.specs.Punctuators.{punct_of, longer}

-- What is found in a table is spelled so.
found : {X : Type 0} (spell : X → List ℕ) (units : List ℕ) (xs : List X) (x : X) → find (λ y. bytes_eq units (spell y)) xs ≡ Some x → spell x ≡ units
found spell units [] x e = cc
found {X} spell units (y ∷ ys) x e = go (bytes_eq units (spell y)) refl (λ k. found spell units ys x k) e
  where
    go : (b : Bool) → bytes_eq units (spell y) ≡ b → (find (λ z. bytes_eq units (spell z)) ys ≡ Some x → spell x ≡ units) → cond b (Some y) (find (λ z. bytes_eq units (spell z)) ys) ≡ Some x → spell x ≡ units
    go true h k e = let same : y ≡ x = cc in ap (λ (z : X). spell z) (sym same) ∙ sym ((bytes_eq-Decides units (spell y)).0 h)
    go false h k e = k e

-- ---- reserved words

-- A word is found where it is spelled so, and nowhere else.
pub word_spelled : (units : List ℕ) (word : Word) → word_of units ≡ Some word → words.spelling word ≡ units
unfolding word_of
word_spelled units word e = found words.spelling units words.words word e

pub word_found : (word : Word) → word_of (words.spelling word) ≡ Some word
unfolding word_of
word_found w.Break = refl
word_found w.Case = refl
word_found w.Catch = refl
word_found w.Class = refl
word_found w.Const = refl
word_found w.Continue = refl
word_found w.Debugger = refl
word_found w.Default = refl
word_found w.Delete = refl
word_found w.Do = refl
word_found w.Else = refl
word_found w.Enum = refl
word_found w.Export = refl
word_found w.Extends = refl
word_found w.False = refl
word_found w.Finally = refl
word_found w.For = refl
word_found w.Function = refl
word_found w.If = refl
word_found w.Implements = refl
word_found w.Import = refl
word_found w.In = refl
word_found w.Instanceof = refl
word_found w.Interface = refl
word_found w.Let = refl
word_found w.New = refl
word_found w.Null = refl
word_found w.Package = refl
word_found w.Private = refl
word_found w.Protected = refl
word_found w.Public = refl
word_found w.Return = refl
word_found w.Static = refl
word_found w.Super = refl
word_found w.Switch = refl
word_found w.This = refl
word_found w.Throw = refl
word_found w.True = refl
word_found w.Try = refl
word_found w.Typeof = refl
word_found w.Var = refl
word_found w.Void = refl
word_found w.While = refl
word_found w.With = refl
word_found w.Yield = refl

-- ---- punctuators

-- A punctuator is found where it is spelled so, and nowhere else.
pub punct_spelled : (units : List ℕ) (punct : Punct) → punct_of units ≡ Some punct → puncts.spelling punct ≡ units
unfolding punct_of
punct_spelled units punct e = found puncts.spelling units puncts.punctuators punct e

pub punct_found : (punct : Punct) → punct_of (puncts.spelling punct) ≡ Some punct
unfolding punct_of
punct_found p.LeftBrace = refl
punct_found p.RightBrace = refl
punct_found p.LeftParen = refl
punct_found p.RightParen = refl
punct_found p.LeftBracket = refl
punct_found p.RightBracket = refl
punct_found p.Dot = refl
punct_found p.Semicolon = refl
punct_found p.Comma = refl
punct_found p.Less = refl
punct_found p.Greater = refl
punct_found p.LessEqual = refl
punct_found p.GreaterEqual = refl
punct_found p.Equal = refl
punct_found p.NotEqual = refl
punct_found p.StrictEqual = refl
punct_found p.StrictNotEqual = refl
punct_found p.Plus = refl
punct_found p.Minus = refl
punct_found p.Star = refl
punct_found p.Slash = refl
punct_found p.Percent = refl
punct_found p.Increment = refl
punct_found p.Decrement = refl
punct_found p.ShiftLeft = refl
punct_found p.ShiftRight = refl
punct_found p.ShiftRightZero = refl
punct_found p.BitAnd = refl
punct_found p.BitOr = refl
punct_found p.BitXor = refl
punct_found p.Not = refl
punct_found p.BitNot = refl
punct_found p.And = refl
punct_found p.Or = refl
punct_found p.Question = refl
punct_found p.Colon = refl
punct_found p.Assign = refl
punct_found p.PlusAssign = refl
punct_found p.MinusAssign = refl
punct_found p.StarAssign = refl
punct_found p.PercentAssign = refl
punct_found p.SlashAssign = refl
punct_found p.ShiftLeftAssign = refl
punct_found p.ShiftRightAssign = refl
punct_found p.ShiftRightZeroAssign = refl
punct_found p.BitAndAssign = refl
punct_found p.BitOrAssign = refl
punct_found p.BitXorAssign = refl

-- One character more makes q of p exactly where q is spelled as p with that character behind it.
pub longer_spelled : (p q : Punct) (c : ℕ) → longer p c ≡ Some q → puncts.spelling q ≡ puncts.spelling p ++ c ∷ []
longer_spelled p q c e = punct_spelled (puncts.spelling p ++ c ∷ []) q e

pub longer_found : (p q : Punct) (c : ℕ) → puncts.spelling q ≡ puncts.spelling p ++ c ∷ [] → longer p c ≡ Some q
longer_found p q c e = ap (λ (units : List ℕ). punct_of units) (sym e) ∙ punct_found q

-- A punctuator has one character, or is another with one more: so the longest is reached by one character at a time.
pub front : (q : Punct) → ((c : ℕ) × (puncts.spelling q ≡ c ∷ [])) ⊎ ((p : Punct) × (c : ℕ) × (puncts.spelling q ≡ puncts.spelling p ++ c ∷ []))
front p.LeftBrace = inl (0x7B, refl)
front p.RightBrace = inl (0x7D, refl)
front p.LeftParen = inl (0x28, refl)
front p.RightParen = inl (0x29, refl)
front p.LeftBracket = inl (0x5B, refl)
front p.RightBracket = inl (0x5D, refl)
front p.Dot = inl (0x2E, refl)
front p.Semicolon = inl (0x3B, refl)
front p.Comma = inl (0x2C, refl)
front p.Less = inl (0x3C, refl)
front p.Greater = inl (0x3E, refl)
front p.LessEqual = inr (p.Less, 0x3D, refl)
front p.GreaterEqual = inr (p.Greater, 0x3D, refl)
front p.Equal = inr (p.Assign, 0x3D, refl)
front p.NotEqual = inr (p.Not, 0x3D, refl)
front p.StrictEqual = inr (p.Equal, 0x3D, refl)
front p.StrictNotEqual = inr (p.NotEqual, 0x3D, refl)
front p.Plus = inl (0x2B, refl)
front p.Minus = inl (0x2D, refl)
front p.Star = inl (0x2A, refl)
front p.Slash = inl (0x2F, refl)
front p.Percent = inl (0x25, refl)
front p.Increment = inr (p.Plus, 0x2B, refl)
front p.Decrement = inr (p.Minus, 0x2D, refl)
front p.ShiftLeft = inr (p.Less, 0x3C, refl)
front p.ShiftRight = inr (p.Greater, 0x3E, refl)
front p.ShiftRightZero = inr (p.ShiftRight, 0x3E, refl)
front p.BitAnd = inl (0x26, refl)
front p.BitOr = inl (0x7C, refl)
front p.BitXor = inl (0x5E, refl)
front p.Not = inl (0x21, refl)
front p.BitNot = inl (0x7E, refl)
front p.And = inr (p.BitAnd, 0x26, refl)
front p.Or = inr (p.BitOr, 0x7C, refl)
front p.Question = inl (0x3F, refl)
front p.Colon = inl (0x3A, refl)
front p.Assign = inl (0x3D, refl)
front p.PlusAssign = inr (p.Plus, 0x3D, refl)
front p.MinusAssign = inr (p.Minus, 0x3D, refl)
front p.StarAssign = inr (p.Star, 0x3D, refl)
front p.PercentAssign = inr (p.Percent, 0x3D, refl)
front p.SlashAssign = inr (p.Slash, 0x3D, refl)
front p.ShiftLeftAssign = inr (p.ShiftLeft, 0x3D, refl)
front p.ShiftRightAssign = inr (p.ShiftRight, 0x3D, refl)
front p.ShiftRightZeroAssign = inr (p.ShiftRightZero, 0x3D, refl)
front p.BitAndAssign = inr (p.BitAnd, 0x3D, refl)
front p.BitOrAssign = inr (p.BitOr, 0x3D, refl)
front p.BitXorAssign = inr (p.BitXor, 0x3D, refl)
