-- Punctuators and reserved words are told apart by their spellings.
use Rattle.std.proofs.Common.{◌≡◌, Bool, true, false, Option, Some, refl, sym, ap, ◌∙◌}
use Rattle.std.specs.Prelude.{◌↔◌, IsTrue}
use Rattle.std.proofs.lemmas.Slice.Eq.{bytes_eq-Decides}
use Rattle.js_lexer.specs.declared.token.Word.{Word}
use Rattle.js_lexer.specs.declared.token.Word.TheVariants as w
use Rattle.js_lexer.specs.declared.token.Punct.{Punct}
use Rattle.js_lexer.specs.declared.token.Punct.TheVariants as p
use Rattle.js_lexer.specs.Words as words
use Rattle.js_lexer.specs.Words.{word_of}
use Rattle.js_lexer.specs.Punctuators as puncts
use Rattle.js_lexer.specs.Punctuators.{punct_of}
use Rattle.js_nodes.specs.Next.{same_sign, same_word}

some_same : {X : Type 0} (x y : X) (o : Option X) → o ≡ Some x → o ≡ Some y → x ≡ y
some_same x y o e h = cc

sign_found : (sign : Punct) → punct_of (puncts.spelling sign) ≡ Some sign
unfolding punct_of
sign_found p.LeftBrace = refl
sign_found p.RightBrace = refl
sign_found p.LeftParen = refl
sign_found p.RightParen = refl
sign_found p.LeftBracket = refl
sign_found p.RightBracket = refl
sign_found p.Dot = refl
sign_found p.Semicolon = refl
sign_found p.Comma = refl
sign_found p.Less = refl
sign_found p.Greater = refl
sign_found p.LessEqual = refl
sign_found p.GreaterEqual = refl
sign_found p.Equal = refl
sign_found p.NotEqual = refl
sign_found p.StrictEqual = refl
sign_found p.StrictNotEqual = refl
sign_found p.Plus = refl
sign_found p.Minus = refl
sign_found p.Star = refl
sign_found p.Slash = refl
sign_found p.Percent = refl
sign_found p.Increment = refl
sign_found p.Decrement = refl
sign_found p.ShiftLeft = refl
sign_found p.ShiftRight = refl
sign_found p.ShiftRightZero = refl
sign_found p.BitAnd = refl
sign_found p.BitOr = refl
sign_found p.BitXor = refl
sign_found p.Not = refl
sign_found p.BitNot = refl
sign_found p.And = refl
sign_found p.Or = refl
sign_found p.Question = refl
sign_found p.Colon = refl
sign_found p.Assign = refl
sign_found p.PlusAssign = refl
sign_found p.MinusAssign = refl
sign_found p.StarAssign = refl
sign_found p.PercentAssign = refl
sign_found p.SlashAssign = refl
sign_found p.ShiftLeftAssign = refl
sign_found p.ShiftRightAssign = refl
sign_found p.ShiftRightZeroAssign = refl
sign_found p.BitAndAssign = refl
sign_found p.BitOrAssign = refl
sign_found p.BitXorAssign = refl

word_found : (word : Word) → word_of (words.spelling word) ≡ Some word
unfolding word_of
word_found w.Break = refl
word_found w.Case = refl
word_found w.Catch = refl
word_found w.Class = refl
word_found w.Const = refl
word_found w.Continue = refl
word_found w.Debugger = refl
word_found w.Default = refl
word_found w.Delete = refl
word_found w.Do = refl
word_found w.Else = refl
word_found w.Enum = refl
word_found w.Export = refl
word_found w.Extends = refl
word_found w.False = refl
word_found w.Finally = refl
word_found w.For = refl
word_found w.Function = refl
word_found w.If = refl
word_found w.Implements = refl
word_found w.Import = refl
word_found w.In = refl
word_found w.Instanceof = refl
word_found w.Interface = refl
word_found w.Let = refl
word_found w.New = refl
word_found w.Null = refl
word_found w.Package = refl
word_found w.Private = refl
word_found w.Protected = refl
word_found w.Public = refl
word_found w.Return = refl
word_found w.Static = refl
word_found w.Super = refl
word_found w.Switch = refl
word_found w.This = refl
word_found w.Throw = refl
word_found w.True = refl
word_found w.Try = refl
word_found w.Typeof = refl
word_found w.Var = refl
word_found w.Void = refl
word_found w.While = refl
word_found w.With = refl
word_found w.Yield = refl

-- Signs that are spelled alike are one.
pub sign_spelled : (q sign : Punct) → puncts.spelling q ≡ puncts.spelling sign → q ≡ sign
sign_spelled q sign e = some_same q sign (punct_of (puncts.spelling sign)) (ap punct_of (sym e) ∙ sign_found q) (sign_found sign)

pub word_spelled : (v word : Word) → words.spelling v ≡ words.spelling word → v ≡ word
word_spelled v word e = some_same v word (word_of (words.spelling word)) (ap word_of (sym e) ∙ word_found v) (word_found word)

told : (a b : Bool) → (IsTrue a → b ≡ true) → (b ≡ true → IsTrue a) → a ≡ b
told true b h k = sym (h refl)
told false true h k = k refl
told false false h k = refl

pub sign_told : (b : Bool) (q sign : Punct) → (IsTrue b ↔ (q ≡ sign)) → b ≡ same_sign q sign
unfolding same_sign
sign_told b q sign h = told b _ (λ t. (bytes_eq-Decides (puncts.spelling q) (puncts.spelling sign)).1 (ap (λ (x : Punct). puncts.spelling x) (h.0 t))) (λ e. h.1 (sign_spelled q sign ((bytes_eq-Decides (puncts.spelling q) (puncts.spelling sign)).0 e)))

pub word_told : (b : Bool) (v word : Word) → (IsTrue b ↔ (v ≡ word)) → b ≡ same_word v word
unfolding same_word
word_told b v word h = told b _ (λ t. (bytes_eq-Decides (words.spelling v) (words.spelling word)).1 (ap (λ (x : Word). words.spelling x) (h.0 t))) (λ e. h.1 (word_spelled v word ((bytes_eq-Decides (words.spelling v) (words.spelling word)).0 e)))
