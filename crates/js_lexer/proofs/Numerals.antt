-- Each number among what the rules of tokens give is a whole number from 0 to 2^53 - 1.
use Rattle.std.proofs.Common.{◌≡◌, ℕ, ◌≤◌, Bool, true, false, cond, List, [], ◌∷◌, Option, Some, None, arith}
use Rattle.std.specs.Prelude.{pos, All, Result, Ok, Err, IfOk, Vec}
use Rattle.std.specs.declared.alloc.Global.{Global}
use Rattle.std.specs.Char.{digit_value}
use Rattle.std.specs.Char.Escape.{encode_utf16}
use Rattle.std.proofs.lemmas.Bool.Decides.{nat_tests}
use Rattle.std.proofs.lemmas.Int.{ints}
use Rattle.std.proofs.lemmas.List.Elements.{All-nil, All-push}
use Rattle.page_units.specs.Numbers.{greatest_number}
use Rattle.grammar.specs.Exactly.{Says}
use Rattle.grammar.specs.Grammar.{done, again}
use Rattle.grammar.specs.Words.{choice, must, need}
use Rattle.grammar.specs.Giving.{Gives}
use Rattle.grammar.proofs.Giving.{gives, gives_more, gives_each, kept, cond_gives, barred_gives}
use Rattle.placed_chars.specs.declared.chars.Char.{Char}
use Rattle.placed_chars.specs.Chars.{placed, stop}
use Rattle.js_lexer.specs.declared.fault.LexFault.{LexFault}
use Rattle.js_lexer.specs.declared.fault.LexFault.TheVariants.{BadChar, BadNumber, UnclosedText, UnclosedComment}
use Rattle.js_lexer.specs.declared.token.Kind.TheVariants as k
use Rattle.js_lexer.specs.declared.token.Punct.{Punct}
use Rattle.js_lexer.specs.declared.token.Punct.TheVariants as p
use Rattle.js_lexer.specs.declared.token.Token.{Token}
use Rattle.js_lexer.specs.declared.token.Word.{Word}
use Rattle.js_lexer.specs.declared.lexer.Lexeme.{Lexeme}
use Rattle.js_lexer.specs.declared.lexer.Element.{Element}
use Rattle.js_lexer.specs.declared.lexer.Element.TheVariants as e
use Rattle.js_lexer.specs.declared.numbers.Numeral.{Numeral}
use Rattle.js_lexer.specs.Chars.{R, of, is, is_white, is_terminator, starts_name, is_digit, is_hex, is_quote}
use Rattle.js_lexer.specs.Blanks.{line_comment, inside, block_goes, block_char, block_comment}
use Rattle.js_lexer.specs.Escapes.{hex_four}
use Rattle.js_lexer.specs.Names.{spelled, name_goes, more_name, name, name_or, escaped_name}
use Rattle.js_lexer.specs.Numbers.{numeral, digits_go, more_digits, hex_goes, more_hex, digits_fault, decimal, hex_fault, hex, numeral_of, number}
use Rattle.js_lexer.specs.Texts.{text_goes, text_piece, text}
use Rattle.js_lexer.specs.Punctuators.{mark, mark_goes, more_mark, punct_of, longest}
use Rattle.js_lexer.specs.Source.{slash, dot, punctuator, token, begun, element, Lexed, lexed, as_token, goes, put, piece, last, source}
use Rattle.js_lexer.specs.Tokens.{AreTokens, IsNumeral, report}

-- ---- what each token may begin

abbrev any : Char → Type 0
any t = Unit {0}

-- Each value of the rule has the property, whatever it begins at.
abbrev Each : {A : Type 0} → R A → (A → Type 0) → Type 0
Each g P = (t : Char) → Gives any g t (λ v _. P v)

of_cond : {A : Type 0} (b : Bool) (g h : R A) (P : A → Type 0) → Each g P → Each h P → Each (cond b g h) P
of_cond b g h P d e = λ t. cond_gives any b g h t (λ v _. P v) (d t) (e t)

-- ---- numbers

abbrev IsSmall : Numeral → Type 0
IsSmall s = s.value ≤ greatest_number

digits_small : (at : ℕ) (s : Numeral) (t : Char) → digits_fault at s t ≡ None → IsSmall s
digits_small at s t h = grind (arith, nat_tests)

hex_is_small : (at : ℕ) (s : Numeral) (t : Char) → hex_fault at s t ≡ None → IsSmall s
hex_is_small at s t h = grind (arith, nat_tests)

decimal_small : (at : ℕ) (leads_zero : Bool) (start : Numeral) → Each (decimal at leads_zero start) IsSmall
unfolding decimal
decimal_small at leads_zero start = λ t. gives_each any (again digits_go (more_digits leads_zero) start) t _
    (λ s u. (λ _ _ r. (λ _ _ _. tt, λ _. tt), λ _. barred_gives any (digits_fault at s) (done s) u (λ v _. IsSmall v) (digits_small at s u)))

hex_small : (at : ℕ) → Each (hex at) IsSmall
unfolding hex
hex_small at = λ t. gives_each any (need (of is_hex) (λ _. BadNumber at)) t _
    (λ d u. gives_each any (again hex_goes more_hex (numeral (digit_value d.code) false d.past)) u _
    (λ s r. barred_gives any (hex_fault at s) (done s) r (λ v _. IsSmall v) (hex_is_small at s r)))

numeral_small : (t : Char) → Each (numeral_of t) IsSmall
numeral_small t = of_cond (is 0x30 t.code) (choice (of (is 0x78)) (hex t.at) (decimal t.at true (numeral 0 false t.past))) (decimal t.at false (numeral (digit_value t.code) false t.past)) IsSmall
    (λ u. (λ _ _ r. hex_small t.at r, λ _. decimal_small t.at true _ u))
    (decimal_small t.at false _)

-- ---- tokens

abbrev OfLexeme : Lexeme → Type 0
OfLexeme x = IsNumeral x.kind

small_numeral : (n : ℕ) → n ≤ greatest_number → IsNumeral (k.Num (pos n))
small_numeral n h = (omega (arith, ints), record { least = omega (arith, ints); greatest = omega (arith, ints) })

number_gives : (t : Char) → Each (number t) OfLexeme
number_gives t = λ u. gives_more any (numeral_of t) u (λ s _. IsSmall s) _ (λ s _ h. small_numeral s.value h) (numeral_small t u)

name_is : (units : List ℕ) (o : Option Word) → IsNumeral (name_or units o)
name_is units None = tt
name_is units (Some word) = tt

name_gives : (t : Char) → Each (name t) OfLexeme
unfolding name
name_gives t = λ u. gives_each any (again name_goes more_name (spelled (encode_utf16 t.code) t.past)) u _ (λ s _. name_is s.units _)

escaped_name_gives : (back : ℕ) → Each (escaped_name back) OfLexeme
unfolding escaped_name
escaped_name_gives back = λ u. gives_each any (must (of (is 0x75)) (λ _. BadChar back)) u _ (λ _ r. gives_each any (hex_four back) r _ (λ _ _. tt))

text_gives : (at quote : ℕ) → Each (text at quote) OfLexeme
unfolding text
text_gives at quote = λ u. gives_each any (again (text_goes quote) (text_piece at quote) []) u _ (λ units r. gives_each any (need (of (is quote)) (λ _. UnclosedText at)) r _ (λ _ _. tt))

longest_gives : (q : Punct) (at past : ℕ) → Each (longest q at past) OfLexeme
unfolding longest
longest_gives q at past = λ u. gives_each any (again mark_goes more_mark (mark q past)) u _ (λ _ _. tt)

punctuator_gives : (t : Char) (o : Option Punct) → Each (punctuator t o) OfLexeme
punctuator_gives t None = λ _. tt
punctuator_gives t (Some q) = longest_gives q t.at t.past

dot_gives : (t : Char) → Each (dot t) OfLexeme
dot_gives t = λ _. (tt, λ _. tt)

token_gives : (t : Char) → Each (token t) OfLexeme
unfolding token
token_gives t =
    let escaped_or = cond (is 0x5C t.code) (escaped_name t.at) (punctuator t (punct_of (t.code ∷ []))) in
    let dot_or = cond (is 0x2E t.code) (dot t) escaped_or in
    let text_or = cond (is_quote t.code) (text t.at t.code) dot_or in
    of_cond (starts_name t.code) (name t) (cond (is_digit t.code) (number t) text_or) OfLexeme (name_gives t)
    (of_cond (is_digit t.code) (number t) text_or OfLexeme (number_gives t)
    (of_cond (is_quote t.code) (text t.at t.code) dot_or OfLexeme (text_gives t.at t.code)
    (of_cond (is 0x2E t.code) (dot t) escaped_or OfLexeme (dot_gives t)
    (of_cond (is 0x5C t.code) (escaped_name t.at) (punctuator t (punct_of (t.code ∷ []))) OfLexeme (escaped_name_gives t.at) (punctuator_gives t (punct_of (t.code ∷ [])))))))

-- ---- input elements

abbrev OfElement : Element → Type 0
OfElement e.White = Unit {0}
OfElement e.Newline = Unit {0}
OfElement (e.Lexeme x) = OfLexeme x

comment_is : (b : Bool) → OfElement (cond b e.Newline e.White)
comment_is true = tt
comment_is false = tt

block_gives : (at : ℕ) → Each (block_comment at) OfElement
unfolding block_comment
block_gives at = λ u. gives_each any (again block_goes block_char (inside false false)) u _ (λ s r. gives_each any (must (of (is 0x2F)) (λ _. UnclosedComment at)) r _ (λ _ _. comment_is s.newline))

slash_gives : (t : Char) → Each (slash t) OfElement
slash_gives t = λ u. (λ _ _ r. gives_each any line_comment r _ (λ _ _. tt), λ _. (λ _ _ r. block_gives t.at r, λ _. longest_gives p.Slash t.at t.past u))

begun_gives : (t : Char) → Each (begun t) OfElement
unfolding begun
begun_gives t =
    let slash_or = cond (is 0x2F t.code) (slash t) (as_token (token t)) in
    let newline_or = cond (is_terminator t.code) (done e.Newline) slash_or in
    of_cond (is_white t.code) (done e.White) newline_or OfElement (λ _. tt)
    (of_cond (is_terminator t.code) (done e.Newline) slash_or OfElement (λ _. tt)
    (of_cond (is 0x2F t.code) (slash t) (as_token (token t)) OfElement (slash_gives t) (token_gives t)))

element_gives : Each element OfElement
unfolding element
element_gives = λ t. (λ _ _ u. begun_gives t u, tt)

-- ---- the whole

abbrev OfTokens : List Token → Type 0
OfTokens tokens = All (λ (t : Token). IsNumeral t.kind) tokens

put_is : (s : Lexed) (x : Element) → OfTokens s.tokens → OfElement x → OfTokens (put s x).tokens
put_is s e.White all one = all
put_is s e.Newline all one = all
put_is s (e.Lexeme x) all one = All-push (λ (t : Token). IsNumeral t.kind) s.tokens _ all one

piece_gives : (s : Lexed) → OfTokens s.tokens → Each (piece s) (λ (v : Lexed). OfTokens v.tokens)
piece_gives s all = λ u. gives_more any element u (λ x _. OfElement x) _ (λ x _ one. put_is s x all one) (element_gives u)

source_gives : Each source OfTokens
unfolding source
source_gives = λ t. kept any goes piece (lexed [] false) t _ (λ (s : Lexed). OfTokens s.tokens) (All-nil (λ (t : Token). IsNumeral t.kind))
    (λ s u all. piece_gives s all u)
    (λ s u all. gives_each any last u _ (λ _ _. all))

-- Each number among the tokens of a script is from 0 to 2^53 - 1.
pub numerals : (cs : List ℕ) (tokens : List Token) → AreTokens cs tokens → OfTokens tokens
numerals cs tokens are = gives any source (placed 0 cs) tokens stop (λ v _. OfTokens v) (λ _ _ _. tt) are (source_gives _)

pub numerals_given : (cs : List ℕ) (Shows : LexFault → Type 0) (res : Result (Vec Token Global) LexFault) → Says (AreTokens cs) Shows (report res) → IfOk res (λ tokens. OfTokens tokens.items)
numerals_given cs Shows (Ok tokens) are = numerals cs tokens.items are
numerals_given cs Shows (Err fault) are = tt
