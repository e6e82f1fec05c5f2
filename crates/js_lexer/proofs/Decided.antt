-- One character decides in the rules of tokens.
use Rattle.std.proofs.Common.{◌≡◌, ℕ, Bool, true, false, cond, inl, List, [], ◌∷◌, Option, Some, None, refl}
use Rattle.std.specs.Prelude.{◌||◌, ◌&&◌, not}
use Rattle.std.specs.Char.{digit_value}
use Rattle.grammar.specs.Reading.{is_some, may, Decided}
use Rattle.grammar.specs.Words.{choice}
use Rattle.grammar.proofs.Words.{unless, turned, first_false, need_decided, must_decided, barred_decided, cond_decided}
use Rattle.placed_chars.specs.declared.chars.Char.{Char}
use Rattle.placed_chars.specs.Chars.{stop, is_end}
use Rattle.js_lexer.specs.declared.fault.LexFault.{LexFault}
use Rattle.js_lexer.specs.declared.fault.LexFault.TheVariants.{BadChar}
use Rattle.js_lexer.specs.declared.token.Punct.{Punct}
use Rattle.js_lexer.specs.declared.token.Punct.TheVariants as p
use Rattle.js_lexer.specs.declared.numbers.Numeral.{Numeral}
use Rattle.js_lexer.specs.Chars.{of, is, is_white, is_terminator, starts_name, is_digit, is_quote}
use Rattle.js_lexer.specs.Blanks.{line_comment, block_comment}
use Rattle.js_lexer.specs.Escapes.{hex_two, hex_four}
use Rattle.js_lexer.specs.Names.{name, escaped_name}
use Rattle.js_lexer.specs.Numbers.{numeral, decimal, hex, numeral_of}
use Rattle.js_lexer.specs.Texts.{escaped, escape, in_text, text_piece, text}
use Rattle.js_lexer.specs.Punctuators.{punct_of, longest}
use Rattle.js_lexer.specs.Source.{slash, punctuator, token, begun, element, Lexed, piece, source}

-- ---- comments

pub line_decided : Decided stop line_comment
unfolding line_comment
line_decided = (λ _. refl, λ y t h. h, λ y. inl tt, λ y. (refl, λ _. tt))

pub block_decided : (at : ℕ) → Decided stop (block_comment at)
unfolding block_comment
block_decided at = ((λ _. refl, λ y t h. h, λ y. inl tt, λ y. (refl, λ _. tt)), λ _. (must_decided stop _ _ refl, λ _. tt))

-- ---- names

hex_two_decided : (back : ℕ) → Decided stop (hex_two back)
hex_two_decided back = ((need_decided stop _ _ refl, λ _. tt), λ _. (need_decided stop _ _ refl, λ _. tt))

hex_four_decided : (back : ℕ) → Decided stop (hex_four back)
hex_four_decided back = ((need_decided stop _ _ refl, λ _. tt), λ _. ((need_decided stop _ _ refl, λ _. tt), λ _. ((need_decided stop _ _ refl, λ _. tt), λ _. (need_decided stop _ _ refl, λ _. tt))))

pub name_decided : (t : Char) → Decided stop (name t)
unfolding name
name_decided t = ((λ _. refl, λ y t h. h, λ y. inl tt, λ y. (refl, λ _. tt)), λ _. tt)

pub escaped_name_decided : (back : ℕ) → Decided stop (escaped_name back)
unfolding escaped_name
escaped_name_decided back = ((must_decided stop _ _ refl, λ _. hex_four_decided back), λ _. tt)

-- ---- numbers

pub decimal_decided : (at : ℕ) (leads_zero : Bool) (start : Numeral) → Decided stop (decimal at leads_zero start)
unfolding decimal
decimal_decided at leads_zero start =
    ((λ _. refl, λ y t h. h, λ y. inl tt, λ y. (refl, λ _. tt)), λ s. (λ t k. turned _ k, (refl, λ _. (λ t k. turned _ k, (refl, λ _. tt), (tt, λ _. tt))), (tt, λ _. (barred_decided stop _, λ _. tt))))

pub hex_decided : (at : ℕ) → Decided stop (hex at)
unfolding hex
hex_decided at = (need_decided stop _ _ refl, λ t. ((λ _. refl, λ y t h. h, λ y. inl tt, λ y. (refl, λ _. tt)), λ s. (barred_decided stop _, λ _. tt)))

numeral_decided : (t : Char) → Decided stop (numeral_of t)
numeral_decided t = go (is 0x30 t.code)
  where
    go : (b : Bool) → Decided stop (cond b (choice (of (is 0x78)) (hex t.at) (decimal t.at true (numeral 0 false t.past))) (decimal t.at false (numeral (digit_value t.code) false t.past)))
    go true = (λ t k. turned _ k, (refl, λ _. hex_decided t.at), (tt, λ _. decimal_decided t.at true _))
    go false = decimal_decided t.at false _

-- ---- texts

escaped_decided : (back : ℕ) (units : List ℕ) (c : ℕ) → Decided stop (escaped back units c)
escaped_decided back units c =
    cond_decided stop (is 0x30 c) _ _ (barred_decided stop _, λ _. tt)
    (cond_decided stop (is 0x78 c) _ _ (hex_two_decided back, λ _. tt)
    (cond_decided stop (is 0x75 c) _ _ (hex_four_decided back, λ _. tt)
    (cond_decided stop (is 0x0D c) _ _ (λ t k. turned _ k, (refl, λ _. tt), (tt, λ _. tt))
    (cond_decided stop (is_terminator c) _ _ tt tt))))

escape_decided : (at back : ℕ) (units : List ℕ) → Decided stop (escape at back units)
unfolding escape
escape_decided at back units = ((λ t h. unless _ _ h, refl, tt), λ t. escaped_decided back units t.code)

-- A character that is an escape's backslash is none that stands for itself.
one_of_two : (v w a : Bool) → (v && (w && not a)) ≡ true → (v && (w && a)) ≡ false
one_of_two true true true h = cc
one_of_two true true false h = refl
one_of_two true false a h = cc
one_of_two false w a h = cc

pub either_way : (v w a : Bool) → ((v && (w && a)) || (v && (w && not a))) ≡ true → (v && w) ≡ true
either_way true true a h = refl
either_way true false a h = cc
either_way false w a h = cc

pub text_piece_decided : (at quote : ℕ) (units : List ℕ) → Decided stop (text_piece at quote units)
text_piece_decided at quote units = (λ t h. one_of_two (not (is_end t.code)) (in_text quote t.code) (is 0x5C t.code) h, (refl, λ t. escape_decided at t.at units), (refl, λ _. tt))

pub text_decided : (at quote : ℕ) → Decided stop (text at quote)
unfolding text
text_decided at quote = ((λ _. refl, λ y t h. either_way (not (is_end t.code)) (in_text quote t.code) (is 0x5C t.code) h, λ y. (inl tt, inl tt), λ y. text_piece_decided at quote y), λ _. (need_decided stop _ _ refl, λ _. tt))

-- ---- punctuators

pub longest_decided : (q : Punct) (at past : ℕ) → Decided stop (longest q at past)
unfolding longest
longest_decided q at past = ((λ _. refl, λ y t h. h, λ y. inl tt, λ y. (refl, λ _. tt)), λ _. tt)

punctuator_decided : (t : Char) (o : Option Punct) → Decided stop (punctuator t o)
punctuator_decided t None = tt
punctuator_decided t (Some q) = longest_decided q t.at t.past

-- ---- input elements

slash_decided : (t : Char) → Decided stop (slash t)
slash_decided t =
    (λ t k. turned _ k, (refl, λ _. (line_decided, λ _. tt)), (tt, λ _. (λ t k. turned _ k, (refl, λ _. block_decided t.at), (tt, λ _. (longest_decided p.Slash t.at t.past, λ _. tt)))))

token_decided : (t : Char) → Decided stop (token t)
unfolding token
token_decided t =
    cond_decided stop (starts_name t.code) _ _ (name_decided t)
    (cond_decided stop (is_digit t.code) _ _ (numeral_decided t, λ _. tt)
    (cond_decided stop (is_quote t.code) _ _ (text_decided t.at t.code)
    (cond_decided stop (is 0x2E t.code) _ _ (barred_decided stop _, λ _. tt)
    (cond_decided stop (is 0x5C t.code) _ _ (escaped_name_decided t.at) (punctuator_decided t (punct_of (t.code ∷ [])))))))

begun_decided : (t : Char) → Decided stop (begun t)
unfolding begun
begun_decided t =
    cond_decided stop (is_white t.code) _ _ tt
    (cond_decided stop (is_terminator t.code) _ _ tt
    (cond_decided stop (is 0x2F t.code) _ _ (slash_decided t) (token_decided t, λ _. tt)))

pub element_decided : Decided stop element
unfolding element
element_decided = ((λ t h. first_false _ _ (unless _ _ h), refl, tt), λ t. begun_decided t)

-- ---- the whole

-- No input element begins at the end.
begins : (e x : Bool) (f : LexFault) → ((not e && x) || is_some (cond ((not e && x) || e) None (Some f))) ≡ true → not e ≡ true
begins true true f h = cc
begins true false f h = cc
begins false x f h = refl

pub element_begins : (t : Char) → may element t ≡ true → not (is_end t.code) ≡ true
unfolding element
element_begins t h = begins _ _ (BadChar t.at) h

pub piece_decided : (s : Lexed) → Decided stop (piece s)
piece_decided s = (element_decided, λ _. tt)

pub source_decided : Decided stop source
unfolding source element
source_decided = ((λ _. refl, λ y t h. begins _ _ (BadChar t.at) h, λ y. inl (inl (tt, tt)), piece_decided), λ _. (must_decided stop _ _ refl, λ _. tt))
