-- What may come next in a script: a token, or the end.
use Rattle.std.specs.Prelude.{ℕ, Bool, true, false, not, ◌||◌, List, [], Option, Some, None, bytes_eq, codes}
use Rattle.js_lexer.specs.declared.token.Kind.{Kind}
use Rattle.js_lexer.specs.declared.token.Punct.{Punct}
use Rattle.js_lexer.specs.declared.token.Word.{Word}
use Rattle.js_lexer.specs.declared.token.Token.{Token}
use Rattle.page_units.specs.Digits.{digits}
use Rattle.js_lexer.specs.declared.token.Kind.TheVariants as k
use Rattle.js_lexer.specs.declared.token.Punct.TheVariants as p
use Rattle.js_lexer.specs.declared.token.Word.TheVariants as w
use Rattle.js_lexer.specs.Punctuators as puncts
use Rattle.js_lexer.specs.Words as words

-- a token, or None at the end of the script
abbrev pub Next : Type 0
Next = Option Token

-- a token whose kind is of a class
abbrev pub of : (Kind → Bool) → Next → Bool
of class None = false
of class (Some t) = class t.kind

abbrev pub is_there : Next → Bool
is_there None = false
is_there (Some t) = true

-- the offset of its first byte
abbrev pub place : Next → ℕ
place None = 0
place (Some t) = t.at

-- A line terminator stands before it.
abbrev pub is_on_new_line : Next → Bool
is_on_new_line None = false
is_on_new_line (Some t) = t.newline

-- ---- punctuators and reserved words

-- They are spelled alike, and so are one.
unfoldable pub same_sign : Punct → Punct → Bool
same_sign a b = bytes_eq (puncts.spelling a) (puncts.spelling b)

unfoldable pub same_word : Word → Word → Bool
same_word a b = bytes_eq (words.spelling a) (words.spelling b)

abbrev pub is_punct : Punct → Kind → Bool
is_punct sign (k.Punct q) = same_sign q sign
is_punct sign _ = false

abbrev pub is_word : Word → Kind → Bool
is_word word (k.Word v) = same_word v word
is_word word _ = false

-- It is this punctuator.
unfoldable pub shows : Punct → Next → Bool
shows sign t = of (is_punct sign) t

-- It is this reserved word.
unfoldable pub says : Word → Next → Bool
says word t = of (is_word word) t

-- ---- names, keys and numbers

-- `eval` and `arguments` are left out as names (ECMA-262 5.1, 13.1 and 12.2.1 restrict them in strict code; that they are
-- left out altogether is this project's own).
abbrev pub is_left_out : List ℕ → Bool
is_left_out name = bytes_eq name (codes "eval") || bytes_eq name (codes "arguments")

abbrev pub is_identifier : Kind → Bool
is_identifier (k.Name n) = true
is_identifier _ = false

abbrev pub is_left_out_name : Kind → Bool
is_left_out_name (k.Name n) = is_left_out n
is_left_out_name _ = false

abbrev pub is_name : Kind → Bool
is_name (k.Name n) = not (is_left_out n)
is_name _ = false

-- IdentifierName (11.2): a name or a reserved word
abbrev pub is_word_or_name : Kind → Bool
is_word_or_name (k.Name n) = true
is_word_or_name (k.Word v) = true
is_word_or_name _ = false

-- PropertyName (11.1.5)
abbrev pub is_key : Kind → Bool
is_key (k.Name n) = true
is_key (k.Word v) = true
is_key (k.Str s) = true
is_key (k.Num z) = true
is_key (k.Punct q) = false

-- `get` or `set`, which begins an accessor before another key (11.1.5)
abbrev pub is_accessor : Kind → Bool
is_accessor (k.Name n) = bytes_eq n (codes "get") || bytes_eq n (codes "set")
is_accessor _ = false

-- the text that a name, a word, a text or a number has as a property's key (11.1.5)
abbrev pub kind_text : Kind → List ℕ
kind_text (k.Name n) = n
kind_text (k.Word v) = words.spelling v
kind_text (k.Str s) = s
kind_text (k.Num z) = digits z
kind_text (k.Punct q) = []

abbrev pub text : Next → List ℕ
text None = []
text (Some t) = kind_text t.kind

-- `with` and `debugger` are left out (this project's own).
abbrev pub is_left_out_word : Kind → Bool
is_left_out_word (k.Word w.With) = true
is_left_out_word (k.Word w.Debugger) = true
is_left_out_word _ = false

-- A `/` or `/=` where an operand must begin would begin a regular expression, which is left out.
abbrev pub is_slash : Kind → Bool
is_slash (k.Punct p.Slash) = true
is_slash (k.Punct p.SlashAssign) = true
is_slash _ = false
