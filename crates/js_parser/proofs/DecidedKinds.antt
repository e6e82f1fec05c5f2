-- Classes of tokens that never meet.
use Rattle.std.proofs.Common.{◌≡◌, Bool, true, false, Some, None, refl, sym, ap, ◌∙◌}
use Rattle.std.specs.Prelude.{◌||◌, ◌&&◌, not}
use Rattle.std.proofs.lemmas.Slice.Eq.{bytes_eq-Decides}
use Rattle.js_lexer.specs.declared.token.Kind.{Kind}
use Rattle.js_lexer.specs.declared.token.Kind.TheVariants as k
use Rattle.js_lexer.specs.declared.token.Punct.{Punct}
use Rattle.js_lexer.specs.declared.token.Punct.TheVariants as p
use Rattle.js_lexer.specs.declared.token.Word.{Word}
use Rattle.js_lexer.specs.declared.token.Word.TheVariants as w
use Rattle.js_lexer.specs.declared.token.Token.{Token}
use Rattle.js_lexer.specs.Punctuators as puncts
use Rattle.js_lexer.specs.Words as words
use Rattle.js_nodes.specs.declared.context.Inside.{Inside}
use Rattle.js_nodes.specs.Next.{Next, of, is_there, same_sign, same_word, is_punct, is_word, shows, says, is_left_out, is_left_out_name, is_slash}
use Rattle.js_nodes.specs.Operators.{is_prefix}
use Rattle.js_nodes.specs.Classes.{begins_primary}
use Rattle.js_cursor.specs.Questions.{in_block}
use Rattle.js_cursor.specs.Questions.{begins_operand}
use Rattle.js_cursor.specs.Questions.{begins_statement, in_case, is_case}
use Rattle.js_nodes.specs.Classes.{requires_part, opens_kind, opens}
use Rattle.js_cursor.proofs.Signs.{sign_spelled, word_spelled}

-- Where the one bars the other, the other bars the one.
pub contrary : (a b : Bool) → (a ≡ true → b ≡ false) → b ≡ true → a ≡ false
contrary true b h e = let c = sym e ∙ h refl in cc
contrary false b h e = refl

-- What isn't so is otherwise.
pub unlike : (a : Bool) → a ≡ false → not a ≡ true
unlike true h = cc
unlike false h = refl

-- What holds each for itself holds together.
pub together : (a b : Bool) → a ≡ true → b ≡ true → (a && b) ≡ true
together true b h e = e
together false b h e = cc

-- ---- what a token is that shows a punctuator or says a word

-- Signs that are spelled alike are one.
pub sign_same : (q sign : Punct) → same_sign q sign ≡ true → q ≡ sign
unfolding same_sign
sign_same q sign e = sign_spelled q sign ((bytes_eq-Decides (puncts.spelling q) (puncts.spelling sign)).0 e)

-- Words that are spelled alike are one.
pub word_same : (v word : Word) → same_word v word ≡ true → v ≡ word
unfolding same_word
word_same v word e = word_spelled v word ((bytes_eq-Decides (words.spelling v) (words.spelling word)).0 e)

punct_kind : (sign : Punct) (kind : Kind) → is_punct sign kind ≡ true → kind ≡ k.Punct sign
punct_kind sign (k.Punct q) h = ap (λ (x : Punct). k.Punct x) (sign_same q sign h)
punct_kind sign _ h = cc

word_kind : (word : Word) (kind : Kind) → is_word word kind ≡ true → kind ≡ k.Word word
word_kind word (k.Word v) h = ap (λ (x : Word). k.Word x) (word_same v word h)
word_kind word _ h = cc

-- A token that shows a punctuator is there and is of that kind.
pub shown : (sign : Punct) (t : Next) → shows sign t ≡ true → (u : Token) × (t ≡ Some u) × (u.kind ≡ k.Punct sign)
unfolding shows
shown sign None h = cc
shown sign (Some u) h = (u, refl, punct_kind sign u.kind h)

-- A token that says a reserved word is there and is of that kind.
pub said : (word : Word) (t : Next) → says word t ≡ true → (u : Token) × (t ≡ Some u) × (u.kind ≡ k.Word word)
unfolding says
said word None h = cc
said word (Some u) h = (u, refl, word_kind word u.kind h)

-- Whether a punctuator's token is of a class of kinds.
pub at_sign : (class : Kind → Bool) (sign : Punct) (t : Next) → shows sign t ≡ true → of class t ≡ class (k.Punct sign)
at_sign class sign t h = let (u, e, e') = shown sign t h in ap (λ (x : Next). of class x) e ∙ ap class e'

-- Whether a reserved word's token is of a class of kinds.
pub at_word : (class : Kind → Bool) (word : Word) (t : Next) → says word t ≡ true → of class t ≡ class (k.Word word)
at_word class word t h = let (u, e, e') = said word t h in ap (λ (x : Next). of class x) e ∙ ap class e'

-- ---- two punctuators and words

-- No token shows two punctuators.
pub signs_apart : (a b : Punct) (t : Next) → same_sign a b ≡ false → shows a t ≡ true → shows b t ≡ false
unfolding shows
signs_apart a b t e h = at_sign (is_punct b) a t h ∙ e

-- No token says two reserved words.
pub words_apart : (a b : Word) (t : Next) → same_word a b ≡ false → says a t ≡ true → says b t ≡ false
unfolding says
words_apart a b t e h = at_word (is_word b) a t h ∙ e

-- No reserved word is a punctuator.
pub word_no_sign : (a : Word) (b : Punct) (t : Next) → says a t ≡ true → shows b t ≡ false
unfolding shows
word_no_sign a b t h = at_word (is_punct b) a t h

-- No punctuator is a reserved word.
pub sign_no_word : (a : Punct) (b : Word) (t : Next) → shows a t ≡ true → says b t ≡ false
unfolding says
sign_no_word a b t h = at_sign (is_word b) a t h

-- What begins neither of the other heads of a `for` is no `;`.
pub var_no_semicolon : (t : Next) → (says w.Var t || not (shows p.Semicolon t || says w.Var t)) ≡ true → shows p.Semicolon t ≡ false
var_no_semicolon t h = go (shows p.Semicolon t) (says w.Var t) (word_no_sign w.Var p.Semicolon t) h
  where
    go : (a b : Bool) → (b ≡ true → a ≡ false) → (b || not (a || b)) ≡ true → a ≡ false
    go true true k h = k refl
    go true false k h = cc
    go false b k h = refl

-- `finally` is no `catch`.
pub finally_no_catch : (t : Next) → says w.Finally t ≡ true → says w.Catch t ≡ false
unfolding same_word
finally_no_catch t h = words_apart w.Finally w.Catch t refl h

-- `default` is no `case`.
pub default_no_case : (t : Next) → says w.Default t ≡ true → says w.Case t ≡ false
unfolding same_word
default_no_case t h = words_apart w.Default w.Case t refl h

-- ---- operands

-- A primary expression begins so, or what is left out where one must begin.
abbrev pub primary_begins : Next → Bool
primary_begins t = (of is_left_out_name t || of is_slash t) || of begins_primary t

-- the same for a left-hand-side expression
abbrev pub left_begins : Next → Bool
left_begins t = says w.New t || primary_begins t

-- the same for an operand
abbrev pub operand_begins : Next → Bool
operand_begins t = (of is_left_out_name t || of is_slash t) || begins_operand t

primary_kind : Kind → Bool
primary_kind kind = (is_left_out_name kind || is_slash kind) || begins_primary kind

primary_no_new : (kind : Kind) → primary_kind kind ≡ true → is_word w.New kind ≡ false
unfolding primary_kind same_word
primary_no_new (k.Word w.New) h = cc
primary_no_new (k.Word v) h = refl
primary_no_new _ h = refl

-- No primary expression begins with `new`.
pub primary_not_new : (t : Next) → primary_begins t ≡ true → says w.New t ≡ false
unfolding says primary_kind
primary_not_new None h = refl
primary_not_new (Some t) h = primary_no_new t.kind h

left_kind : Kind → Bool
unfolding primary_kind
left_kind kind = is_word w.New kind || primary_kind kind

left_no_prefix : (kind : Kind) → left_kind kind ≡ true → is_prefix kind ≡ false
unfolding left_kind primary_kind same_word is_prefix
left_no_prefix (k.Word w.Delete) h = cc
left_no_prefix (k.Word w.Void) h = cc
left_no_prefix (k.Word w.Typeof) h = cc
left_no_prefix (k.Word v) h = refl
left_no_prefix (k.Punct p.Increment) h = cc
left_no_prefix (k.Punct p.Decrement) h = cc
left_no_prefix (k.Punct p.Plus) h = cc
left_no_prefix (k.Punct p.Minus) h = cc
left_no_prefix (k.Punct p.BitNot) h = cc
left_no_prefix (k.Punct p.Not) h = cc
left_no_prefix (k.Punct q) h = refl
left_no_prefix _ h = refl

-- No left-hand-side expression begins with a prefix operator.
pub left_not_prefix : (t : Next) → left_begins t ≡ true → of is_prefix t ≡ false
unfolding says left_kind primary_kind
left_not_prefix None h = refl
left_not_prefix (Some t) h = left_no_prefix t.kind h

-- An operand begins with a prefix operator or as a left-hand-side expression.
pub prefix_or_left : (t : Next) → (of is_prefix t || left_begins t) ≡ operand_begins t
prefix_or_left t = go (of is_prefix t) (says w.New t) (of is_left_out_name t || of is_slash t) (of begins_primary t)
  where
    go : (a b c d : Bool) → (a || (b || (c || d))) ≡ (c || (d || (b || a)))
    go true true true d = refl
    go true true false true = refl
    go true true false false = refl
    go true false true d = refl
    go true false false true = refl
    go true false false false = refl
    go false true true d = refl
    go false true false true = refl
    go false true false false = refl
    go false false true d = refl
    go false false false true = refl
    go false false false false = refl

-- ---- statements

-- A statement begins so, or what is left out where one must begin.
abbrev pub statement_begins : Inside → Next → Bool
statement_begins inside t = opens inside t || begins_statement t

-- the same for a source element
abbrev pub source_begins : Inside → Next → Bool
source_begins inside t = says w.Function t || statement_begins inside t

other_kind : Kind → Bool
other_kind kind = ((begins_primary kind || (is_word w.New kind || is_prefix kind)) || (is_left_out_name kind || is_slash kind)) && not (is_punct p.LeftBrace kind || is_word w.Function kind)

other_so : (t : Next) → begins_statement t ≡ of other_kind t
unfolding other_kind shows says
other_so None = refl
other_so (Some t) = refl

other_no_opening : (inside : Inside) (kind : Kind) → other_kind kind ≡ true → opens_kind inside kind ≡ false
unfolding other_kind same_sign same_word is_prefix
other_no_opening inside (k.Punct p.LeftBrace) h = cc
other_no_opening inside (k.Punct p.Semicolon) h = cc
other_no_opening inside (k.Punct q) h = refl
other_no_opening inside (k.Word w.Var) h = cc
other_no_opening inside (k.Word w.If) h = cc
other_no_opening inside (k.Word w.Do) h = cc
other_no_opening inside (k.Word w.While) h = cc
other_no_opening inside (k.Word w.For) h = cc
other_no_opening inside (k.Word w.Continue) h = cc
other_no_opening inside (k.Word w.Break) h = cc
other_no_opening inside (k.Word w.Return) h = cc
other_no_opening inside (k.Word w.Throw) h = cc
other_no_opening inside (k.Word w.Switch) h = cc
other_no_opening inside (k.Word w.Try) h = cc
other_no_opening inside (k.Word v) h = refl
other_no_opening inside _ h = refl

-- A statement that its first token tells begins as no expression statement does.
pub other_not_opening : (inside : Inside) (t : Next) → begins_statement t ≡ true → opens inside t ≡ false
unfolding opens
other_not_opening inside None h = refl
other_not_opening inside (Some t) h = other_no_opening inside t.kind (sym (other_so (Some t)) ∙ h)

part_opens_kind : (inside : Inside) (kind : Kind) → requires_part kind ≡ true → opens_kind inside kind ≡ true
part_opens_kind inside (k.Word w.If) h = refl
part_opens_kind inside (k.Word w.Do) h = refl
part_opens_kind inside (k.Word w.While) h = refl
part_opens_kind inside (k.Word w.For) h = refl
part_opens_kind inside (k.Word w.Throw) h = refl
part_opens_kind inside (k.Word w.Switch) h = refl
part_opens_kind inside _ h = cc

-- Each statement that requires a node one level deeper is one that its first token tells.
pub part_opens : (inside : Inside) (t : Next) → of requires_part t ≡ true → opens inside t ≡ true
unfolding opens
part_opens inside None h = cc
part_opens inside (Some t) h = part_opens_kind inside t.kind h

left_out_other : (kind : Kind) → (is_left_out_name kind || is_slash kind) ≡ true → other_kind kind ≡ true
unfolding other_kind same_sign same_word is_prefix
left_out_other (k.Name n) h = go (is_left_out n) h
  where
    go : (b : Bool) → (b || false) ≡ true → (((not b || false) || (b || false)) && true) ≡ true
    go true h = refl
    go false h = cc
left_out_other (k.Punct p.Slash) h = refl
left_out_other (k.Punct p.SlashAssign) h = refl
left_out_other _ h = cc

-- What is left out where an operand must begin begins as an expression statement does.
pub left_out_begins : (t : Next) → (of is_left_out_name t || of is_slash t) ≡ true → begins_statement t ≡ true
left_out_begins None h = cc
left_out_begins (Some t) h = other_so (Some t) ∙ left_out_other t.kind h

-- ---- where no statement begins

statement_kind : Inside → Kind → Bool
unfolding other_kind
statement_kind inside kind = opens_kind inside kind || other_kind kind

statement_so : (inside : Inside) (t : Next) → statement_begins inside t ≡ of (statement_kind inside) t
unfolding statement_kind other_kind opens shows says
statement_so inside None = refl
statement_so inside (Some t) = refl

no_statement_sign : (inside : Inside) (sign : Punct) (t : Next) → statement_kind inside (k.Punct sign) ≡ false → statement_begins inside t ≡ true → shows sign t ≡ false
no_statement_sign inside sign t e h = contrary (shows sign t) (statement_begins inside t) (λ s. statement_so inside t ∙ (at_sign (statement_kind inside) sign t s ∙ e)) h

no_statement_word : (inside : Inside) (word : Word) (t : Next) → statement_kind inside (k.Word word) ≡ false → statement_begins inside t ≡ true → says word t ≡ false
no_statement_word inside word t e h = contrary (says word t) (statement_begins inside t) (λ s. statement_so inside t ∙ (at_word (statement_kind inside) word t s ∙ e)) h

-- No statement begins with `}`.
pub statement_no_brace : (inside : Inside) (t : Next) → statement_begins inside t ≡ true → shows p.RightBrace t ≡ false
unfolding statement_kind other_kind same_sign same_word is_prefix
statement_no_brace inside t h = no_statement_sign inside p.RightBrace t refl h

-- No statement begins with `function`.
pub statement_no_function : (inside : Inside) (t : Next) → statement_begins inside t ≡ true → says w.Function t ≡ false
unfolding statement_kind other_kind same_sign same_word is_prefix
statement_no_function inside t h = no_statement_word inside w.Function t refl h

-- No statement begins with `case`.
pub statement_no_case : (inside : Inside) (t : Next) → statement_begins inside t ≡ true → says w.Case t ≡ false
unfolding statement_kind other_kind same_sign same_word is_prefix
statement_no_case inside t h = no_statement_word inside w.Case t refl h

-- No statement begins with `default`.
pub statement_no_default : (inside : Inside) (t : Next) → statement_begins inside t ≡ true → says w.Default t ≡ false
unfolding statement_kind other_kind same_sign same_word is_prefix
statement_no_default inside t h = no_statement_word inside w.Default t refl h

-- No statement begins at the end.
pub statement_there : (inside : Inside) (t : Next) → statement_begins inside t ≡ true → is_there t ≡ true
statement_there inside None h = let c = sym (statement_so inside None) ∙ h in cc
statement_there inside (Some t) h = refl

-- What begins a statement doesn't end a block.
pub statement_in_block : (inside : Inside) (t : Next) → statement_begins inside t ≡ true → in_block t ≡ true
statement_in_block inside t h = together _ _ (unlike (shows p.RightBrace t) (statement_no_brace inside t h)) (statement_there inside t h)

-- What begins a statement doesn't end a part of a `switch`.
pub statement_in_case : (inside : Inside) (t : Next) → statement_begins inside t ≡ true → in_case t ≡ true
statement_in_case inside t h = together _ _ (statement_in_block inside t h) (together _ _ (unlike (says w.Case t) (statement_no_case inside t h)) (unlike (says w.Default t) (statement_no_default inside t h)))

-- No source element begins at the end.
pub source_there : (inside : Inside) (t : Next) → source_begins inside t ≡ true → is_there t ≡ true
unfolding says
source_there inside None h = statement_there inside None h
source_there inside (Some t) h = refl

-- What begins a source element doesn't end a function's body.
pub source_in_block : (inside : Inside) (t : Next) → source_begins inside t ≡ true → in_block t ≡ true
source_in_block inside t h = together _ _ (unlike (shows p.RightBrace t) (go (says w.Function t) (statement_begins inside t) (shows p.RightBrace t) (word_no_sign w.Function p.RightBrace t) (statement_no_brace inside t) h)) (source_there inside t h)
  where
    go : (a b c : Bool) → (a ≡ true → c ≡ false) → (b ≡ true → c ≡ false) → (a || b) ≡ true → c ≡ false
    go true b c k k' h = k refl
    go false b c k k' h = k' h

-- ---- the end

-- A block, and a part of a `switch`, ends at the end, and no part begins there.
pub no_block : in_block None ≡ false
unfolding shows
no_block = refl

pub no_case : in_case None ≡ false
unfolding shows
no_case = refl

pub no_part : is_case None ≡ false
unfolding says
no_part = refl
