-- One character decides in the form of pages.
use Prim.Native.Char.{code}
use Rattle.std.proofs.Common.{◌≡◌, ℕ, zero, suc, Bool, true, false, cond, inl, List, [], ◌∷◌, refl, ◌∙◌}
use Rattle.std.specs.Prelude.{codes}
use Rattle.tree_shape.specs.Names.{is_void, is_raw}
use Rattle.grammar.specs.Reading.{may, Eats, Decided}
use Rattle.grammar.proofs.Words.{unless, unless_not, turned, second_false, must_decided}
use Rattle.placed_chars.specs.declared.chars.Char.{Char}
use Rattle.placed_chars.specs.Chars.{stop}
use Rattle.page_reader.specs.declared.node.Attribute.{Attribute}
use Rattle.page_reader.specs.declared.node.Node.{Node}
use Rattle.page_reader.specs.declared.node.Slice.{Slice}
use Rattle.page_reader.specs.declared.node.Started.{Started}
use Rattle.page_reader.specs.declared.outside.Outside.{Outside}
use Rattle.page_reader.specs.declared.outside.Outside.TheVariants.{Seeking, Opening}
use Rattle.page_reader.specs.Classes.{is_letter, is_lt, is_slash, is_bang}
use Rattle.page_reader.specs.Rules.{fault}
use Rattle.page_reader.specs.Content.{Content, Inside, Ended, Inner, content_goes, markup, piece, ended, void_body, raw_body, full_body, body, element, opened}
use Rattle.page_reader.specs.PageForm.{word, front_bang, bang, before_root, outside_goes, pad_before, front, root, behind_root, pad_behind, page}
use Rattle.page_reader.proofs.Apart.{character, not_code, apart, lt_not_white, third_false, text_ends, not_the_end}
use Rattle.page_reader.proofs.TagsDecided.{comment_decided, reference_decided, name_decided, start_tag_decided, end_tag_decided, raw_decided}

-- ---- elements

-- an element inside, behind its `<`: it begins with a letter, or with a letter is a fault
pub record Within (inner : Inner) : Type 0 where
  pub decided : (at : ℕ) (scripts : List Slice) → Decided stop (inner at scripts)
  pub begin : (at : ℕ) (scripts : List Slice) (t : Char) → may (inner at scripts) t ≡ is_letter t.code

markup_decided : (inner : Inner) (tag : List ℕ) (at : ℕ) (children : List Node) (units : List ℕ) (scripts : List Slice) → Within inner → Decided stop (markup inner tag at children units scripts)
markup_decided inner tag at children units scripts i =
    (apart (code "!") _ (λ p q. rw (i.begin at scripts (character (code "!") p q)) refl), ((refl, λ _. comment_decided at), λ _. tt), (apart (code "/") _ (λ p q. rw (i.begin at scripts (character (code "/") p q)) refl), ((refl, λ _. end_tag_decided at tag), λ _. tt), (λ t h. i.begin at scripts t ∙ third_false (is_bang t.code) (is_slash t.code) (is_letter t.code) (unless _ _ h), (i.decided at scripts, λ _. tt), tt)))

pub piece_decided : (inner : Inner) (tag_at : ℕ) (tag : List ℕ) (c : Content) → Within inner → Decided stop (piece inner tag_at tag c)
piece_decided inner tag_at tag (Inside children units scripts) i =
    (λ t h. text_ends _ _ _ h, (refl, λ _. tt), (λ t h. not_code (code "&") is_lt refl t.code h, (refl, λ t. (reference_decided tag_at t.at, λ _. tt)), (refl, λ t. markup_decided inner tag t.at children units scripts i)))
piece_decided inner tag_at tag (Ended children scripts) i = tt

-- One turn of the content reads a character at least.
pub piece_eats : (inner : Inner) (tag_at : ℕ) (tag : List ℕ) (c : Content) → Eats (piece inner tag_at tag c)
piece_eats inner tag_at tag (Inside children units scripts) = (inl tt, (inl tt, inl tt))
piece_eats inner tag_at tag (Ended children scripts) = tt

-- The content goes on wherever a turn may begin.
pub piece_goes : (inner : Inner) (tag_at : ℕ) (tag : List ℕ) (c : Content) (t : Char) → may (piece inner tag_at tag c) t ≡ true → content_goes c t ≡ true
piece_goes inner tag_at tag (Inside children units scripts) t h = not_the_end t.code h
piece_goes inner tag_at tag (Ended children scripts) t h = h

pub content_stops : (c : Content) → content_goes c stop ≡ false
content_stops (Inside children units scripts) = refl
content_stops (Ended children scripts) = refl

ended_decided : (tag_at : ℕ) (tag : List ℕ) (given : List Attribute) (c : Content) → Decided stop (ended tag_at tag given c)
ended_decided tag_at tag given (Inside children units scripts) = tt
ended_decided tag_at tag given (Ended children scripts) = tt

body_decided : (inner : Inner) (tag_at : ℕ) (tag : List ℕ) (started : Started) (scripts : List Slice) → Within inner → Decided stop (body inner tag_at tag started scripts)
body_decided inner tag_at tag started scripts i = go (is_void tag) (is_raw tag)
  where
    go : (b c : Bool) → Decided stop (cond b (void_body tag started scripts) (cond c (raw_body tag_at tag started scripts) (full_body inner tag_at tag started scripts)))
    go true c = tt
    go false true = (raw_decided tag_at tag, λ _. tt)
    go false false = ((content_stops, piece_goes inner tag_at tag, piece_eats inner tag_at tag, λ c. piece_decided inner tag_at tag c i), λ c. ended_decided tag_at tag started.attributes c)

element_decided : (inner : Inner) (tag_at : ℕ) (scripts : List Slice) (letter : ℕ) → Within inner → Decided stop (element inner tag_at scripts letter)
element_decided inner tag_at scripts letter i = (name_decided letter, λ tag. (start_tag_decided tag_at tag, λ s. body_decided inner tag_at tag s scripts i))

-- Whatever levels are left.
pub opened_within : (room : ℕ) → Within (opened room)
unfolding opened
opened_within zero = record { decided = λ at scripts. tt; begin = λ at scripts t. unless_not (is_letter t.code) (fault _ at) }
opened_within (suc room) = record { decided = λ at scripts. (refl, λ t. element_decided (opened room) at scripts t.code (opened_within room)); begin = λ at scripts t. refl }

-- ---- outside the root

word_decided : (at : ℕ) (cs : List ℕ) → Decided stop (word at cs)
word_decided at [] = tt
word_decided at (c ∷ cs) = (must_decided stop _ _ refl, λ _. word_decided at cs)

front_bang_decided : (at : ℕ) → Decided stop (front_bang at)
front_bang_decided at = (λ t h. turned _ h, (refl, λ _. word_decided at (codes "octype html>")), (tt, λ _. comment_decided at))

bang_decided : (is_front : Bool) (at : ℕ) → Decided stop (bang is_front at)
bang_decided true at = front_bang_decided at
bang_decided false at = comment_decided at

before_root_decided : (is_front : Bool) (at : ℕ) → Decided stop (before_root is_front at)
before_root_decided is_front at = (apart (code "!") _ (λ _ _. refl), ((refl, λ _. bang_decided is_front at), λ _. tt), (λ t h. second_false _ _ (unless _ _ h), (refl, λ _. tt), tt))

pub pad_before_decided : (o : Outside) → Decided stop (pad_before o)
pad_before_decided Seeking = (λ t h. lt_not_white t.code h, (refl, λ _. tt), (refl, λ t. before_root_decided false t.at))
pad_before_decided (Opening at letter) = tt

pub pad_before_eats : (o : Outside) → Eats (pad_before o)
pad_before_eats Seeking = (inl tt, inl tt)
pad_before_eats (Opening at letter) = tt

pub outside_stops : (o : Outside) → outside_goes o stop ≡ false
outside_stops Seeking = refl
outside_stops (Opening at letter) = refl

pub outside_turns : (o : Outside) (t : Char) → may (pad_before o) t ≡ true → outside_goes o t ≡ true
outside_turns Seeking t h = h
outside_turns (Opening at letter) t h = h

front_decided : Decided stop front
front_decided = (λ t h. turned _ h, (refl, λ t. before_root_decided true t.at), (tt, λ _. tt))

root_decided : (room : ℕ) (o : Outside) → Decided stop (root room o)
root_decided room Seeking = tt
root_decided room (Opening at letter) = element_decided (opened room) at [] letter (opened_within room)

behind_root_decided : (at : ℕ) → Decided stop (behind_root at)
behind_root_decided at = (apart (code "!") _ (λ _ _. refl), (refl, λ _. comment_decided at), tt)

pub pad_behind_decided : (u : Unit {0}) → Decided stop (pad_behind u)
pad_behind_decided u = (λ t h. lt_not_white t.code h, (refl, λ _. tt), (refl, λ t. behind_root_decided t.at))

-- One character decides at each place of a page.
pub page_decided : (room : ℕ) → Decided stop (page room)
page_decided room = (front_decided, λ start. ((outside_stops, outside_turns, pad_before_eats, pad_before_decided), λ o. (root_decided room o, λ f. ((λ _. refl, λ y t h. h, λ y. (inl tt, inl tt), pad_behind_decided), λ _. (must_decided stop _ _ refl, λ _. tt)))))
