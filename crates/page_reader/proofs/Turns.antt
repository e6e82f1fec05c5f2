-- Turns of the loops that read a page.
use Rattle.std.proofs.Common.{◌≡◌, ◌<◌, ℕ, Bool, true, false, inl, List, length, refl, sym, ap, subst, ◌∙◌}
use Rattle.std.specs.Prelude.{not, drop, Result}
use Rattle.grammar.specs.Grammar.{again, first}
use Rattle.grammar.specs.Reading.{Outcome, Got, read}
use Rattle.grammar.proofs.Words.{turn}
use Rattle.placed_chars.specs.declared.chars.Char.{Char}
use Rattle.placed_chars.specs.Chars.{stop, is_end}
use Rattle.page_reader.specs.declared.fault.Fault.{Fault}
use Rattle.page_reader.specs.declared.fault.ReadError.{ReadError}
use Rattle.page_reader.specs.declared.node.Node.{Node}
use Rattle.page_reader.specs.declared.node.Slice.{Slice}
use Rattle.page_reader.specs.declared.outside.Outside.{Outside}
use Rattle.page_reader.specs.Classes.{is_lt}
use Rattle.page_reader.specs.Attributes.{in_value, value_goes, value_piece, Listed, attributes_go, attributes_piece}
use Rattle.page_reader.specs.Content.{Content, Inside, content_goes, piece, opened}
use Rattle.page_reader.specs.PageForm.{is_pad, outside_goes, pad_before, before_root, front, pad_goes, pad_behind}
use Rattle.page_reader.specs.Reads.{content, Reads}
use Rattle.page_reader.proofs.Apart.{either_way}
use Rattle.page_reader.proofs.TagsDecided.{value_piece_decided, attributes_stop, attributes_turn, attributes_eat, attributes_piece_decided}
use Rattle.page_reader.proofs.Decided.{piece_decided, piece_eats, piece_goes, content_stops, opened_within, pad_before_decided, pad_before_eats, outside_stops, outside_turns, pad_behind_decided}

-- a value
pub value_turn : (tag_at quote : ℕ) (units : List ℕ) (ts : List Char) (u : List ℕ) (r : List Char) → in_value quote (first ts stop).code ≡ true → read stop (value_piece tag_at quote units) ts ≡ Got u r
    → (read stop (again (value_goes quote) (value_piece tag_at quote) units) ts ≡ read stop (again (value_goes quote) (value_piece tag_at quote) u) r) × (length r < length ts)
value_turn tag_at quote units ts u r h e = turn stop (value_goes quote) (value_piece tag_at quote) units ts u r (λ _. refl, λ y t h. either_way _ _ h, λ y. (inl tt, inl tt), λ y. value_piece_decided tag_at quote y) h e

-- the attributes of a tag
pub attributes_turned : (tag_at : ℕ) (tag : List ℕ) (l : Listed) (ts : List Char) (u : Listed) (r : List Char) → attributes_go l (first ts stop) ≡ true → read stop (attributes_piece tag_at tag l) ts ≡ Got u r
    → (read stop (again attributes_go (attributes_piece tag_at tag) l) ts ≡ read stop (again attributes_go (attributes_piece tag_at tag) u) r) × (length r < length ts)
attributes_turned tag_at tag l ts u r h e = turn stop attributes_go (attributes_piece tag_at tag) l ts u r (attributes_stop, attributes_turn tag_at tag, attributes_eat tag_at tag, attributes_piece_decided tag_at tag) h e

content_turned : (room tag_at : ℕ) (tag : List ℕ) (c : Content) (ts : List Char) (u : Content) (r : List Char) → content_goes c (first ts stop) ≡ true → read stop (piece (opened room) tag_at tag c) ts ≡ Got u r
    → (read stop (again content_goes (piece (opened room) tag_at tag) c) ts ≡ read stop (again content_goes (piece (opened room) tag_at tag) u) r) × (length r < length ts)
content_turned room tag_at tag c ts u r h e = turn stop content_goes (piece (opened room) tag_at tag) c ts u r (content_stops, piece_goes (opened room) tag_at tag, piece_eats (opened room) tag_at tag, λ c. piece_decided (opened room) tag_at tag c (opened_within room)) h e

-- an element's content, which has not ended
pub content_step : (room tag_at : ℕ) (tag : List ℕ) (b : Bool) (children : List Node) (units : List ℕ) (scripts : List Slice) (ts : List Char) (u : Content) (r : List Char) → b ≡ false → is_end (first ts stop).code ≡ false → read stop (piece (opened room) tag_at tag (Inside children units scripts)) ts ≡ Got u r
    → (read stop (again content_goes (piece (opened room) tag_at tag) (content b children units scripts)) ts ≡ read stop (again content_goes (piece (opened room) tag_at tag) u) r) × (length r < length ts)
content_step room tag_at tag true children units scripts ts u r z h e = absurd cc
content_step room tag_at tag false children units scripts ts u r z h e = content_turned room tag_at tag (Inside children units scripts) ts u r (ap (λ (b : Bool). not b) h) e

-- the pads before the root
pub outside_turned : (o : Outside) (ts : List Char) (u : Outside) (r : List Char) → outside_goes o (first ts stop) ≡ true → read stop (pad_before o) ts ≡ Got u r
    → (read stop (again outside_goes pad_before o) ts ≡ read stop (again outside_goes pad_before u) r) × (length r < length ts)
outside_turned o ts u r h e = turn stop outside_goes pad_before o ts u r (outside_stops, outside_turns, pad_before_eats, pad_before_decided) h e

-- and those behind it
pub pad_turned : (ts r : List Char) → is_pad (first ts stop).code ≡ true → read stop (pad_behind tt) ts ≡ Got tt r
    → (read stop (again pad_goes pad_behind tt) ts ≡ read stop (again pad_goes pad_behind tt) r) × (length r < length ts)
pad_turned ts r h e = turn stop pad_goes pad_behind tt ts tt r (λ _. refl, λ y t h. h, λ y. (inl tt, inl tt), pad_behind_decided) h e

-- ---- what a page begins with

pub front_lt : (ts : List Char) → is_lt (first ts stop).code ≡ true → read stop front ts ≡ read stop (before_root true (first ts stop).at) (drop 1 ts)
front_lt ts h = rw h refl

pub front_reads : (ts ts' new : List Char) (at : ℕ) (res : Result Outside ReadError) → is_lt (first ts stop).code ≡ true → at ≡ (first ts stop).at → ts' ≡ drop 1 ts → Reads (read stop (before_root true at) ts') res new → Reads (read stop front ts) res new
front_reads ts ts' new at res h e e' k =
    let same : read stop (before_root true at) ts' ≡ read stop front ts = ap (λ (a : ℕ). read stop (before_root true a) ts') e ∙ ap (λ (q : List Char). read stop (before_root true (first ts stop).at) q) e' ∙ sym (front_lt ts h) in
    subst (λ (o : Outcome Char Fault Outside). Reads o res new) same k
