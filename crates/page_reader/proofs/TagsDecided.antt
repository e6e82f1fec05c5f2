-- One character decides in comments, references, names, attributes, tags and raw content.
use Prim.Native.Char.{code}
use Rattle.std.proofs.Common.{◌≡◌, ℕ, Bool, true, false, cond, inl, List, [], ◌∷◌, refl}
use Rattle.std.specs.Prelude.{◌&&◌, codes}
use Rattle.grammar.specs.Reading.{may, Eats, Decided}
use Rattle.grammar.specs.Words.{refuse}
use Rattle.grammar.proofs.Words.{unless, turned, second_false, need_decided, must_decided}
use Rattle.placed_chars.specs.declared.chars.Char.{Char}
use Rattle.placed_chars.specs.Chars.{stop}
use Rattle.page_reader.specs.declared.fault.PageRule.TheVariants.{BadAttribute, TwiceNamed}
use Rattle.page_reader.specs.declared.node.Attribute.{Attribute}
use Rattle.page_reader.specs.Classes.{is_digit}
use Rattle.page_reader.specs.Rules.{fault}
use Rattle.page_reader.specs.Comments.{comment}
use Rattle.page_reader.specs.References.{number, numeric, spelled, named_a, reference}
use Rattle.page_reader.specs.Names.{name, is_script, is_src}
use Rattle.page_reader.specs.Attributes.{value_piece, value, after_name, has_name, wrong, valued, named_so, attribute, Listed, Listing, attributes_go, attributes_piece, attributes}
use Rattle.page_reader.specs.Tags.{tag_end, start_tag, same_name, end_tag}
use Rattle.page_reader.specs.Raw.{raw}
use Rattle.page_reader.proofs.Apart.{apart, letter_not_white, and_false, one_of_two, either_way}

-- ---- comments, names, references

pub comment_decided : (at : ℕ) → Decided stop (comment at)
unfolding comment
comment_decided at = (must_decided stop _ _ refl, λ _. (must_decided stop _ _ refl, λ _. ((λ _. refl, λ y t h. h, λ y. inl tt, λ y. (refl, λ _. tt)), λ _. must_decided stop _ _ refl)))

pub name_decided : (letter : ℕ) → Decided stop (name letter)
unfolding name
name_decided letter = (λ _. refl, λ y t h. h, λ y. inl tt, λ y. (refl, λ _. tt))

number_decided : (owner at base : ℕ) → is_digit base 0x11_0001 ≡ false → Decided stop (number owner at base)
unfolding number
number_decided owner at base e = ((λ n. and_false _ _ e, λ y t h. h, λ y. inl tt, λ n. (and_false _ _ e, λ _. tt)), λ _. (must_decided stop _ _ refl, λ _. tt))

numeric_decided : (owner at : ℕ) → Decided stop (numeric owner at)
numeric_decided owner at = (λ t h. turned _ h, (refl, λ _. number_decided owner at 16 refl), (tt, λ _. number_decided owner at 10 refl))

spelled_decided : (owner at c : ℕ) (xs : List ℕ) → Decided stop (spelled owner at c xs)
spelled_decided owner at c [] = tt
spelled_decided owner at c (x ∷ xs) = (must_decided stop _ _ refl, λ _. spelled_decided owner at c xs)

named_a_decided : (owner at : ℕ) → Decided stop (named_a owner at)
named_a_decided owner at =
    (apart (code "m") _ (λ _ _. refl), (refl, λ _. spelled_decided owner at (code "&") (codes "p;")), (apart (code "p") _ (λ _ _. refl), (refl, λ _. spelled_decided owner at (code "'") (codes "os;")), tt))

pub reference_decided : (owner at : ℕ) → Decided stop (reference owner at)
unfolding reference
reference_decided owner at =
    (apart (code "#") _ (λ _ _. refl), (refl, λ _. numeric_decided owner at), (apart (code "a") _ (λ _ _. refl), (refl, λ _. named_a_decided owner at), (apart (code "l") _ (λ _ _. refl), (refl, λ _. spelled_decided owner at (code "<") (codes "t;")), (apart (code "g") _ (λ _ _. refl), (refl, λ _. spelled_decided owner at (code ">") (codes "t;")), (apart (code "q") _ (λ _ _. refl), (refl, λ _. spelled_decided owner at (code "\"") (codes "uot;")), (apart (code "n") _ (λ _ _. refl), (refl, λ _. spelled_decided owner at (code "\u{a0}") (codes "bsp;")), tt))))))

-- ---- attributes

pub value_piece_decided : (tag_at quote : ℕ) (units : List ℕ) → Decided stop (value_piece tag_at quote units)
value_piece_decided tag_at quote units = (λ t h. one_of_two _ _ h, (refl, λ t. (reference_decided tag_at t.at, λ _. tt)), (refl, λ _. tt))

value_decided : (tag_at quote : ℕ) → Decided stop (value tag_at quote)
unfolding value
value_decided tag_at quote = ((λ _. refl, λ y t h. either_way _ _ h, λ y. (inl tt, inl tt), λ y. value_piece_decided tag_at quote y), λ _. (must_decided stop _ _ refl, λ _. tt))

after_name_decided : (tag_at at : ℕ) → Decided stop (after_name tag_at at)
after_name_decided tag_at at =
    (apart (code "=") _ (λ _ _. refl), (refl, λ _. (need_decided stop _ _ refl, λ q. value_decided tag_at q.code)), (λ t h. second_false _ _ (unless _ _ h), (tt, λ _. tt), tt))

named_so_decided : (tag_at : ℕ) (tag : List ℕ) (earlier : List Attribute) (at : ℕ) (name : List ℕ) → Decided stop (named_so tag_at tag earlier at name)
named_so_decided tag_at tag earlier at name = go (is_script tag && is_src name) (has_name earlier name)
  where
    go : (b c : Bool) → Decided stop (cond b (refuse (wrong tag_at tag (fault BadAttribute at))) (cond c (refuse (wrong tag_at tag (fault TwiceNamed at))) (valued tag_at at name)))
    go true c = tt
    go false true = tt
    go false false = (after_name_decided tag_at at, λ _. tt)

attribute_decided : (tag_at : ℕ) (tag : List ℕ) (earlier : List Attribute) (at letter : ℕ) → Decided stop (attribute tag_at tag earlier at letter)
unfolding attribute
attribute_decided tag_at tag earlier at letter = (name_decided letter, λ n. named_so_decided tag_at tag earlier at n)

pub attributes_stop : (l : Listed) → attributes_go l stop ≡ false
attributes_stop (Listing earlier spaced) = refl

pub attributes_turn : (tag_at : ℕ) (tag : List ℕ) (l : Listed) (t : Char) → may (attributes_piece tag_at tag l) t ≡ true → attributes_go l t ≡ true
attributes_turn tag_at tag (Listing earlier spaced) t h = h

pub attributes_eat : (tag_at : ℕ) (tag : List ℕ) (l : Listed) → Eats (attributes_piece tag_at tag l)
attributes_eat tag_at tag (Listing earlier spaced) = (inl tt, inl tt)

pub attributes_piece_decided : (tag_at : ℕ) (tag : List ℕ) (l : Listed) → Decided stop (attributes_piece tag_at tag l)
attributes_piece_decided tag_at tag (Listing earlier spaced) = (λ t h. letter_not_white t.code spaced h, (refl, λ _. tt), (refl, λ t. (attribute_decided tag_at tag earlier t.at t.code, λ _. tt)))

attributes_decided : (tag_at : ℕ) (tag : List ℕ) → Decided stop (attributes tag_at tag)
unfolding attributes
attributes_decided tag_at tag = ((attributes_stop, attributes_turn tag_at tag, attributes_eat tag_at tag, attributes_piece_decided tag_at tag), λ _. tt)

-- ---- tags and raw content

tag_end_decided : (tag_at : ℕ) (tag : List ℕ) → Decided stop (tag_end tag_at tag)
tag_end_decided tag_at tag =
    (apart (code ">") _ (λ _ _. refl), (refl, λ _. tt), (λ t h. second_false _ _ (unless _ _ h), (refl, λ _. (need_decided stop _ _ refl, λ _. tt)), tt))

pub start_tag_decided : (tag_at : ℕ) (tag : List ℕ) → Decided stop (start_tag tag_at tag)
unfolding start_tag
start_tag_decided tag_at tag = ((λ t h. unless _ _ h, tt, tt), λ _. (attributes_decided tag_at tag, λ _. (tag_end_decided tag_at tag, λ _. tt)))

same_name_decided : (at : ℕ) (cs : List ℕ) → Decided stop (same_name at cs)
same_name_decided at [] = (λ t h. unless _ _ h, tt, tt)
same_name_decided at (c ∷ cs) = (must_decided stop _ _ refl, λ _. same_name_decided at cs)

pub end_tag_decided : (at : ℕ) (tag : List ℕ) → Decided stop (end_tag at tag)
unfolding end_tag
end_tag_decided at tag = ((λ t h. unless _ _ h, tt, tt), λ _. (same_name_decided at tag, λ _. ((λ _. refl, λ y t h. h, λ y. inl tt, λ y. (refl, λ _. tt)), λ _. must_decided stop _ _ refl)))

pub raw_decided : (at : ℕ) (tag : List ℕ) → Decided stop (raw at tag)
unfolding raw
raw_decided at tag = ((λ _. refl, λ y t h. h, λ y. inl tt, λ y. (refl, λ _. tt)), λ _. (need_decided stop _ _ refl, λ _. tt))
