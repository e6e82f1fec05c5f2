-- Start tags and end tags (this project's own page form).
use Rattle.std.specs.Prelude.{ℕ, Bool, ◌||◌, ◌&&◌, cond, ◌==◌, List, [], ◌∷◌}
use Rattle.grammar.specs.Grammar.{done, or, again}
use Rattle.grammar.specs.Words.{◌>>=◌, ◌>>◌}
use Rattle.tree_shape.specs.Names.{is_void}
use Rattle.placed_chars.specs.declared.chars.Char.{Char}
use Rattle.page_reader.specs.declared.fault.Fault.{Fault}
use Rattle.page_reader.specs.declared.fault.PageRule.TheVariants.{BadTag, BadAttribute, Mismatch}
use Rattle.page_reader.specs.declared.node.Started.{Started}
use Rattle.page_reader.specs.Classes.{is_white, is_letter, is_part, lower, is_gt, is_slash, ends_name, ends_attribute}
use Rattle.page_reader.specs.Rules.{R, fault, one, next, other, need, must, cut_off}
use Rattle.page_reader.specs.Attributes.{attributes}

-- ---- start tags, which begin at the byte `tag_at`

-- the `/` of a void element
abbrev pub void_slash : List ℕ → ℕ → Bool
void_slash tag x = is_slash x && is_void tag

-- what fits nowhere in a start tag
abbrev pub bad_in_tag : ℕ → Char → Fault
bad_in_tag tag_at t = cut_off tag_at (cond (is_slash t.code) (fault BadTag tag_at) (fault BadAttribute t.at)) t

-- > | />   and the byte behind it; the slash for void elements alone
abbrev pub tag_end : ℕ → List ℕ → R ℕ
tag_end tag_at tag = or
    (do
      t ← one is_gt
      done t.past)
    (or
    (do
      one (void_slash tag)
      t ← need is_gt (cut_off tag_at (fault BadTag tag_at))
      done t.past)
    (other (λ x. is_gt x || void_slash tag x) (bad_in_tag tag_at)))

-- StartTag = < Name attributes (> | />)   behind the name
unfoldable pub start_tag : ℕ → List ℕ → R Started
start_tag tag_at tag = do
  or (next ends_attribute) (other ends_attribute (cut_off tag_at (fault BadTag tag_at)))
  attributes ← attributes tag_at tag
  start ← tag_end tag_at tag
  done (record { attributes = attributes; start = start })

-- ---- end tags, behind their `</`, whose `<` stands at the byte `at`

-- this letter of the innermost element's name, in any case
abbrev pub same_letter : ℕ → ℕ → Bool
same_letter c x = is_part x && lower x == c

-- what another character shows than this one of the innermost element's name
abbrev pub not_this : ℕ → Char → Fault
not_this at t = cut_off at (cond (is_part t.code || ends_name t.code) (fault Mismatch at) (fault BadTag at)) t

-- what shows a character that ends no name, behind the innermost element's
abbrev pub not_ended : ℕ → Char → Fault
not_ended at t = cut_off at (cond (is_part t.code) (fault Mismatch at) (fault BadTag at)) t

-- the innermost element's name, in any case
abbrev pub same_name : ℕ → List ℕ → R (Unit {0})
same_name at [] = or (next ends_name) (other ends_name (not_ended at))
same_name at (c ∷ cs) = must (same_letter c) (not_this at) >> same_name at cs

abbrev pub white_goes : Unit {0} → Char → Bool
white_goes _ t = is_white t.code

abbrev pub white : Unit {0} → R (Unit {0})
white _ = one is_white >> done tt

-- EndTag = </ the element's name {white} >
unfoldable pub end_tag : ℕ → List ℕ → R (Unit {0})
end_tag at tag = do
  or (next is_letter) (other is_letter (cut_off at (fault BadTag at)))
  same_name at tag
  again white_goes white tt
  must is_gt (cut_off at (fault BadTag at))
