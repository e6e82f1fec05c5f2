-- Attributes, in the start tag that begins at the byte `tag_at` (this project's own page form).
use Prim.Native.Char.{code}
use Rattle.std.specs.Prelude.{ℕ, Bool, true, false, not, ◌||◌, ◌&&◌, cond, List, [], ◌∷◌, ◌++◌}
use Rattle.std.specs.Str.{bytes_eq}
use Rattle.std.specs.Char.Escape.{encode_utf16}
use Rattle.grammar.specs.Grammar.{done, or, again}
use Rattle.grammar.specs.Words.{◌>>=◌, ◌>>◌, refuse}
use Rattle.tree_shape.specs.Names.{is_void}
use Rattle.placed_chars.specs.declared.chars.Char.{Char}
use Rattle.placed_chars.specs.Chars.{is_end}
use Rattle.page_reader.specs.declared.fault.Fault.{Fault}
use Rattle.page_reader.specs.declared.fault.PageRule.TheVariants.{BadTag, BadAttribute, Unclosed, TwiceNamed}
use Rattle.page_reader.specs.declared.node.Attribute.{Attribute}
use Rattle.page_reader.specs.Classes.{is, is_white, is_letter, is_slash, is_amp, is_quote, ends_attribute}
use Rattle.page_reader.specs.Rules.{R, fault, one, next, other, need, must, cut_off}
use Rattle.page_reader.specs.References.{reference}
use Rattle.page_reader.specs.Names.{name, is_script, is_src}

-- ---- values

abbrev pub in_value : ℕ → ℕ → Bool
in_value quote x = not (is_end x) && not (is quote x)

abbrev pub ends_value : ℕ → ℕ → Bool
ends_value quote x = not (is_end x) && is quote x

abbrev pub value_goes : ℕ → List ℕ → Char → Bool
value_goes quote _ t = in_value quote t.code

abbrev pub value_piece : ℕ → ℕ → List ℕ → R (List ℕ)
value_piece tag_at quote units = or
    (do
      t ← one (λ x. in_value quote x && is_amp x)
      c ← reference tag_at t.at
      done (units ++ encode_utf16 c))
    (do
      t ← one (λ x. in_value quote x && not (is_amp x))
      done (units ++ encode_utf16 t.code))

-- Value = quote {Reference | any but the quote} quote   behind the first quote
unfoldable pub value : ℕ → ℕ → R (List ℕ)
value tag_at quote = do
  units ← again (value_goes quote) (value_piece tag_at quote) []
  must (ends_value quote) (λ _. fault Unclosed tag_at)
  done units

-- [= Value]   behind the name of an attribute that begins at the byte `at`; no value is an empty one
abbrev pub after_name : ℕ → ℕ → R (List ℕ)
after_name tag_at at = or
    (do
      one (is (code "="))
      quote ← need is_quote (cut_off tag_at (fault BadAttribute at))
      value tag_at quote.code)
    (or
    (next ends_attribute >> done [])
    (other (λ x. is (code "=") x || ends_attribute x) (λ t. cut_off tag_at (fault BadAttribute t.at) t)))

-- ---- one attribute

-- an attribute has this name
abbrev pub has_name : List Attribute → List ℕ → Bool
has_name [] name = false
has_name (a ∷ more) name = bytes_eq a.name name || has_name more name

-- A name that this tag can't have: the character behind it shows that it ends there. A `/` there breaks the tag itself.
abbrev pub wrong : ℕ → List ℕ → Fault → Char → Fault
wrong tag_at tag f t = cut_off tag_at (cond (is_slash t.code && not (is_void tag)) (fault BadTag tag_at) f) t

abbrev pub valued : ℕ → ℕ → List ℕ → R Attribute
valued tag_at at name = do
  value ← after_name tag_at at
  done (record { name = name; value = value })

-- an attribute of this name, which is neither `src` on a script nor a second one of its name
abbrev pub named_so : ℕ → List ℕ → List Attribute → ℕ → List ℕ → R Attribute
named_so tag_at tag earlier at name =
    cond (is_script tag && is_src name) (refuse (wrong tag_at tag (fault BadAttribute at)))
    (cond (has_name earlier name) (refuse (wrong tag_at tag (fault TwiceNamed at)))
    (valued tag_at at name))

-- Attribute = Name [= Value]   behind its first letter, which stands at the byte `at`
unfoldable pub attribute : ℕ → List ℕ → List Attribute → ℕ → ℕ → R Attribute
attribute tag_at tag earlier at letter = do
  name ← name letter
  named_so tag_at tag earlier at name

-- ---- all of a tag

-- the attributes so far, and whether white space stands last
pub data Listed : Type 0 where
  Listing : List Attribute → Bool → Listed

-- the first letter of an attribute, which stands behind white space
abbrev pub spaced_letter : Bool → ℕ → Bool
spaced_letter spaced x = is_letter x && spaced

abbrev pub attributes_go : Listed → Char → Bool
attributes_go (Listing earlier spaced) t = is_white t.code || spaced_letter spaced t.code

abbrev pub attributes_piece : ℕ → List ℕ → Listed → R Listed
attributes_piece tag_at tag (Listing earlier spaced) = or
    (one is_white >> done (Listing earlier true))
    (do
      t ← one (spaced_letter spaced)
      a ← attribute tag_at tag earlier t.at t.code
      done (Listing (earlier ++ a ∷ []) false))

abbrev pub listed : Listed → List Attribute
listed (Listing earlier spaced) = earlier

-- {white {white} Attribute} {white}
unfoldable pub attributes : ℕ → List ℕ → R (List Attribute)
attributes tag_at tag = do
  l ← again attributes_go (attributes_piece tag_at tag) (Listing [] false)
  done (listed l)
