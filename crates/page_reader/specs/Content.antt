-- Elements and what stands in them (this project's own page form).
use Rattle.std.specs.Prelude.{ℕ, zero, suc, Bool, false, not, ◌||◌, ◌&&◌, cond, List, [], ◌∷◌, ◌++◌}
use Rattle.std.specs.Char.Escape.{encode_utf16}
use Rattle.grammar.specs.Grammar.{done, or, again}
use Rattle.grammar.specs.Words.{◌>>=◌, ◌>>◌, refuse}
use Rattle.tree_shape.specs.Names.{is_void, is_raw}
use Rattle.placed_chars.specs.declared.chars.Char.{Char}
use Rattle.placed_chars.specs.Chars.{is_end}
use Rattle.page_reader.specs.declared.fault.PageRule.TheVariants.{BadTag, Unclosed, Nesting}
use Rattle.page_reader.specs.declared.node.Attribute.{Attribute}
use Rattle.page_reader.specs.declared.node.Node.{Node}
use Rattle.page_reader.specs.declared.node.Node.TheVariants as n
use Rattle.page_reader.specs.declared.node.Slice.{Slice}
use Rattle.page_reader.specs.declared.node.Started.{Started}
use Rattle.page_reader.specs.Classes.{is_letter, is_lt, is_slash, is_bang, is_amp}
use Rattle.page_reader.specs.Rules.{R, fault, one, other, never, cut_off}
use Rattle.page_reader.specs.Comments.{comment}
use Rattle.page_reader.specs.References.{reference}
use Rattle.page_reader.specs.Names.{name, is_script}
use Rattle.page_reader.specs.Tags.{start_tag, end_tag}
use Rattle.page_reader.specs.Raw.{raw}

-- a node, and where the contents of the scripts up to its end stand, in tree order
pub record Found : Type 0 where
  pub node : Node
  pub scripts : List Slice

abbrev pub found : Node → List Slice → Found
found node scripts = record { node = node; scripts = scripts }

-- A text makes a node, unless it is empty.
abbrev pub flushed : List Node → List ℕ → List Node
flushed children [] = children
flushed children (unit ∷ units) = children ++ n.Chars (unit ∷ units) ∷ []

-- the children, the text behind them and the scripts so far, in an element or at its end
pub data Content : Type 0 where
  Inside : List Node → List ℕ → List Slice → Content
  Ended : List Node → List Slice → Content

abbrev pub content_goes : Content → Char → Bool
content_goes (Inside children units scripts) t = not (is_end t.code)
content_goes (Ended children scripts) t = false

abbrev pub is_markup : ℕ → Bool
is_markup x = is_bang x || is_slash x || is_letter x

-- an element behind its `<`, which stands at this byte, with the scripts before it
abbrev pub Inner : Type 1
Inner = ℕ → List Slice → R Found

-- a comment, the end tag or a child, behind a `<` at the byte `at`
abbrev pub markup : Inner → List ℕ → ℕ → List Node → List ℕ → List Slice → R Content
markup inner tag at children units scripts = or
    (one is_bang >> comment at >> done (Inside children units scripts))
    (or
    (one is_slash >> end_tag at tag >> done (Ended (flushed children units) scripts))
    (or
    (do
      child ← inner at scripts
      done (Inside (flushed children units ++ child.node ∷ []) [] child.scripts))
    (other is_markup (cut_off at (fault BadTag at)))))

-- any character of a text but one that begins a reference
abbrev pub is_text : ℕ → Bool
is_text x = not (is_end x) && not (is_amp x) && not (is_lt x)

-- a character, a reference, or what begins with a `<`
abbrev pub piece : Inner → ℕ → List ℕ → Content → R Content
piece inner tag_at tag (Inside children units scripts) = or
    (do
      t ← one is_text
      done (Inside children (units ++ encode_utf16 t.code) scripts))
    (or
    (do
      t ← one is_amp
      c ← reference tag_at t.at
      done (Inside children (units ++ encode_utf16 c) scripts))
    (do
      t ← one is_lt
      markup inner tag t.at children units scripts))
piece inner tag_at tag (Ended children scripts) = never

abbrev pub ended : ℕ → List ℕ → List Attribute → Content → R Found
ended tag_at tag given (Inside children units scripts) = refuse (λ _. fault Unclosed tag_at)
ended tag_at tag given (Ended children scripts) = done (found (n.Element tag given children) scripts)

-- Content = {text | Comment | Element} EndTag
abbrev pub full_body : Inner → ℕ → List ℕ → Started → List Slice → R Found
full_body inner tag_at tag started scripts = do
  content ← again content_goes (piece inner tag_at tag) (Inside [] [] scripts)
  ended tag_at tag started.attributes content

abbrev pub with_script : List ℕ → List Slice → ℕ → ℕ → List Slice
with_script tag scripts start end = cond (is_script tag) (scripts ++ record { start = start; end = end } ∷ []) scripts

-- raw content, which is one text or none
abbrev pub raw_body : ℕ → List ℕ → Started → List Slice → R Found
raw_body tag_at tag started scripts = do
  content ← raw tag_at tag
  done (found (n.Element tag started.attributes (flushed [] content.text)) (with_script tag scripts started.start content.end))

abbrev pub void_body : List ℕ → Started → List Slice → R Found
void_body tag started scripts = done (found (n.Element tag started.attributes []) scripts)

-- what stands behind a start tag
abbrev pub body : Inner → ℕ → List ℕ → Started → List Slice → R Found
body inner tag_at tag started scripts =
    cond (is_void tag) (void_body tag started scripts)
    (cond (is_raw tag) (raw_body tag_at tag started scripts) (full_body inner tag_at tag started scripts))

-- Element = StartTag [Raw | Content]   behind its `<` at the byte `tag_at` and the first letter of its name
abbrev pub element : Inner → ℕ → List Slice → ℕ → R Found
element inner tag_at scripts letter = do
  tag ← name letter
  started ← start_tag tag_at tag
  body inner tag_at tag started scripts

-- an element behind its `<`, where so many levels are left
unfoldable pub opened : ℕ → Inner
opened zero at scripts = other (λ x. not (is_letter x)) (λ _. fault Nesting at)
opened (suc room) at scripts = do
  t ← one is_letter
  element (opened room) at scripts t.code
