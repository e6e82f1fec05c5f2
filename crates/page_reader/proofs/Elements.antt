-- Each element leaves scripts that begin and end where characters of the page do.
use Rattle.std.proofs.Common.{◌≡◌, ℕ, zero, suc, Bool, true, false, cond, inr, List, [], ◌∷◌, ◌++◌, refl, subst}
use Rattle.std.specs.Prelude.{All}
use Rattle.std.proofs.lemmas.List.Elements.{All-push}
use Rattle.grammar.specs.Grammar.{done, or}
use Rattle.grammar.specs.Words.{◌>>=◌, ◌>>◌}
use Rattle.tree_shape.specs.Names.{is_void, is_raw}
use Rattle.placed_chars.specs.declared.chars.Char.{Char}
use Rattle.page_reader.specs.declared.fault.PageRule.TheVariants.{BadTag}
use Rattle.page_reader.specs.declared.node.Attribute.{Attribute}
use Rattle.page_reader.specs.declared.node.Node.{Node}
use Rattle.page_reader.specs.declared.node.Slice.{Slice}
use Rattle.page_reader.specs.declared.node.Started.{Started}
use Rattle.page_reader.specs.Classes.{is_bang, is_slash, ends_attribute}
use Rattle.page_reader.specs.Rules.{R, fault, one, next, other, cut_off}
use Rattle.page_reader.specs.Comments.{comment}
use Rattle.page_reader.specs.References.{reference}
use Rattle.page_reader.specs.Attributes.{attributes}
use Rattle.page_reader.specs.Names.{name, is_script}
use Rattle.page_reader.specs.Tags.{tag_end, start_tag, end_tag}
use Rattle.page_reader.specs.Raw.{raw}
use Rattle.page_reader.specs.Content.{Found, Content, Inside, Ended, content_goes, Inner, markup, piece, ended, full_body, with_script, raw_body, void_body, body, element, opened}
use Rattle.page_reader.proofs.Leaves.{Leaves, leaves_more, leaves_each, kept, cond_leaves}
use Rattle.page_reader.proofs.Places.{Begins, IsRest, rest_tail, begins_past}
use Rattle.page_reader.proofs.RawScripts.{IsSpan, gt_stands, IsRaw, raw_leaves}

module _ (bytes : List ℕ) where
  -- These scripts begin and end where characters of the page do.
  abbrev pub AreSpans : List Slice → Type 0
  AreSpans scripts = All (λ (s : Slice). IsSpan bytes s.start s.end) scripts

  -- what an element leaves
  abbrev pub IsFine : Found → List Char → Type 0
  IsFine found rest = IsRest bytes rest × AreSpans found.scripts

  -- A rule that hands no scripts on leaves what holds of each value at each rest.
  pub each : {A : Type 0} (g : R A) (ts : List Char) (P : A → List Char → Type 0) → IsRest bytes ts → ((v : A) (s : List Char) → IsRest bytes s → P v s) → Leaves g ts P
  each g ts P i k = leaves_each (IsRest bytes) (rest_tail bytes) g ts P i k

  -- after a token
  pub after_token : (t : Char) (ts rest : List Char) → IsRest bytes ts → ts ≡ t ∷ rest → IsRest bytes rest
  after_token t ts rest i e = rest_tail bytes t rest (subst (λ l. IsRest bytes l) e i)

  -- ---- start tags

  -- The end of a start tag leaves the byte after its `>` and what stands from there on.
  tag_end_leaves : (tag_at : ℕ) (tag : List ℕ) (ts : List Char) → IsRest bytes ts → Leaves (tag_end tag_at tag) ts (λ start rest. Begins bytes start rest)
  tag_end_leaves tag_at tag ts i = (
    λ t rest e q. begins_past bytes t rest (subst (λ l. IsRest bytes l) e i) (gt_stands t.code q),
    (λ t rest e q. (λ t' rest' e' q'. begins_past bytes t' rest' (subst (λ l. IsRest bytes l) e' (after_token t ts rest i e)) (gt_stands t'.code q'), tt), tt),
  )

  -- what stands after the attributes of a start tag
  abbrev tag_ended : ℕ → List ℕ → List Attribute → R Started
  tag_ended tag_at tag attributes = do
    start ← tag_end tag_at tag
    done (record { attributes = attributes; start = start })

  -- what stands after its name
  abbrev attributes_listed : ℕ → List ℕ → R Started
  attributes_listed tag_at tag = attributes tag_at tag >>= tag_ended tag_at tag

  -- A start tag ends where a character of the page does.
  start_tag_leaves : (tag_at : ℕ) (tag : List ℕ) (ts : List Char) → IsRest bytes ts → Leaves (start_tag tag_at tag) ts (λ started rest. Begins bytes started.start rest)
  unfolding start_tag
  start_tag_leaves tag_at tag ts i =
      each (or (next ends_attribute) (other ends_attribute (cut_off tag_at (fault BadTag tag_at)))) ts (λ _ s. Leaves (attributes_listed tag_at tag) s (λ started rest. Begins bytes started.start rest)) i
      (λ _ s j. each (attributes tag_at tag) s (λ a r. Leaves (tag_ended tag_at tag a) r (λ started rest. Begins bytes started.start rest)) j
      (λ a r k. tag_end_leaves tag_at tag r k))

  -- ---- raw content

  -- A script more is fine, where its content is a span.
  with_script_fine : (tag : List ℕ) (scripts : List Slice) (start end : ℕ) → AreSpans scripts → (is_script tag ≡ true → IsSpan bytes start end) → AreSpans (with_script tag scripts start end)
  with_script_fine tag scripts start end fine k = go (is_script tag) k
    where
      go : (b : Bool) → (b ≡ true → IsSpan bytes start end) → AreSpans (cond b (scripts ++ record { start = start; end = end } ∷ []) scripts)
      go true k = All-push (λ (s : Slice). IsSpan bytes s.start s.end) scripts (record { start = start; end = end }) fine (k refl)
      go false k = fine

  -- An element with raw content leaves fine scripts.
  raw_body_leaves : (tag_at : ℕ) (tag : List ℕ) (started : Started) (scripts : List Slice) (ts : List Char) → Begins bytes started.start ts → AreSpans scripts → Leaves (raw_body tag_at tag started scripts) ts IsFine
  raw_body_leaves tag_at tag started scripts ts b fine =
      leaves_more (raw tag_at tag) ts (IsRaw bytes started.start tag) (λ content rest. IsRest bytes rest × AreSpans (with_script tag scripts started.start content.end))
      (λ content rest h. (h.0, with_script_fine tag scripts started.start content.end fine h.1))
      (raw_leaves bytes started.start tag_at tag ts b)

  -- ---- content

  -- the scripts so far
  abbrev scripts_in : Content → List Slice
  scripts_in (Inside children units scripts) = scripts
  scripts_in (Ended children scripts) = scripts

  abbrev IsFineContent : Content → List Char → Type 0
  IsFineContent content rest = IsRest bytes rest × AreSpans (scripts_in content)

  -- the elements one level below leave fine scripts
  abbrev AreFine : Inner → Type 0
  AreFine inner = (at : ℕ) (scripts : List Slice) (ts : List Char) → IsRest bytes ts → AreSpans scripts → Leaves (inner at scripts) ts IsFine

  -- A comment, the end tag or a child leaves fine scripts.
  markup_leaves : (inner : Inner) (tag : List ℕ) (at : ℕ) (children : List Node) (units : List ℕ) (scripts : List Slice) (ts : List Char) → AreFine inner → IsRest bytes ts → AreSpans scripts → Leaves (markup inner tag at children units scripts) ts IsFineContent
  markup_leaves inner tag at children units scripts ts below i fine = (
    each (one is_bang >> comment at) ts (λ _ s. IsRest bytes s × AreSpans scripts) i (λ _ s j. (j, fine)),
    (
      each (one is_slash >> end_tag at tag) ts (λ _ s. IsRest bytes s × AreSpans scripts) i (λ _ s j. (j, fine)),
      (below at scripts ts i fine, tt),
    ),
  )

  -- So does a piece of content,
  piece_leaves : (inner : Inner) (tag_at : ℕ) (tag : List ℕ) (content : Content) (ts : List Char) → AreFine inner → IsFineContent content ts → Leaves (piece inner tag_at tag content) ts IsFineContent
  piece_leaves inner tag_at tag (Inside children units scripts) ts below h = (
    λ t rest e q. (after_token t ts rest h.0 e, h.1),
    (
      λ t rest e q. each (reference tag_at t.at) rest (λ _ s. IsRest bytes s × AreSpans scripts) (after_token t ts rest h.0 e) (λ _ s j. (j, h.1)),
      λ t rest e q. markup_leaves inner tag t.at children units scripts rest below (after_token t ts rest h.0 e) h.1,
    ),
  )
  piece_leaves inner tag_at tag (Ended children scripts) ts below h = tt

  -- and the end of the content,
  ended_leaves : (tag_at : ℕ) (tag : List ℕ) (given : List Attribute) (content : Content) (ts : List Char) → IsFineContent content ts → Leaves (ended tag_at tag given content) ts IsFine
  ended_leaves tag_at tag given (Inside children units scripts) ts h = tt
  ended_leaves tag_at tag given (Ended children scripts) ts h = h

  -- and all of the content.
  full_body_leaves : (inner : Inner) (tag_at : ℕ) (tag : List ℕ) (started : Started) (scripts : List Slice) (ts : List Char) → AreFine inner → IsRest bytes ts → AreSpans scripts → Leaves (full_body inner tag_at tag started scripts) ts IsFine
  full_body_leaves inner tag_at tag started scripts ts below i fine =
      kept content_goes (piece inner tag_at tag) (Inside [] [] scripts) ts (λ content s. Leaves (ended tag_at tag started.attributes content) s IsFine) IsFineContent (i, fine)
      (λ content s h. piece_leaves inner tag_at tag content s below h)
      (λ content s h. ended_leaves tag_at tag started.attributes content s h)

  -- What stands after a start tag leaves fine scripts.
  body_leaves : (inner : Inner) (tag_at : ℕ) (tag : List ℕ) (started : Started) (scripts : List Slice) (ts : List Char) → AreFine inner → Begins bytes started.start ts → AreSpans scripts → Leaves (body inner tag_at tag started scripts) ts IsFine
  body_leaves inner tag_at tag started scripts ts below b fine =
      cond_leaves (is_void tag) (void_body tag started scripts) (cond (is_raw tag) (raw_body tag_at tag started scripts) (full_body inner tag_at tag started scripts)) ts IsFine
      (inr (started.start, b), fine)
      (cond_leaves (is_raw tag) (raw_body tag_at tag started scripts) (full_body inner tag_at tag started scripts) ts IsFine
      (raw_body_leaves tag_at tag started scripts ts b fine)
      (full_body_leaves inner tag_at tag started scripts ts below (inr (started.start, b)) fine))

  -- what stands after an element's name
  abbrev started_body : Inner → ℕ → List ℕ → List Slice → R Found
  started_body inner tag_at tag scripts = do
    started ← start_tag tag_at tag
    body inner tag_at tag started scripts

  -- An element leaves fine scripts, where those one level below do.
  pub element_leaves : (inner : Inner) (tag_at : ℕ) (scripts : List Slice) (letter : ℕ) (ts : List Char) → AreFine inner → IsRest bytes ts → AreSpans scripts → Leaves (element inner tag_at scripts letter) ts IsFine
  element_leaves inner tag_at scripts letter ts below i fine =
      each (name letter) ts (λ tag s. Leaves (started_body inner tag_at tag scripts) s IsFine) i
      (λ tag s j. leaves_more (start_tag tag_at tag) s (λ started rest. Begins bytes started.start rest) (λ started rest. Leaves (body inner tag_at tag started scripts) rest IsFine)
      (λ started rest b. body_leaves inner tag_at tag started scripts rest below b fine)
      (start_tag_leaves tag_at tag s j))

  -- An element at any level leaves such scripts.
  pub opened_leaves : (room at : ℕ) (scripts : List Slice) (ts : List Char) → IsRest bytes ts → AreSpans scripts → Leaves (opened room at scripts) ts IsFine
  unfolding opened
  opened_leaves zero at scripts ts i fine = tt
  opened_leaves (suc room) at scripts ts i fine = λ t rest e q. element_leaves (opened room) at scripts t.code rest (λ a ss us j g. opened_leaves room a ss us j g) (after_token t ts rest i e) fine
