-- What the form of pages derives has no name twice in a tag, and no more nodes and scripts than characters.
use Rattle.std.proofs.Common.{◌≡◌, ◌≤◌, ℕ, zero, suc, ◌+◌, Bool, true, false, cond, inl, inr, List, [], ◌∷◌, ◌++◌, map, length, refl, sym, ap, subst, ◌∙◌, arith}
use Rattle.std.proofs.lemmas.List.{length-append}
use Rattle.cell_places.specs.Lists.{Distinct}
use Rattle.tree_shape.specs.Names.{is_void, is_raw}
use Rattle.tree_shape.specs.Trees.{Trees, HaveNamesOnce}
use Rattle.tree_shape.specs.Trees as t
use Rattle.grammar.specs.Grammar.{first, StartsWith, Turns, Derives}
use Rattle.placed_chars.specs.declared.chars.Char.{Char}
use Rattle.page_reader.specs.declared.node.Attribute.{Attribute}
use Rattle.page_reader.specs.declared.node.Node.{Node}
use Rattle.page_reader.specs.declared.node.Node.TheVariants as n
use Rattle.page_reader.specs.declared.node.RawContent.{RawContent}
use Rattle.page_reader.specs.declared.node.Slice.{Slice}
use Rattle.page_reader.specs.declared.node.Started.{Started}
use Rattle.page_reader.specs.declared.outside.Outside.{Outside}
use Rattle.page_reader.specs.declared.outside.Outside.TheVariants.{Seeking, Opening}
use Rattle.page_reader.specs.NodeTrees.{row, node_tree}
use Rattle.page_reader.specs.Planting.{node_count}
use Rattle.page_reader.specs.Names.{is_script}
use Rattle.page_reader.specs.Raw.{raw}
use Rattle.page_reader.specs.Content.{Found, found, flushed, Content, Inside, Ended, Inner, content_goes, markup, piece, ended, with_script, void_body, raw_body, full_body, body, element, opened}
use Rattle.page_reader.specs.PageForm.{outside_goes, pad_before, front, root, last, page}
use Rattle.page_reader.proofs.NodeTrees.{chars_tree, element_tree_of, row_push}
use Rattle.page_reader.proofs.NamedOnce.{names, start_tag_once}

-- ---- siblings

-- Siblings that are put before others: none of their elements has a name twice, and they have no more nodes.
pub record Placed (front : Trees → Trees) (size : ℕ) : Type 0 where
  pub once : (more : Trees) → HaveNamesOnce more → HaveNamesOnce (front more)
  pub nodes : (more : Trees) → node_count (front more) ≤ size + node_count more

abbrev siblings : List Node → Trees → Trees
siblings nodes more = row (map node_tree nodes) more

none_placed : Placed (siblings []) 0
none_placed = record { once = λ more h. h; nodes = λ more. omega arith }

wider : (front : Trees → Trees) (a b : ℕ) → a ≤ b → Placed front a → Placed front b
wider front a b le p = record { once = p.once; nodes = λ more. let q = p.nodes more in omega arith }

push_placed : (nodes : List Node) (node : Node) (a b : ℕ) → Placed (siblings nodes) a → Placed (node_tree node) b → Placed (siblings (nodes ++ node ∷ [])) (a + b)
push_placed nodes node a b p q = record {
  once = λ more h. subst (λ (t : Trees). HaveNamesOnce t) (sym (row_push nodes node more)) (p.once (node_tree node more) (q.once more h));
  nodes = λ more. let e = ap (λ (t : Trees). node_count t) (row_push nodes node more) in let f = p.nodes (node_tree node more) in let g = q.nodes more in omega arith;
}

text_placed : (units : List ℕ) → Placed (λ more. t.text units more) 1
text_placed units = record { once = λ more h. h; nodes = λ more. omega arith }

chars_placed : (units : List ℕ) → Placed (node_tree (n.Chars units)) 1
chars_placed units = subst (λ (front : Trees → Trees). Placed front 1) (sym (chars_tree units)) (text_placed units)

pairs_names : (given : List Attribute) → map (λ (a : t.Attribute). a.0) (map (λ (a : Attribute). (a.name, a.value)) given) ≡ names given
pairs_names [] = refl
pairs_names (a ∷ more) = ap (λ (l : List (List ℕ)). a.name ∷ l) (pairs_names more)

element_placed : (name : List ℕ) (given : List Attribute) (children : List Node) (a : ℕ) → Distinct (names given) → Placed (siblings children) a → Placed (node_tree (n.Element name given children)) (1 + a)
element_placed name given children a once p = subst (λ (front : Trees → Trees). Placed front (1 + a)) (sym (element_tree_of name given children)) (record {
  once = λ more h. (subst (λ (l : List (List ℕ)). Distinct l) (sym (pairs_names given)) once, p.once t.none tt, h);
  nodes = λ more. let f = p.nodes t.none in omega arith;
})

-- how many nodes a text will make
abbrev pending : List ℕ → ℕ
pending [] = 0
pending (unit ∷ units) = 1

pending_few : (units : List ℕ) → pending units ≤ 1
pending_few [] = omega arith
pending_few (unit ∷ units) = omega arith

flushed_placed : (children : List Node) (units : List ℕ) (a : ℕ) → Placed (siblings children) a → Placed (siblings (flushed children units)) (a + pending units)
flushed_placed children [] a p = wider (siblings children) a (a + 0) (omega arith) p
flushed_placed children (unit ∷ units) a p = push_placed children (n.Chars (unit ∷ units)) a 1 p (chars_placed (unit ∷ units))

-- ---- how much a rule takes

sum_of : {A : Type 0} (xs ys zs : List A) → xs ≡ ys ++ zs → length xs ≡ length ys + length zs
sum_of {A} xs ys zs e = ap (λ (l : List A). length l) e ∙ length-append ys zs

raw_takes : (tag_at : ℕ) (tag : List ℕ) (xs : List Char) (v : RawContent) (next : Char) → Derives (raw tag_at tag) xs v next → 1 ≤ length xs
unfolding raw
raw_takes tag_at tag xs v next (ys, zs, units, d, (vs, ws, c, inl (e, h), d', q'), q) =
    let a = sum_of xs ys zs q in let b = sum_of zs vs ws q' in let k = ap (λ (l : List Char). length l) e in omega arith
raw_takes tag_at tag xs v next (ys, zs, units, d, (vs, ws, c, inr absent, d', q'), q) = absurd absent

-- ---- contents

-- a node, with the scripts up to its end, of so many characters
pub record Sized (scripts : List Slice) (f : Found) (size : ℕ) : Type 0 where
  pub placed : Placed (node_tree f.node) size
  pub few : length f.scripts ≤ length scripts + size

-- what a content keeps of so many characters
abbrev Kept : List Slice → Content → ℕ → Type 0
Kept before (Inside children units scripts) size = (a : ℕ) × Placed (siblings children) a × (a + pending units ≤ size) × (length scripts ≤ length before + size)
Kept before (Ended children scripts) size = Placed (siblings children) size × (length scripts ≤ length before + size)

kept_wider : (before : List Slice) (c : Content) (a b : ℕ) → a ≤ b → Kept before c a → Kept before c b
kept_wider before (Inside children units scripts) a b le (m, p, few, short) = (m, p, omega arith, omega arith)
kept_wider before (Ended children scripts) a b le (p, short) = (wider (siblings children) a b le p, omega arith)

-- an element inside, behind its `<`
abbrev InnerSized : Inner → Type 0
InnerSized inner = (at : ℕ) (scripts : List Slice) (xs : List Char) (f : Found) (next : Char) → Derives (inner at scripts) xs f next → Sized scripts f (length xs)

markup_kept : (inner : Inner) (tag : List ℕ) (at : ℕ) (before : List Slice) (children : List Node) (units : List ℕ) (scripts : List Slice) (size : ℕ) (xs : List Char) (u : Content) (next : Char) → InnerSized inner
    → Kept before (Inside children units scripts) size → Derives (markup inner tag at children units scripts) xs u next → Kept before u (size + length xs)
markup_kept inner tag at before children units scripts size xs u next i (a, p, few, short) (inl (ys, zs, w, d, (e, eu), q)) =
    rw eu (a, p, omega arith, omega arith)
markup_kept inner tag at before children units scripts size xs u next i (a, p, few, short) (inr (inl (ys, zs, w, d, (e, eu), q))) =
    rw eu (wider (siblings (flushed children units)) (a + pending units) (size + length xs) (omega arith) (flushed_placed children units a p), omega arith)
markup_kept inner tag at before children units scripts size xs u next i (a, p, few, short) (inr (inr (inl (ys, zs, child, d, (e, eu), q)))) =
    let b = sum_of xs ys zs q in let g = ap (λ (l : List Char). length l) e in let s = i at scripts ys child (first zs next) d in let l = s.few in
    rw eu (a + pending units + length ys, push_placed (flushed children units) child.node (a + pending units) (length ys) (flushed_placed children units a p) s.placed, omega arith, omega arith)
markup_kept inner tag at before children units scripts size xs u next i k (inr (inr (inr absent))) = absurd absent

piece_kept : (inner : Inner) (tag_at : ℕ) (tag : List ℕ) (before : List Slice) (c : Content) (size : ℕ) (xs : List Char) (u : Content) (next : Char) → InnerSized inner
    → Kept before c size → Derives (piece inner tag_at tag c) xs u next → Kept before u (size + length xs)
piece_kept inner tag_at tag before (Inside children units scripts) size xs u next i (a, p, few, short) (inl (ys, zs, c, (e, is), (e', eu), q)) =
    let b = sum_of xs ys zs q in let f = ap (λ (l : List Char). length l) e in
    rw eu (a, p, omega (arith, pending_few), omega arith)
piece_kept inner tag_at tag before (Inside children units scripts) size xs u next i (a, p, few, short) (inr (inl (ys, zs, c, (e, is), (vs, ws, r, d, (e', eu), q'), q))) =
    let b = sum_of xs ys zs q in let f = ap (λ (l : List Char). length l) e in
    rw eu (a, p, omega (arith, pending_few), omega arith)
piece_kept inner tag_at tag before (Inside children units scripts) size xs u next i k (inr (inr (ys, zs, c, (e, is), d, q))) =
    let b = sum_of xs ys zs q in
    kept_wider before u (size + length zs) (size + length xs) (omega arith) (markup_kept inner tag c.at before children units scripts size zs u next i k d)
piece_kept inner tag_at tag before (Ended children scripts) size xs u next i k absent = absurd absent

content_kept : (inner : Inner) (tag_at : ℕ) (tag : List ℕ) (before : List Slice) (m : ℕ) (c : Content) (size : ℕ) (xs : List Char) (v : Content) (next : Char) → InnerSized inner
    → Kept before c size → Turns content_goes (λ y ys u t. Derives (piece inner tag_at tag y) ys u t) m c xs v next → Kept before v (size + length xs)
content_kept inner tag_at tag before zero c size xs v next i k (e, ev, stops) =
    rw ev (kept_wider before c size (size + length xs) (omega arith) k)
content_kept inner tag_at tag before (suc m) c size xs v next i k (ys, zs, u, d, starts, more, q) =
    let a = sum_of xs ys zs q in
    kept_wider before v (size + length ys + length zs) (size + length xs) (omega arith)
    (content_kept inner tag_at tag before m u (size + length ys) zs v next i (piece_kept inner tag_at tag before c size ys u (first zs next) i k d) more)

-- ---- elements, behind their first letter

ended_sized : (tag_at : ℕ) (tag : List ℕ) (given : List Attribute) (before : List Slice) (c : Content) (size : ℕ) (xs : List Char) (f : Found) (next : Char) → Distinct (names given)
    → Kept before c size → Derives (ended tag_at tag given c) xs f next → Sized before f (1 + size)
ended_sized tag_at tag given before (Inside children units scripts) size xs f next once k absent = absurd absent
ended_sized tag_at tag given before (Ended children scripts) size xs f next once (p, short) (e, ef) =
    rw ef (record { placed = element_placed tag given children size once p; few = omega arith })

sized_wider : (before : List Slice) (f : Found) (a b : ℕ) → a ≤ b → Sized before f a → Sized before f b
sized_wider before f a b le s = let k = s.few in record { placed = wider (node_tree f.node) a b le s.placed; few = omega arith }

full_body_sized : (inner : Inner) (tag_at : ℕ) (tag : List ℕ) (started : Started) (before : List Slice) (xs : List Char) (f : Found) (next : Char) → InnerSized inner → Distinct (names started.attributes)
    → Derives (full_body inner tag_at tag started before) xs f next → Sized before f (1 + length xs)
full_body_sized inner tag_at tag started before xs f next i once (ys, zs, c, (m, turns), d, q) =
    let a = sum_of xs ys zs q in
    sized_wider before f (1 + (0 + length ys)) (1 + length xs) (omega arith)
    (ended_sized tag_at tag started.attributes before c (0 + length ys) zs f next once (content_kept inner tag_at tag before m (Inside [] [] before) 0 ys c (first zs next) i (0, none_placed, omega arith, omega arith) turns) d)

with_script_few : (tag : List ℕ) (scripts : List Slice) (start end : ℕ) → length (with_script tag scripts start end) ≤ length scripts + 1
with_script_few tag scripts start end = go (is_script tag)
  where
    go : (b : Bool) → length (cond b (scripts ++ record { start = start; end = end } ∷ []) scripts) ≤ length scripts + 1
    go true = simp length-append (omega arith)
    go false = omega arith

raw_body_sized : (tag_at : ℕ) (tag : List ℕ) (started : Started) (before : List Slice) (xs : List Char) (f : Found) (next : Char) → Distinct (names started.attributes)
    → Derives (raw_body tag_at tag started before) xs f next → Sized before f (1 + length xs)
raw_body_sized tag_at tag started before xs f next once (ys, zs, content, d, (e, ef), q) =
    let a = sum_of xs ys zs q in let some = raw_takes tag_at tag ys content (first zs next) d in
    let few = with_script_few tag before started.start content.end in let k = pending_few content.text in
    rw ef (record {
      placed = wider (node_tree (n.Element tag started.attributes (flushed [] content.text))) (1 + (0 + pending content.text)) (1 + length xs) (omega arith) (element_placed tag started.attributes (flushed [] content.text) (0 + pending content.text) once (flushed_placed [] content.text 0 none_placed));
      few = omega arith;
    })

body_sized : (inner : Inner) (tag_at : ℕ) (tag : List ℕ) (started : Started) (before : List Slice) (xs : List Char) (f : Found) (next : Char) → InnerSized inner → Distinct (names started.attributes)
    → Derives (body inner tag_at tag started before) xs f next → Sized before f (1 + length xs)
body_sized inner tag_at tag started before xs f next i once d = go (is_void tag) (is_raw tag) d
  where
    go : (b c : Bool) → Derives (cond b (void_body tag started before) (cond c (raw_body tag_at tag started before) (full_body inner tag_at tag started before))) xs f next → Sized before f (1 + length xs)
    go true c (e, ef) = rw ef (sized_wider before (found (n.Element tag started.attributes []) before) 1 (1 + length xs) (omega arith) (record { placed = element_placed tag started.attributes [] 0 once none_placed; few = omega arith }))
    go false true k = raw_body_sized tag_at tag started before xs f next once k
    go false false k = full_body_sized inner tag_at tag started before xs f next i once k

element_sized : (inner : Inner) (tag_at : ℕ) (before : List Slice) (letter : ℕ) (xs : List Char) (f : Found) (next : Char) → InnerSized inner
    → Derives (element inner tag_at before letter) xs f next → Sized before f (1 + length xs)
element_sized inner tag_at before letter xs f next i (ys, zs, tag, d, (vs, ws, started, d', d'', q'), q) =
    let a = sum_of xs ys zs q in let b = sum_of zs vs ws q' in
    sized_wider before f (1 + length ws) (1 + length xs) (omega arith)
    (body_sized inner tag_at tag started before ws f next i (start_tag_once tag_at tag vs started (first ws next) d') d'')

opened_sized : (room : ℕ) → InnerSized (opened room)
unfolding opened
opened_sized zero at scripts xs f next absent = absurd absent
opened_sized (suc room) at scripts xs f next (ys, zs, c, (e, h), d, q) =
    let a = sum_of xs ys zs q in let b = ap (λ (l : List Char). length l) e in
    sized_wider scripts f (1 + length zs) (length xs) (omega arith) (element_sized (opened room) at scripts c.code zs f next (opened_sized room) d)

-- ---- the page

-- the root's `<` and its first letter are among so many characters
abbrev Opened : Outside → ℕ → Type 0
Opened Seeking size = Unit {0}
Opened (Opening at letter) size = 1 ≤ size

opened_more : (o : Outside) (a b : ℕ) → a ≤ b → Opened o a → Opened o b
opened_more Seeking a b le h = tt
opened_more (Opening at letter) a b le h = omega arith

opened_some : (o : Outside) (a : ℕ) → 1 ≤ a → Opened o a
opened_some Seeking a h = tt
opened_some (Opening at letter) a h = h

front_opened : (xs : List Char) (o : Outside) (next : Char) → Derives front xs o next → Opened o (length xs)
front_opened xs o next (inl (ys, zs, c, (e, h), d, q)) =
    let a = sum_of xs ys zs q in let b = ap (λ (l : List Char). length l) e in opened_some o (length xs) (omega arith)
front_opened xs o next (inr (ys, zs, w, d, (e, eo), q)) = rw eo tt

turn_some : (x : Outside) (a : ℕ) (ys : List Char) → StartsWith (outside_goes x) ys → 1 ≤ a + length ys
turn_some x a [] h = absurd h
turn_some x a (y ∷ ys) h = omega arith

pads_opened : (m : ℕ) (x : Outside) (a : ℕ) (xs : List Char) (v : Outside) (next : Char) → Opened x a → Turns outside_goes (λ y ys u t. Derives (pad_before y) ys u t) m x xs v next → Opened v (a + length xs)
pads_opened zero x a xs v next h (e, ev, stops) = rw ev (opened_more x a (a + length xs) (omega arith) h)
pads_opened (suc m) x a xs v next h (ys, zs, u, d, starts, more, q) =
    let b = sum_of xs ys zs q in
    opened_more v (a + length ys + length zs) (a + length xs) (omega arith)
    (pads_opened m u (a + length ys) zs v next (opened_some u (a + length ys) (turn_some x a ys starts)) more)

root_sized : (room : ℕ) (o : Outside) (size : ℕ) (xs : List Char) (f : Found) (next : Char) → Opened o size → Derives (root room o) xs f next → Sized [] f (size + length xs)
root_sized room Seeking size xs f next h absent = absurd absent
root_sized room (Opening at letter) size xs f next h d =
    sized_wider [] f (1 + length xs) (size + length xs) (omega arith) (element_sized (opened room) at [] letter xs f next (opened_sized room) d)

last_takes : (xs : List Char) (v : Unit {0}) (next : Char) → Derives last xs v next → 1 ≤ length xs
last_takes xs v next (ys, zs, c, inl (e, h), d, q) = let a = sum_of xs ys zs q in let b = ap (λ (l : List Char). length l) e in omega arith
last_takes xs v next (ys, zs, c, inr absent, d, q) = absurd absent

-- A page has no more nodes and scripts than characters before its end, and no name twice in a tag.
pub page_sized : (room : ℕ) (xs : List Char) (f : Found) (next : Char) → Derives (page room) xs f next → (size : ℕ) × (size + 1 ≤ length xs) × Sized [] f size
page_sized room xs f next (ys, zs, start, d, (vs, ws, o, (m, turns), (rs, ss, g, d', (ps, qs, w, pads, (ls, es, w', end, (e, ef), q5), q4), q3), q2), q) =
    let a1 = sum_of xs ys zs q in let a2 = sum_of zs vs ws q2 in let a3 = sum_of ws rs ss q3 in let a4 = sum_of ss ps qs q4 in let a5 = sum_of qs ls es q5 in
    let some = last_takes ls w' (first es next) end in
    let opening = pads_opened m start (length ys) vs o (first ws next) (front_opened ys start (first zs next) d) turns in
    (length ys + length vs + length rs, omega arith, rw ef (root_sized room o (length ys + length vs) rs g (first ss next) opening d'))
