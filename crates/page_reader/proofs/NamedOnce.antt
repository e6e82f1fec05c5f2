-- A start tag has no two attributes of one name.
use Rattle.std.proofs.Common.{◌≡◌, ℕ, zero, suc, Bool, true, false, cond, inl, inr, List, [], ◌∷◌, ◌++◌, map, refl, sym, ap, subst, ◌∙◌}
use Rattle.std.specs.Prelude.{◌&&◌, ◌||◌}
use Rattle.std.specs.Str.{bytes_eq}
use Rattle.std.proofs.lemmas.Slice.Eq.{bytes_eq-Decides}
use Rattle.cell_places.specs.Lists.{Among, Distinct}
use Rattle.grammar.specs.Grammar.{first, Turns, Derives}
use Rattle.grammar.specs.Words.{refuse}
use Rattle.placed_chars.specs.declared.chars.Char.{Char}
use Rattle.page_reader.specs.declared.fault.PageRule.TheVariants.{BadAttribute, TwiceNamed}
use Rattle.page_reader.specs.declared.node.Attribute.{Attribute}
use Rattle.page_reader.specs.declared.node.Started.{Started}
use Rattle.page_reader.specs.Rules.{fault}
use Rattle.page_reader.specs.Names.{is_script, is_src}
use Rattle.page_reader.specs.Attributes.{has_name, wrong, valued, named_so, attribute, Listed, Listing, listed, attributes_go, attributes_piece, attributes}
use Rattle.page_reader.specs.Tags.{start_tag}

abbrev pub names : List Attribute → List (List ℕ)
names given = map (λ (a : Attribute). a.name) given

-- What stands among the names is had.
among_had : (given : List Attribute) (name : List ℕ) → Among name (names given) → has_name given name ≡ true
among_had [] name h = absurd h
among_had (a ∷ more) name (inl e) = rw ((bytes_eq-Decides a.name name).1 e) refl
among_had (a ∷ more) name (inr h) = or_right (bytes_eq a.name name) (has_name more name) (among_had more name h)
  where
    or_right : (a b : Bool) → b ≡ true → (a || b) ≡ true
    or_right true b e = refl
    or_right false b e = e

-- ---- a list with one more item

among_pushed : {X : Type 0} (x y : X) (xs : List X) → Among x (xs ++ y ∷ []) → (Among x xs → ⊥) → y ≡ x
among_pushed x y [] (inl e) not = e
among_pushed x y [] (inr h) not = absurd h
among_pushed x y (z ∷ zs) (inl e) not = absurd (not (inl e))
among_pushed x y (z ∷ zs) (inr h) not = among_pushed x y zs h (λ k. not (inr k))

distinct_pushed : {X : Type 0} (xs : List X) (y : X) → Distinct xs → (Among y xs → ⊥) → Distinct (xs ++ y ∷ [])
distinct_pushed [] y d not = (λ h. h, tt)
distinct_pushed (x ∷ xs) y (fresh, d) not = (λ h. not (inl (sym (among_pushed x y xs h fresh))), distinct_pushed xs y d (λ k. not (inr k)))

names_pushed : (given : List Attribute) (a : Attribute) → names (given ++ a ∷ []) ≡ names given ++ a.name ∷ []
names_pushed [] a = refl
names_pushed (b ∷ more) a = ap (λ (l : List (List ℕ)). b.name ∷ l) (names_pushed more a)

-- ---- one attribute

-- it has a name that none before it has
named_fresh : (tag_at : ℕ) (tag : List ℕ) (earlier : List Attribute) (at : ℕ) (name : List ℕ) (xs : List Char) (a : Attribute) (next : Char) → Derives (named_so tag_at tag earlier at name) xs a next → has_name earlier a.name ≡ false
named_fresh tag_at tag earlier at name xs a next d = go (is_script tag && is_src name) (has_name earlier name) refl d
  where
    go : (b c : Bool) → has_name earlier name ≡ c → Derives (cond b (refuse (wrong tag_at tag (fault BadAttribute at))) (cond c (refuse (wrong tag_at tag (fault TwiceNamed at))) (valued tag_at at name))) xs a next → has_name earlier a.name ≡ false
    go true c e absent = absurd absent
    go false true e absent = absurd absent
    go false false e (ys, zs, value, d, (e', ea), q) = rw ea e

attribute_fresh : (tag_at : ℕ) (tag : List ℕ) (earlier : List Attribute) (at letter : ℕ) (xs : List Char) (a : Attribute) (next : Char) → Derives (attribute tag_at tag earlier at letter) xs a next → has_name earlier a.name ≡ false
unfolding attribute
attribute_fresh tag_at tag earlier at letter xs a next (ys, zs, name, d, d', q) = named_fresh tag_at tag earlier at name zs a next d'

-- ---- all of a tag

abbrev Once : Listed → Type 0
Once (Listing earlier spaced) = Distinct (names earlier)

piece_once : (tag_at : ℕ) (tag : List ℕ) (l u : Listed) (xs : List Char) (next : Char) → Once l → Derives (attributes_piece tag_at tag l) xs u next → Once u
piece_once tag_at tag (Listing earlier spaced) u xs next h (inl (ys, zs, c, d, (e, eu), q)) = rw eu h
piece_once tag_at tag (Listing earlier spaced) u xs next h (inr (ys, zs, c, d, (vs, ws, a, d', (e, eu), q'), q)) =
    let fresh = attribute_fresh tag_at tag earlier c.at c.code vs a (first ws next) d' in
    rw eu (subst (λ (l : List (List ℕ)). Distinct l) (sym (names_pushed earlier a)) (distinct_pushed (names earlier) a.name h (λ k. let had = among_had earlier a.name k in absurd (let no = sym had ∙ fresh in cc))))

pieces_once : (tag_at : ℕ) (tag : List ℕ) (m : ℕ) (l v : Listed) (xs : List Char) (next : Char) → Once l → Turns attributes_go (λ y ys u t. Derives (attributes_piece tag_at tag y) ys u t) m l xs v next → Once v
pieces_once tag_at tag zero l v xs next h (e, ev, stops) = rw ev h
pieces_once tag_at tag (suc m) l v xs next h (ys, zs, u, d, starts, more, q) = pieces_once tag_at tag m u v zs next (piece_once tag_at tag l u ys (first zs next) h d) more

listed_once : (l : Listed) → Once l → Distinct (names (listed l))
listed_once (Listing earlier spaced) h = h

attributes_once : (tag_at : ℕ) (tag : List ℕ) (xs : List Char) (given : List Attribute) (next : Char) → Derives (attributes tag_at tag) xs given next → Distinct (names given)
unfolding attributes
attributes_once tag_at tag xs given next (ys, zs, l, (m, turns), (e, eg), q) = rw eg (listed_once l (pieces_once tag_at tag m (Listing [] false) l ys (first zs next) tt turns))

pub start_tag_once : (tag_at : ℕ) (tag : List ℕ) (xs : List Char) (started : Started) (next : Char) → Derives (start_tag tag_at tag) xs started next → Distinct (names started.attributes)
unfolding start_tag
start_tag_once tag_at tag xs started next (ys, zs, w, d, (vs, ws, given, d', (ps, qs, start, d'', (e, es), q3), q2), q) = rw es (attributes_once tag_at tag vs given (first ws next) d')
