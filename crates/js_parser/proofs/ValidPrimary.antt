-- Primary expressions are valid (ECMA-262 5.1, 11.1).
use Rattle.std.proofs.Common.{◌≡◌, ℕ, suc, ◌≤◌, Bool, true, false, cond, List, [], ◌∷◌, ◌++◌, length, map, Option, Some, None, refl, subst, sym, arith}
use Rattle.std.specs.Prelude.{All, ◌||◌, ◌&&◌, nat_le, bytes_eq}
use Rattle.std.proofs.lemmas.List.{map-append}
use Rattle.std.proofs.lemmas.List.Elements.{All-nil, All-push, All-weaker}
use Rattle.grammar.specs.Giving.{Gives}
use Rattle.grammar.proofs.Giving.{kept}
use Rattle.js_lexer.specs.declared.token.Kind.{Kind}
use Rattle.js_lexer.specs.declared.token.Kind.TheVariants as k
use Rattle.js_lexer.specs.declared.token.Punct.TheVariants as p
use Rattle.js_lexer.specs.declared.token.Word.TheVariants as w
use Rattle.js_lexer.specs.Tokens.{IsNumeral}
use Rattle.js_tree.specs.declared.code.FnCode.{FnCode}
use Rattle.js_tree.specs.declared.expr.Expr.{Expr, out-Expr}
use Rattle.js_tree.specs.declared.expr.Expr.TheVariants as e
use Rattle.js_tree.specs.declared.expr.Entry.{Entry}
use Rattle.js_tree.specs.Valid.{AreDistinct, ExprNode, ValidExpr}
use Rattle.js_nodes.specs.declared.fault.Fault.{Fault}
use Rattle.js_nodes.specs.declared.context.Closer.TheVariants as c
use Rattle.js_nodes.specs.declared.context.Context.{Context}
use Rattle.js_nodes.specs.declared.operand.Operand.{Operand}
use Rattle.js_nodes.specs.declared.operand.Row.{Row}
use Rattle.js_nodes.specs.declared.operand.Entries.{Entries}
use Rattle.js_nodes.specs.Next.{Next, of, place, shows, is_key, text}
use Rattle.js_nodes.specs.Operands.{nothing, both, raised, operand, leaf, row, row_more, context}
use Rattle.js_parser.specs.Levels.{Level}
use Rattle.js_nodes.specs.Pieces.{has}
use Rattle.js_parser.specs.Functions.{function_code}
use Rattle.js_parser.specs.Primary.{item, list_more, list_items, list, entry, object_more, object_entries, object, function, parens, primary_kind, primary_by, primary}
use Rattle.js_nodes.specs.Pieces.{entries, has_key}
use Rattle.js_cursor.specs.Questions.{key_flaw}
use Rattle.js_parser.proofs.ValidMore.{expr_more}
use Rattle.js_parser.proofs.ValidCodes.{Ready, Adds, adds_length, adds_none, adds_both}
use Rattle.js_parser.proofs.ValidFits.{Fine, Has, use_of, let_through, height_raised, left_height, right_height, both_height, FitsExpr, wider, node_fits, FitsRow, no_row, row_fits}
use Rattle.js_parser.proofs.ValidLevels.{Valid}
use Rattle.js_parser.proofs.ValidFunctions.{distinct_push, code_fits}
use Rattle.js_cursor.specs.Words as words

-- ---- keys

-- A key that no entry has is none of the keys.
keys_apart : (es : List Entry) (n : List ℕ) → has_key es n ≡ false → has (map (λ (x : Entry). x.key) es) n ≡ false
keys_apart [] n h = refl
keys_apart (x ∷ es) n h = go (bytes_eq x.key n) (has_key es n) (has (map (λ (y : Entry). y.key) es) n) (keys_apart es n) h
  where
    go : (a b d : Bool) → (b ≡ false → d ≡ false) → (a || b) ≡ false → (a || d) ≡ false
    go true b d k e = cc
    go false b d k e = k e

-- A key that shows no fault is new.
key_left : (a b d : Bool) (f g : Fault) → a ≡ true → cond (a && b) (Some f) (cond (a && d) (Some g) None) ≡ None → b ≡ false
key_left true true d f g e h = cc
key_left true false d f g e h = refl
key_left false b d f g e h = cc

-- ---- entries

pub record FitsEntries (room : ℕ) (cs : List FnCode) (o : Entries) : Type 0 where
  pub adds : Adds cs o.codes
  pub height : o.depth.height ≤ room
  pub keys : AreDistinct (map (λ (x : Entry). x.key) o.entries)
  pub valid : All (λ (x : Entry). ValidExpr o.depth.height (length o.codes) x.value) o.entries

-- Entries begin with nothing.
no_entries : (room : ℕ) (cs : List FnCode) → Ready cs → FitsEntries room cs (entries [] cs nothing)
no_entries room cs h = record { adds = adds_none cs h; height = omega arith; keys = tt; valid = All-nil (λ (x : Entry). ValidExpr 0 (length cs) x.value) }

-- Entries are valid with more levels and codes.
entries_more : (g h n m : ℕ) (es : List Entry) → g ≤ h → n ≤ m → All (λ (x : Entry). ValidExpr g n x.value) es → All (λ (x : Entry). ValidExpr h m x.value) es
entries_more g h n m es l k all = All-weaker (λ (x : Entry). ValidExpr g n x.value) (λ (x : Entry). ValidExpr h m x.value) (λ x v. expr_more g h n m x.value l k v) es all

-- Entries fit with one more, whose key is new.
entries_fit : (room : ℕ) (cs : List FnCode) (o : Entries) (key : List ℕ) (x : Operand) → FitsEntries room cs o → has_key o.entries key ≡ false → FitsExpr room o.codes x → FitsEntries room cs (entries (o.entries ++ record { key = key; value = x.value } ∷ []) x.codes (both o.depth x.depth))
entries_fit room cs o key x f e k =
    let h = (both o.depth x.depth).height in
    record {
      adds = adds_both f.adds k.adds;
      height = both_height o.depth x.depth room f.height k.height;
      keys = subst AreDistinct (sym (map-append (λ (y : Entry). y.key) o.entries (record { key = key; value = x.value } ∷ []))) (distinct_push (map (λ (y : Entry). y.key) o.entries) key f.keys (keys_apart o.entries key e));
      valid = All-push (λ (y : Entry). ValidExpr h (length x.codes) y.value) o.entries (record { key = key; value = x.value })
          (entries_more o.depth.height h (length o.codes) (length x.codes) o.entries (left_height o.depth x.depth) (adds_length k.adds) f.valid)
          (wider k h x.codes (right_height o.depth x.depth) (adds_none x.codes k.adds.ready));
    }

module _ (room : ℕ) (below : Level) (known : Valid room below) where
  -- ---- lists and objects

  pub item_fits : (x : Context) (cs : List FnCode) (r : Row) → FitsRow room cs r → (t : Next) → Gives Fine (item below x r) t (λ v _. FitsRow room cs v)
  unfolding item
  item_fits x cs r f t = use_of (known.assign x r.codes f.adds.ready) t _ (λ y s k. row_fits f k)

  list_items_fit : (cs : List FnCode) → Ready cs → Has (list_items below cs) (FitsRow room cs)
  unfolding list_items item list_more words.sign
  list_items_fit cs h = record {
    at = λ t. use_of (known.assign (context c.Bracket) cs h) t _ (λ y s k.
        kept Fine (λ _ u. shows p.Comma u) (list_more below) (row_more (row [] cs nothing) y) s _ (FitsRow room cs) (row_fits (no_row room cs h) k)
        (λ r u f. λ _ _ v. (λ _. f, λ _. item_fits (context c.Bracket) cs r f v))
        (λ r u f. λ _ _ _. f));
  }

  list_fits : (cs : List FnCode) → Ready cs → Has (list below cs) (FitsRow room cs)
  unfolding list words.sign
  list_fits cs h = record { at = λ t. (λ _ _ _. no_row room cs h, λ _. (list_items_fit cs h).at t) }

  entry_fits : (cs : List FnCode) (o : Entries) → FitsEntries room cs o → Has (entry (suc room) below o) (FitsEntries room cs)
  unfolding entry words.sound
  entry_fits cs o f = record {
    at = λ t. (
      tt,
      λ _ e s. (
        tt,
        λ _ _ u. use_of (known.assign (context c.Brace) o.codes f.adds.ready) u _ (λ x r k.
            let l = let_through (of is_key t) (key_flaw (suc room) o.entries t) e in
            entries_fit room cs o (text t) x f (key_left (of is_key t) (has_key o.entries (text t)) (nat_le (suc room) 1) _ _ l.0 l.1) k),
      ),
    );
  }

  object_entries_fit : (cs : List FnCode) → Ready cs → Has (object_entries (suc room) below cs) (FitsEntries room cs)
  unfolding object_entries object_more words.sign
  object_entries_fit cs h = record {
    at = λ t. use_of (entry_fits cs (entries [] cs nothing) (no_entries room cs h)) t _ (λ o s k.
        kept Fine (λ _ u. shows p.Comma u) (object_more (suc room) below) o s _ (FitsEntries room cs) k
        (λ o u f. λ _ _ v. (λ _. f, λ _. (entry_fits cs o f).at v))
        (λ o u f. λ _ _ _. f));
  }

  object_fits : (cs : List FnCode) → Ready cs → Has (object (suc room) below cs) (FitsEntries room cs)
  unfolding object words.sign
  object_fits cs h = record { at = λ t. (λ _ _ _. no_entries room cs h, λ _. (object_entries_fit cs h).at t) }

  -- ---- the others

  function_named : (cs : List FnCode) (t : Next) (n : Option (List ℕ)) (s : Next) → Ready cs → Gives Fine (function_code below n cs) s (λ all _. FitsExpr (suc room) cs (operand (e.Fun (length cs)) all.codes (place t) (raised (place t) all.depth)))
  function_named cs t n s h = use_of (code_fits room below known n cs h) s _ (λ all r k.
      node_fits (suc room) cs all.codes (e.Fun (length cs)) (place t) all.depth k.adds (omega (arith, k.height)) (rw (e.outs-Fun (length cs)) k.fits))

  function_fits : (cs : List FnCode) (t : Next) → Ready cs → Has (function below cs t) (FitsExpr (suc room) cs)
  unfolding function words.name words.sound
  function_fits cs t h = record { at = λ s. (λ _. (tt, λ _ _ u. function_named cs t _ u h), λ _. function_named cs t None s h) }

  parens_fit : (cs : List FnCode) (t : Next) → Ready cs → Has (parens below cs t) (FitsExpr (suc room) cs)
  unfolding parens words.sign
  parens_fit cs t h = record {
    at = λ s. use_of (known.expr (context c.Paren) cs h) s _ (λ x u k. λ _ _ _.
        record {
          adds = k.adds;
          height = omega (arith, k.height, height_raised (place t) x.depth);
          valid = wider k (raised (place t) x.depth).height x.codes (omega (arith, height_raised (place t) x.depth)) (adds_none x.codes k.adds.ready);
        });
  }

  -- a node without parts
  pub leaf_fits : (cs : List FnCode) (t : Next) (value : Expr) → Ready cs → ExprNode (length cs) (ValidExpr 0 (length cs)) (out-Expr value) → FitsExpr (suc room) cs (leaf value cs t)
  leaf_fits cs t value h v = node_fits (suc room) cs cs value (place t) nothing (adds_none cs h) (omega arith) v

  primary_kind_fits : (cs : List FnCode) (t : Next) (kind : Kind) → Ready cs → IsNumeral kind → Has (primary_kind (suc room) below cs t kind) (FitsExpr (suc room) cs)
  unfolding primary_kind
  primary_kind_fits cs t (k.Name n) h q = record { at = λ s. leaf_fits cs t (e.Name n) h (rw (e.outs-Name n) tt) }
  primary_kind_fits cs t (k.Num z) h q = record { at = λ s. leaf_fits cs t (e.Num z) h (rw (e.outs-Num z) q.1) }
  primary_kind_fits cs t (k.Str a) h q = record { at = λ s. leaf_fits cs t (e.Str a) h (rw (e.outs-Str a) tt) }
  primary_kind_fits cs t (k.Word w.This) h q = record { at = λ s. leaf_fits cs t e.This h (rw e.outs-This tt) }
  primary_kind_fits cs t (k.Word w.True) h q = record { at = λ s. leaf_fits cs t (e.Bool true) h (rw (e.outs-Bool true) tt) }
  primary_kind_fits cs t (k.Word w.False) h q = record { at = λ s. leaf_fits cs t (e.Bool false) h (rw (e.outs-Bool false) tt) }
  primary_kind_fits cs t (k.Word w.Null) h q = record { at = λ s. leaf_fits cs t e.Null h (rw e.outs-Null tt) }
  primary_kind_fits cs t (k.Word w.Function) h q = function_fits cs t h
  primary_kind_fits cs t (k.Punct p.LeftParen) h q = parens_fit cs t h
  primary_kind_fits cs t (k.Punct p.LeftBracket) h q = record {
    at = λ s. use_of (list_fits cs h) s _ (λ r u f.
        node_fits (suc room) cs r.codes (e.Array r.values) (place t) r.depth f.adds (omega (arith, f.height)) (rw (e.outs-Array r.values) f.valid));
  }
  primary_kind_fits cs t (k.Punct p.LeftBrace) h q = record {
    at = λ s. use_of (object_fits cs h) s _ (λ o u f.
        node_fits (suc room) cs o.codes (e.Table o.entries) (place t) o.depth f.adds (omega (arith, f.height)) (rw (e.outs-Table o.entries) (f.keys, f.valid)));
  }
  primary_kind_fits cs t _ h q = record { at = λ s. tt }

  primary_by_fits : (cs : List FnCode) (t : Next) → Ready cs → Fine t → Has (primary_by (suc room) below cs t) (FitsExpr (suc room) cs)
  unfolding primary_by
  primary_by_fits cs None h q = record { at = λ s. tt }
  primary_by_fits cs (Some t) h q = primary_kind_fits cs (Some t) t.kind h q

  pub primary_fits : (cs : List FnCode) → Ready cs → Has (primary (suc room) below cs) (FitsExpr (suc room) cs)
  unfolding primary primary_by words.sound
  primary_fits cs h = record { at = λ t. (tt, λ q _ s. (primary_by_fits cs t h q).at s) }
