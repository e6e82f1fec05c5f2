-- The whole page: a doctype, pads and one element (this project's own page form).
use Prim.Native.Char.{code}
use Rattle.std.specs.Prelude.{ℕ, Bool, true, false, not, ◌||◌, cond, List, [], ◌∷◌, codes}
use Rattle.grammar.specs.Grammar.{done, or, again}
use Rattle.grammar.specs.Words.{◌>>=◌, ◌>>◌, refuse}
use Rattle.placed_chars.specs.declared.chars.Char.{Char}
use Rattle.placed_chars.specs.Chars.{is_end}
use Rattle.page_reader.specs.declared.fault.Fault.{Fault}
use Rattle.page_reader.specs.declared.fault.PageRule.TheVariants.{BadTag, RootCount}
use Rattle.page_reader.specs.declared.outside.Outside.{Outside}
use Rattle.page_reader.specs.declared.outside.Outside.TheVariants.{Seeking, Opening}
use Rattle.page_reader.specs.Classes.{is_last, is_white, is_letter, is_any_case, is_lt, is_slash, is_bang}
use Rattle.page_reader.specs.Rules.{R, fault, one, next, other, never, must, cut_off}
use Rattle.page_reader.specs.Comments.{comment}
use Rattle.page_reader.specs.Content.{Found, element, opened}

-- ---- before the root

-- A doctype that is cut off leaves the page without a root; any other character begins no tag or comment.
abbrev pub no_doctype : ℕ → Char → Fault
no_doctype at t = cond (is_end t.code) (fault RootCount t.at) (fault BadTag at)

-- these characters in any case
abbrev pub word : ℕ → List ℕ → R (Unit {0})
word at [] = done tt
word at (c ∷ cs) = must (is_any_case c) (no_doctype at) >> word at cs

-- Doctype = <!DOCTYPE html>, in any case | Comment   behind the `<!` at the front of the page
abbrev pub front_bang : ℕ → R (Unit {0})
front_bang at = or
    (one (is_any_case (code "d")) >> word at (codes "octype html>"))
    (next (λ x. not (is_any_case (code "d") x)) >> comment at)

-- a comment, or at the front also the doctype
abbrev pub bang : Bool → ℕ → R (Unit {0})
bang is_front at = cond is_front (front_bang at) (comment at)

-- what is no start tag and no comment before the root; an end tag is outside it
abbrev pub cut_off_outside : ℕ → Char → Fault
cut_off_outside at t = cut_off at (cond (is_slash t.code) (fault RootCount at) (fault BadTag at)) t

-- what stands behind a `<` before the root
abbrev pub before_root : Bool → ℕ → R Outside
before_root is_front at = or
    (one is_bang >> bang is_front at >> done Seeking)
    (or
    (do
      t ← one is_letter
      done (Opening at t.code))
    (other (λ x. is_bang x || is_letter x) (cut_off_outside at)))

abbrev pub is_pad : ℕ → Bool
is_pad x = is_white x || is_lt x

abbrev pub outside_goes : Outside → Char → Bool
outside_goes Seeking t = is_pad t.code
outside_goes (Opening at letter) t = false

-- white space, a comment, or the root's first letter
abbrev pub pad_before : Outside → R Outside
pad_before Seeking = or
    (one is_white >> done Seeking)
    (do
      t ← one is_lt
      before_root false t.at)
pad_before (Opening at letter) = never

-- what the page begins with, where that is a `<`
abbrev pub front : R Outside
front = or
    (do
      t ← one is_lt
      before_root true t.at)
    (next (λ x. not (is_lt x)) >> done Seeking)

-- ---- the root and what stands behind it

abbrev pub root : ℕ → Outside → R Found
root room Seeking = refuse (λ t. fault RootCount t.at)
root room (Opening at letter) = element (opened room) at [] letter

-- what stands behind a `<` behind the root
abbrev pub behind_root : ℕ → R (Unit {0})
behind_root at = or
    (one is_bang >> comment at)
    (other is_bang (λ t. cut_off at (cond (is_slash t.code || is_letter t.code) (fault RootCount at) (fault BadTag at)) t))

abbrev pub pad_goes : Unit {0} → Char → Bool
pad_goes _ t = is_pad t.code

-- white space or a comment
abbrev pub pad_behind : Unit {0} → R (Unit {0})
pad_behind _ = or
    (one is_white >> done tt)
    (do
      t ← one is_lt
      behind_root t.at)

-- the end of the page
abbrev pub last : R (Unit {0})
last = must is_last (λ t. fault RootCount t.at)

-- Page = [Doctype] {white | Comment} Element {white | Comment}   and the end, with so many levels below the root
abbrev pub page : ℕ → R Found
page room = do
  start ← front
  outside ← again outside_goes pad_before start
  found ← root room outside
  again pad_goes pad_behind tt
  last
  done found
