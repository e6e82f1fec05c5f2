-- Words for writing the rules of scripts.
use Rattle.std.specs.Prelude.{ℕ, Bool, not, ◌&&◌, cond, Option, Some, None, nat_le, List}
use Rattle.grammar.specs.Grammar.{Rule, done, refused, or}
use Rattle.grammar.specs.Reading.{is_some}
use Rattle.grammar.specs.Words.{◌>>=◌, ◌>>◌, one}
use Rattle.js_lexer.specs.declared.token.Punct.{Punct}
use Rattle.js_lexer.specs.declared.token.Word.{Word}
use Rattle.js_nodes.specs.declared.fault.Fault.{Fault}
use Rattle.js_nodes.specs.declared.fault.Fault.TheVariants.{LeftOut, Nesting}
use Rattle.js_nodes.specs.Next.{Next, of, place, shows, says, is_name, is_left_out_name, text}

abbrev pub R : Type 0 → Type 1
R A = Rule Next Fault A

-- a token of a class, unless it shows a fault
unfoldable pub sound : (Next → Option Fault) → (Next → Bool) → R Next
sound flaw class = or (refused flaw) (one (λ t. class t && not (is_some (flaw t))))

-- the fault, where the token is of the class
abbrev pub where_of : (Next → Bool) → Option Fault → Next → Option Fault
where_of class flaw t = cond (class t) flaw None

-- a token of a class, unless what stands before it has this flaw, which the token then shows
unfoldable pub takes : (Next → Bool) → Option Fault → R Next
takes class flaw = sound (where_of class flaw) class

-- No level is left for the node that begins with this token, or that it requires.
abbrev pub too_deep : ℕ → (Next → Bool) → Next → Option Fault
too_deep room class t = cond (class t && nat_le room 1) (Some (Nesting (place t))) None

-- a token whose node, or whose parentheses, require a node one level deeper
unfoldable pub deeper : ℕ → (Next → Bool) → R Next
deeper room class = sound (too_deep room class) class

-- The punctuator stands here.
unfoldable pub sign : Punct → R (Unit {0})
sign p = one (shows p) >> done tt

-- The reserved word stands here.
unfoldable pub word : Word → R (Unit {0})
word w = one (says w) >> done tt

-- a form that is left out where an operand or a name stands
abbrev pub left_out : Next → Option Fault
left_out t = cond (of is_left_out_name t) (Some (LeftOut (place t))) None

-- Identifier (ECMA-262 5.1, 7.6)
unfoldable pub name : R (List ℕ)
name = do
  t ← sound left_out (of is_name)
  done (text t)
