-- The words of the page form: rules over placed characters that give the faults of pages (this project's own page form).
use Rattle.std.specs.Prelude.{ℕ, Bool, cond, None}
use Rattle.grammar.specs.Grammar.{Rule, refused}
use Rattle.grammar.specs.Words as words
use Rattle.placed_chars.specs.declared.chars.Char.{Char}
use Rattle.placed_chars.specs.Chars.{is_end}
use Rattle.page_reader.specs.declared.fault.Fault.{Fault}
use Rattle.page_reader.specs.declared.fault.PageRule.{PageRule}
use Rattle.page_reader.specs.declared.fault.PageRule.TheVariants.{Unclosed}
use Rattle.page_reader.specs.Classes.{is_gt}

abbrev pub R : Type 0 → Type 1
R A = Rule Char Fault A

-- this rule is broken, at this byte
abbrev pub fault : PageRule → ℕ → Fault
fault rule at = record { rule = rule; at = at }

-- one character of a class
abbrev pub one : (ℕ → Bool) → R Char
one p = words.one (λ t. p t.code)

-- the next character is of a class, and is not read
abbrev pub next : (ℕ → Bool) → R (Unit {0})
next p = words.next (λ t. p t.code)

-- any character but these is this fault
abbrev pub other : {A : Type 0} → (ℕ → Bool) → (Char → Fault) → R A
other p f = words.other (λ t. p t.code) f

-- what is never read
abbrev pub never : {A : Type 0} → R A
never = refused (λ _. None)

-- a character that must stand here
abbrev pub need : (ℕ → Bool) → (Char → Fault) → R Char
need p f = words.need (λ t. p t.code) f

-- the same, where it is of no use which one it was
abbrev pub must : (ℕ → Bool) → (Char → Fault) → R (Unit {0})
must p f = words.must (λ t. p t.code) f

-- The page ends within what began at this byte; any other character is this fault.
abbrev pub cut_off : ℕ → Fault → Char → Fault
cut_off at f t = cond (is_end t.code) (fault Unclosed at) f

-- the `>` of what began at this byte and is else unclosed
abbrev pub closed : ℕ → R (Unit {0})
closed at = must is_gt (λ _. fault Unclosed at)
