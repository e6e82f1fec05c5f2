-- Words for writing rules: one after the other, a token of a class or else a fault, and one of two.
use Rattle.std.specs.Prelude.{Bool, not, cond, Option, Some, None}
use Rattle.grammar.specs.Grammar.{Rule, token, before, done, refused, then, or}
use Rattle.grammar.specs.Reading.{is_some}

-- the one, and behind it what its value says
infixl 10 ◌>>=◌
abbrev pub ◌>>=◌ : {T K A B : Type 0} → Rule T K A → (A → Rule T K B) → Rule T K B
a >>= f = then a f

-- the one, and behind it the other
infixl 10 ◌>>◌
abbrev pub ◌>>◌ : {T K A B : Type 0} → Rule T K A → Rule T K B → Rule T K B
a >> b = then a (λ _. b)

-- a token of a class
abbrev pub one : {T K : Type 0} → (T → Bool) → Rule T K T
one p = token p

-- The next token is of a class; it isn't read.
abbrev pub next : {T K : Type 0} → (T → Bool) → Rule T K (Unit {0})
next p = before p

-- any token but those of a class is this fault
abbrev pub other : {T K A : Type 0} → (T → Bool) → (T → K) → Rule T K A
other p f = refused (λ t. cond (p t) None (Some (f t)))

-- whatever comes next is this fault
abbrev pub refuse : {T K A : Type 0} → (T → K) → Rule T K A
refuse f = refused (λ t. Some (f t))

-- a token of a class must stand here, and any other is this fault
abbrev pub need : {T K : Type 0} → (T → Bool) → (T → K) → Rule T K T
need p f = or (one p) (other p f)

-- the same, where it is of no use which token it was
abbrev pub must : {T K : Type 0} → (T → Bool) → (T → K) → Rule T K (Unit {0})
must p f = need p f >> done tt

-- behind a token of the class the one, and where none stands the other
abbrev pub choice : {T K A : Type 0} → (T → Bool) → Rule T K A → Rule T K A → Rule T K A
choice p a b = or (one p >> a) (next (λ t. not (p t)) >> b)

-- The next token may be the fault of what stands before it; else nothing is read.
abbrev pub barred : {T K : Type 0} → (T → Option K) → Rule T K (Unit {0})
barred f = or (refused f) (next (λ t. not (is_some (f t))))
