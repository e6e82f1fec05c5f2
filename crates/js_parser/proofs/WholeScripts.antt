-- The whole of a script: what is read is its program, and what is refused is its fault.
use Rattle.std.proofs.Common.{◌≡◌, ℕ, List, [], ◌∷◌, ◌++◌, ◌⊎◌, inl, inr, map, Option, Some, None, refl, sym, ap, subst, ◌∙◌}
use Rattle.std.specs.Prelude.{Result, Ok, Err, IfOk}
use Rattle.grammar.specs.Exactly.{Says, Exactly}
use Rattle.grammar.specs.Grammar.{first}
use Rattle.grammar.specs.Reading.{Outcome, Got, Bad, read}
use Rattle.grammar.proofs.Exactly.{says_more, exactly}
use Rattle.grammar.proofs.OneFault.{one_fault}
use Rattle.grammar.proofs.Sound.{Sound, sound}
use Rattle.grammar.proofs.Reader.{all_read, at_fault, only}
use Rattle.js_lexer.specs.declared.fault.LexFault.{LexFault}
use Rattle.js_lexer.specs.declared.fault.LexFault.TheVariants as l
use Rattle.js_lexer.specs.declared.token.Token.{Token}
use Rattle.js_lexer.specs.Tokens.{AreTokens, LexesAs}
use Rattle.js_lexer.specs.Tokens as lexed
use Rattle.js_lexer.proofs.Numerals.{numerals}
use Rattle.js_lexer.proofs.Whole.{one_list, no_lex_fault, one_lex_fault}
use Rattle.js_tree.specs.declared.code.Program.{Program}
use Rattle.js_tree.specs.Valid.{IsValid}
use Rattle.js_nodes.specs.declared.fault.Fault.{Fault}
use Rattle.js_nodes.specs.declared.fault.Fault.TheVariants as f
use Rattle.js_nodes.specs.declared.fault.ParseError.{ParseError}
use Rattle.js_parser.specs.declared.fault.ScriptFault.{ScriptFault}
use Rattle.js_parser.specs.declared.fault.ScriptFault.TheVariants.{Lex, Syntax, Nesting, LeftOut, NoMemory}
use Rattle.js_nodes.specs.Next.{Next}
use Rattle.js_cursor.specs.Reads.{Reads, Unfits}
use Rattle.js_parser.specs.Faults as faults
use Rattle.js_parser.specs.Sources.{program}
use Rattle.js_parser.specs.Scripts.{IsProgram, shown, ParseFaultAt, TokensFaultAt, IsScript, ParsesAs, ScriptFaultAt, report}
use Rattle.js_parser.proofs.DecidedSources.{program_decided}
use Rattle.js_parser.proofs.ValidSources.{program_valid}

-- ---- what is said of results

-- A fault that is shown is one that a refusal may report.
reported_fault : (Is : Program → Type 0) (Shows : ScriptFault → Type 0) (fault : ScriptFault) → Shows fault → Says Is Shows (report (Err fault))
reported_fault Is Shows (Lex at) h = h
reported_fault Is Shows (Syntax at) h = h
reported_fault Is Shows (Nesting at) h = h
reported_fault Is Shows (LeftOut at) h = h
reported_fault Is Shows NoMemory h = tt

-- ---- tokens

-- Only behind the last token is the end.
last_behind : (tokens : List Token) (xs rest : List Next) → map Some tokens ≡ xs ++ rest → first rest None ≡ None → rest ≡ []
last_behind tokens xs [] e h = refl
last_behind [] [] (t ∷ rest) e h = cc
last_behind [] (x ∷ xs) (t ∷ rest) e h = cc
last_behind (u ∷ tokens) [] (t ∷ rest) e h = cc
last_behind (u ∷ tokens) (x ∷ xs) (t ∷ rest) e h = let tails : map Some tokens ≡ xs ++ t ∷ rest = cc in last_behind tokens xs (t ∷ rest) tails h

-- Why a rule reads nothing says what is read.
bad_of : (k : Option Fault) (e : ParseError) (o : Outcome Next Fault Program) (new : List Next) → Unfits k e → Reads o (Err e) new → o ≡ Bad k new
bad_of None e o new u h = subst (λ (x : ParseError). Reads o (Err x) new) u h
bad_of (Some g) e o new u h = subst (λ (x : ParseError). Reads o (Err x) new) u h

module _ (end : ℕ) (tokens : List Token) where
  -- What is read to the end of the tokens is their program.
  pub tokens_found : (p : Program) (ts new : List Next) → ts ≡ map Some tokens → read None program ts ≡ Got p new → first new None ≡ None → IsProgram tokens p
  tokens_found p ts new same e over = all_read Fault None program (map Some tokens) p new program_decided at_tokens (at_end (subst (λ (o : Outcome Next Fault Program). Sound Fault None program (map Some tokens) o) at_tokens (sound Fault None program (map Some tokens) program_decided)))
    where
      at_tokens : read None program (map Some tokens) ≡ Got p new
      at_tokens = subst (λ (x : List Next). read None program x ≡ Got p new) same e

      at_end : Sound Fault None program (map Some tokens) (Got p new) → new ≡ []
      at_end (xs, q, d) = last_behind tokens xs new q over

  -- What is read as a fault shows it.
  pub tokens_shown : (k : Option Fault) (e : ParseError) (ts new : List Next) (g : Fault) (fault : ScriptFault) → ts ≡ map Some tokens → Unfits k e → Reads (read None program ts) (Err e) new → g ≡ shown end k (first new None) → fault ≡ faults.of g → Says (IsProgram tokens) (TokensFaultAt end tokens) (report (Err fault))
  tokens_shown k e ts new g fault same u h s o =
      let bad = subst (λ (x : List Next). read None program x ≡ Bad k new) same (bad_of k e (read None program ts) new u h) in
      reported_fault (IsProgram tokens) (TokensFaultAt end tokens) fault (g, o, (k, new, at_fault Fault None program (map Some tokens) k new program_decided bad, s))

  -- Tokens are at most one program.
  one_program : (p q : Program) → IsProgram tokens p → IsProgram tokens q → p ≡ q
  one_program p q h h' = let c = sym (only Fault None program (map Some tokens) p program_decided h) ∙ only Fault None program (map Some tokens) q program_decided h' in cc

  -- A program shows no fault.
  no_fault : (p : Program) (g : Fault) → IsProgram tokens p → ParseFaultAt end tokens g → ⊥
  no_fault p g h (k, rest, (front, e, hopes, s, b, none), o) = none p h

  -- Tokens show at most one fault.
  one_shown : (g g' : Fault) → ParseFaultAt end tokens g → ParseFaultAt end tokens g' → g ≡ g'
  one_shown g g' (k, rest, h, o) (k', rest', h', o') =
      let same = one_fault Fault None program (map Some tokens) k k' rest rest' program_decided h h' in
      o ∙ ap (λ (x : Option Fault). shown end x (first rest None)) same.0 ∙ ap (λ (x : List Next). shown end k' (first x None)) same.1 ∙ sym o'

-- ---- characters

module _ (end : ℕ) (cs : List ℕ) where
  -- ---- what is found

  -- What the tokens are found to be is what the script is.
  pub found_parsed : (given tokens : List Token) (res : Result Program ScriptFault) → AreTokens cs given → tokens ≡ given → Says (IsProgram tokens) (TokensFaultAt end tokens) (report res) → Says (IsScript cs) (ScriptFaultAt end cs) (report res)
  found_parsed given tokens res are_given same h = says_more (IsProgram tokens) (TokensFaultAt end tokens) (IsScript cs) (ScriptFaultAt end cs) (λ p is. (tokens, are, is)) shows (report res) h
    where
      are : AreTokens cs tokens
      are = subst (λ (x : List Token). AreTokens cs x) (sym same) are_given

      at_shown : (g : Fault) → ParseFaultAt end tokens g → ScriptFaultAt end cs (faults.of g)
      at_shown (f.Syntax at) k = (tokens, are, k)
      at_shown (f.Nesting at) k = (tokens, are, k)
      at_shown (f.LeftOut at) k = (tokens, are, k)

      shows : (fault : ScriptFault) → TokensFaultAt end tokens fault → ScriptFaultAt end cs fault
      shows fault (g, o, k) = subst (λ (x : ScriptFault). ScriptFaultAt end cs x) (sym o) (at_shown g k)

  -- What is wrong with the tokens' own form is wrong with the script.
  pub found_lexed : (fault : LexFault) (told : ScriptFault) → told ≡ faults.of_lexer fault → Says (AreTokens cs) (LexesAs cs) (lexed.report (Err fault)) → Says (IsScript cs) (ScriptFaultAt end cs) (report (Err told))
  found_lexed fault told o h = subst (λ (x : ScriptFault). Says (IsScript cs) (ScriptFaultAt end cs) (report (Err x))) (sym o) (go fault h)
    where
      go : (fault : LexFault) → Says (AreTokens cs) (LexesAs cs) (lexed.report (Err fault)) → Says (IsScript cs) (ScriptFaultAt end cs) (report (Err (faults.of_lexer fault)))
      go l.NoMemory h = tt
      go (l.BadChar at) h = h
      go (l.UnclosedText at) h = h
      go (l.UnclosedComment at) h = h
      go (l.BadNumber at) h = h
      go (l.BigNumber at) h = h
      go (l.LeftOut at) h = h

  -- ---- that nothing else can be found

  -- A script's fault is of its tokens' form, or they show it.
  abbrev Kinds : ScriptFault → Type 0
  Kinds fault = ((g : LexFault) × (fault ≡ Lex g) × LexesAs cs g) ⊎ ((g : Fault) × (fault ≡ faults.of g) × ParsesAs end cs g)

  kinds : (fault : ScriptFault) → ScriptFaultAt end cs fault → Kinds fault
  kinds (Lex g) h = inl (g, refl, h)
  kinds (Syntax at) h = inr (f.Syntax at, refl, h)
  kinds (Nesting at) h = inr (f.Nesting at, refl, h)
  kinds (LeftOut at) h = inr (f.LeftOut at, refl, h)
  kinds NoMemory h = absurd h

  -- A script with a program shows no fault.
  pub script_or_fault : (p : Program) (fault : ScriptFault) → IsScript cs p → ScriptFaultAt end cs fault → ⊥
  script_or_fault p fault (ts, are, is) h =
      elim (kinds fault h) [
        | inl (g, o, k) ↦ no_lex_fault cs ts g are k
        | inr (g, o, (us, are', k)) ↦ no_fault end ts p g is (subst (λ (x : List Token). ParseFaultAt end x g) (one_list cs us ts are' are) k)
      ]

  -- A script has at most one program.
  pub one_script : (p q : Program) → IsScript cs p → IsScript cs q → p ≡ q
  one_script p q (ts, are, is) (us, are', is') = one_program end ts p q is (subst (λ (x : List Token). IsProgram x q) (one_list cs us ts are' are) is')

  -- A script shows at most one fault.
  pub one_script_fault : (fault fault' : ScriptFault) → ScriptFaultAt end cs fault → ScriptFaultAt end cs fault' → fault ≡ fault'
  one_script_fault fault fault' h h' = go (kinds fault h) (kinds fault' h')
    where
      go : Kinds fault → Kinds fault' → fault ≡ fault'
      go (inl (g, o, k)) (inl (g', o', k')) = o ∙ ap (λ (x : LexFault). Lex x) (one_lex_fault cs g g' k k') ∙ sym o'
      go (inl (g, o, k)) (inr (g', o', (ts, are, k'))) = absurd (no_lex_fault cs ts g are k)
      go (inr (g, o, (ts, are, k))) (inl (g', o', k')) = absurd (no_lex_fault cs ts g' are k')
      go (inr (g, o, (ts, are, k))) (inr (g', o', (us, are', k'))) = o ∙ ap (λ (x : Fault). faults.of x) (one_shown end ts g g' k (subst (λ (x : List Token). ParseFaultAt end x g') (one_list cs us ts are' are) k')) ∙ sym o'

  -- ---- what parsing ensures, from what it found

  pub parsed_exactly : (res : Result Program ScriptFault) → Says (IsScript cs) (ScriptFaultAt end cs) (report res) → Exactly (IsScript cs) (ScriptFaultAt end cs) (report res)
  parsed_exactly res = exactly (IsScript cs) (ScriptFaultAt end cs) one_script script_or_fault one_script_fault (report res)

  -- Each program of a script is valid.
  script_valid : (p : Program) → IsScript cs p → IsValid p
  script_valid p (ts, are, is) = program_valid ts p (numerals cs ts are) is

  pub valid_given : (res : Result Program ScriptFault) → Says (IsScript cs) (ScriptFaultAt end cs) (report res) → IfOk res IsValid
  valid_given (Ok p) found = script_valid p found
  valid_given (Err fault) found = tt
