-- The whole of a script: what is read are its tokens, and what is refused is its fault.
use Rattle.std.proofs.Common.{◌≡◌, ℕ, false, List, [], Some, refl, sym, subst, ◌∙◌}
use Rattle.std.specs.Prelude.{Result, Ok, Err, OnOk, Vec}
use Rattle.std.specs.declared.alloc.Global.{Global}
use Rattle.grammar.specs.Exactly.{Says, Exactly}
use Rattle.grammar.specs.Reading.{Got, Bad, read}
use Rattle.grammar.proofs.Exactly.{exactly}
use Rattle.grammar.proofs.OneFault.{one_fault}
use Rattle.grammar.proofs.Reader.{all_read, at_fault, only}
use Rattle.placed_chars.specs.declared.chars.Char.{Char}
use Rattle.placed_chars.specs.Chars.{placed, stop}
use Rattle.js_lexer.specs.declared.fault.LexFault.{LexFault}
use Rattle.js_lexer.specs.declared.fault.LexFault.TheVariants.{BadChar, UnclosedText, UnclosedComment, BadNumber, BigNumber, LeftOut, NoMemory}
use Rattle.js_lexer.specs.declared.token.Token.{Token}
use Rattle.js_lexer.specs.Source.{source}
use Rattle.js_lexer.specs.Tokens.{AreTokens, LexesAs, report}
use Rattle.js_lexer.specs.Reads.{is_memory, ReadsAs}
use Rattle.js_lexer.proofs.Decided.{source_decided}

-- What a result reports is so if it is so of what isn't out of memory.
reported : (Is : List Token → Type 0) (Shows : LexFault → Type 0) (res : Result (Vec Token Global) LexFault) → ((v : Vec Token Global) → res ≡ Ok v → Is v.items) → ((f : LexFault) → res ≡ Err f → is_memory f ≡ false → Shows f) → Says Is Shows (report res)
reported Is Shows (Ok v) is shows = is v refl
reported Is Shows (Err NoMemory) is shows = tt
reported Is Shows (Err (BadChar at)) is shows = shows (BadChar at) refl refl
reported Is Shows (Err (UnclosedText at)) is shows = shows (UnclosedText at) refl refl
reported Is Shows (Err (UnclosedComment at)) is shows = shows (UnclosedComment at) refl refl
reported Is Shows (Err (BadNumber at)) is shows = shows (BadNumber at) refl refl
reported Is Shows (Err (BigNumber at)) is shows = shows (BigNumber at) refl refl
reported Is Shows (Err (LeftOut at)) is shows = shows (LeftOut at) refl refl

module _ (cs : List ℕ) where
  -- A script has at most one list of tokens.
  pub one_list : (ts us : List Token) → AreTokens cs ts → AreTokens cs us → ts ≡ us
  one_list ts us h h' = let c = sym (only LexFault _ source _ ts source_decided h) ∙ only LexFault _ source _ us source_decided h' in cc

  -- What has tokens shows no fault of their form.
  pub no_lex_fault : (ts : List Token) (fault : LexFault) → AreTokens cs ts → LexesAs cs fault → ⊥
  no_lex_fault ts fault h (rest, (front, e, hopes, s, b, none)) = none ts h

  -- Characters show at most one fault of their form.
  pub one_lex_fault : (g g' : LexFault) → LexesAs cs g → LexesAs cs g' → g ≡ g'
  one_lex_fault g g' (rest, h) (rest', h') = let same = (one_fault LexFault _ source _ (Some g) (Some g') rest rest' source_decided h h').0 in cc

module _ (cs : List ℕ) (ts : List Char) (whole : ts ≡ placed 0 cs) (res : Result (Vec Token Global) LexFault) (new : List Char) (read_so : ReadsAs (λ (v : Vec Token Global). v.items) (read stop source ts) res new) where
  reads : ReadsAs (λ (v : Vec Token Global). v.items) (read stop source (placed 0 cs)) res new
  reads = subst (λ (xs : List Char). ReadsAs (λ (v : Vec Token Global). v.items) (read stop source xs) res new) whole read_so

  got : (v : Vec Token Global) → res ≡ Ok v → read stop source (placed 0 cs) ≡ Got v.items new
  got v e = subst (λ (r : Result (Vec Token Global) LexFault). ReadsAs (λ (v : Vec Token Global). v.items) (read stop source (placed 0 cs)) r new) e reads

  bad : (f : LexFault) → res ≡ Err f → is_memory f ≡ false → read stop source (placed 0 cs) ≡ Bad (Some f) new
  bad f e = subst (λ (r : Result (Vec Token Global) LexFault). ReadsAs (λ (v : Vec Token Global). v.items) (read stop source (placed 0 cs)) r new) e reads

  pub lexed : OnOk res (new ≡ []) → Says (AreTokens cs) (LexesAs cs) (report res)
  lexed over = reported (AreTokens cs) (LexesAs cs) res
      (λ v e. all_read LexFault stop source (placed 0 cs) v.items new source_decided (got v e) (subst (λ (r : Result (Vec Token Global) LexFault). OnOk r (new ≡ [])) e over))
      (λ f e m. (new, at_fault LexFault stop source (placed 0 cs) (Some f) new source_decided (bad f e m)))

  -- Reading the whole of a script reports it exactly.
  pub lexed_exactly : OnOk res (new ≡ []) → Exactly (AreTokens cs) (LexesAs cs) (report res)
  lexed_exactly over = exactly (AreTokens cs) (LexesAs cs) (one_list cs) (no_lex_fault cs) (one_lex_fault cs) (report res) (lexed over)
