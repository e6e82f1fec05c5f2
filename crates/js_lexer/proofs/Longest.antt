-- Longest match is a law of the rules of tokens.
use Rattle.std.proofs.Common.{List, ◌∷◌, ◌++◌}
use Rattle.grammar.specs.Grammar.{Derives}
use Rattle.grammar.proofs.Longest.{longest}
use Rattle.placed_chars.specs.declared.chars.Char.{Char}
use Rattle.placed_chars.specs.Chars.{stop}
use Rattle.js_lexer.specs.declared.fault.LexFault.{LexFault}
use Rattle.js_lexer.specs.declared.lexer.Element.{Element}
use Rattle.js_lexer.specs.Source.{element}
use Rattle.js_lexer.proofs.Decided.{element_decided}

-- Where some characters are an input element with the character t behind them, no longer slice is one, whatever follows.
pub longest_element : (xs zs : List Char) (v w : Element) (t next : Char) → Derives element xs v t → Derives element (xs ++ t ∷ zs) w next → ⊥
longest_element xs zs v w t next d d' = longest LexFault stop element xs zs v w t next element_decided d d'
