use Rattle.std.proofs.Common.{◌≡◌, ◌<◌, true, List, Option, Some, None, Bor, length, sym, ap, subst, ◌∙◌}
use Rattle.std.specs.Option.{is_some, option_copied}
use Rattle.grammar.specs.Grammar.{again, first}
use Rattle.grammar.specs.Reading.{Got, read}
use Rattle.grammar.proofs.Words.{onward}
use Rattle.js_lexer.specs.declared.token.Token.{Token}
use Rattle.js_nodes.specs.declared.context.Inside.{Inside}
use Rattle.js_nodes.specs.declared.series.Body.{Body}
use Rattle.js_nodes.specs.Next.{Next, is_there}
use Rattle.js_parser.specs.Sources.{level}
use Rattle.js_nodes.specs.Pieces.{outside}
use Rattle.js_parser.proofs.Turns.{program_turn}
use Rattle.js_parser.proofs.script.program.Goals as goal

-- Where a token is next, one is there.
there : (o : Option (Bor Token)) (t : Next) → option_copied o ≡ t → is_some o ≡ true → is_there t ≡ true
there None t e h = cc
there (Some b) t e h = sym (ap (λ (x : Next). is_there x) e)

-- one turn of the loop, outside of functions
turned : (inside : Inside) (x : Body) (ts : List Next) (u : Body) (r : List Next) → inside ≡ outside → is_there (first ts None) ≡ true → read None ((level 128).source inside x) ts ≡ Got u r → (read None (again (λ _ t. is_there t) (λ b. (level 128).source outside b) x) ts ≡ read None (again (λ _ t. is_there t) (λ b. (level 128).source outside b) u) r) × (length r < length ts)
turned inside x ts u r e h k = program_turn x ts u r h (subst (λ (i : Inside). read None ((level 128).source i x) ts ≡ Got u r) e k)

pub sources-smaller : goal.sources-smaller
sources-smaller c = (turned c.script.result c.sources.body c.sources.tokens c.in_ok-body.body c.element.new.tokens c.script.ensures (there c.peek.result _ c.peek.ensures (sym c.is_some.ensures ∙ c.sources-test.true)) c.in_ok-body.ensures.value).1

pub sources-preserved : goal.sources-preserved
sources-preserved c = record {
  reading = onward _ _ _ _ c.sources.invariant.reading (turned c.script.result c.sources.body c.sources.tokens c.in_ok-body.body c.element.new.tokens c.script.ensures (there c.peek.result _ c.peek.ensures (sym c.is_some.ensures ∙ c.sources-test.true)) c.in_ok-body.ensures.value).0;
  height = c.in_ok-body.ensures.height;
}
