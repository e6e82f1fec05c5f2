use Rattle.std.proofs.Common.{◌≡◌, ◌≤◌, length, None}
use Rattle.grammar.specs.Grammar.{again, done}
use Rattle.grammar.specs.Reading.{read, and_then}
use Rattle.js_nodes.specs.Next.{is_there}
use Rattle.js_parser.specs.Sources.{level, program_of, program}
use Rattle.js_nodes.specs.Pieces.{outside}
use Rattle.js_parser.proofs.script.program.Given as goal

abbrev pub invariant-sources : goal.invariant-sources
invariant-sources l = record {
  reading : read None program l.fn.tokens ≡ and_then (read None (again (λ _ t. is_there t) (λ b. (level 128).source outside b) l.body) l.tokens) (λ b r. read None (done (program_of b)) r);
  height : l.body.depth.height ≤ 128;
}

abbrev pub decreases-sources : goal.decreases-sources
decreases-sources l = length l.tokens
