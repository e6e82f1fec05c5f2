use Rattle.std.proofs.Common.{drop}
use Rattle.std.specs.Prelude.{All}
use Rattle.js_tree.specs.Valid.{IsValid}
use Rattle.page_loading.proofs.Reaching.{Reaches}
use Rattle.page_loading.proofs.programs.programs_of.Given as goal

-- the scripts so far have just these programs
abbrev pub invariant-loop-script : goal.invariant-loop-script
invariant-loop-script l = record {
  reaches : Reaches l.page l.scripts l.programs.items (drop l.script-index l.scripts);
  valid : All IsValid l.programs.items;
}
