use Rattle.std.proofs.Common.{sym, subst, ap, ◌∙◌, rules, w64, List}
use Rattle.std.proofs.lemmas.Int.{to_z-of_z}
use mir.Val.{SFits}
use Rattle.cell_places.specs.declared.kind.CellKind.{CellKind}
use Rattle.cell_places.specs.Heap.{Heap}
use Rattle.cell_places.specs.Acts.{after}
use Rattle.cell_places.specs.StartRows.{puts, page_rows, built_in_rows, start_rows}
use Rattle.cell_places.specs.Start.{bare_heap}
use Rattle.cell_places.specs.Sound.{IsSound}
use Rattle.cell_places.proofs.StartIsSound.{start_is_sound}
use Rattle.cell_heap.proofs.Putting.{rows_then}
use Rattle.cell_heap.proofs.base.Base.start.Goals as goal

pub returns-clause-start : goal.returns-clause-start
returns-clause-start c =
    let fits : SFits w64 c.args.now = search rules in
    let page = simp to_z-of_z at c.in_ok-put_page.ensures in
    let bare = c.of_kinds-base.ensures ∙ ap (λ (kinds : List CellKind). bare_heap kinds c.args.weight) c.in_ok-kinds.ensures in
    rows_then _ _ _ (page_rows c.args.now) built_in_rows page c.in_ok-put_built_ins.ensures
    ∙ ap (λ (H : Heap). after H (puts (start_rows c.args.now))) bare

pub returns-clause-sound : goal.returns-clause-sound
returns-clause-sound c =
    let same = returns-clause-start c in
    λ codes. subst (λ (H : Heap). IsSound codes H) (sym same) (start_is_sound codes c.args.weight c.args.now c.requires.weight c.requires.from c.requires.to)
