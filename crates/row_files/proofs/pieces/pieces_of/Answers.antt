use Rattle.std.proofs.Common.{◌≡◌, ◌<◌, ◌/◌, ◌%◌, ℕ, List, [], ◌∷◌, ◌++◌, true, nat_lt, ap, ◌∙◌}
use Rattle.std.proofs.Math.ListN.{replicate}
use Rattle.std.proofs.lemmas.List.Elements.{All-replicate}
use Rattle.std.proofs.lemmas.List.Sums.{list_all-from_AllPass}
use Rattle.std.proofs.lemmas.List.Folds.{list_all-append}
use Rattle.std.specs.Prelude.{IsTrue}
use borrow.Author.Tests.{lt-ltb}
use Rattle.byte_ports.specs.Memory.{are_pieces}
use Rattle.row_files.proofs.pieces.pieces_of.Goals.{then-count-length-gt0+in_ok-push, else-count-length-gt0}
use Rattle.row_files.proofs.pieces.pieces_of.Goals as goal

-- pieces of one length are pieces
same_pieces : (count length : ℕ) → 0 < length → are_pieces (replicate count length) ≡ true
same_pieces count length some = list_all-from_AllPass (λ piece. nat_lt 0 piece) (replicate count length) (All-replicate (λ piece. IsTrue (nat_lt 0 piece)) count length (lt-ltb 0 length some))

one_more : (pieces : List ℕ) (last : ℕ) → are_pieces pieces ≡ true → 0 < last → are_pieces (pieces ++ last ∷ []) ≡ true
one_more pieces last are some = list_all-append (λ piece. nat_lt 0 piece) pieces (last ∷ []) ∙ rw (are, lt-ltb 0 last some)

pub returns : goal.returns
returns c =
    let all = c.in_ok-pieces.ensures.items_if_clones_equal (λ y e. e) in
    let same : are_pieces c.in_ok-pieces.pieces.items ≡ true = ap are_pieces all ∙ same_pieces (c.args.count / c.args.length) c.args.length c.requires in
    elim c.if-count-length-gt0.branch [
      | then-count-length-gt0+in_ok-push w ↦ rw w.pieces-is (rw w.in_ok-push.ensures.items (one_more c.in_ok-pieces.pieces.items (c.args.count % c.args.length) same w.if-count-length-gt0.true))
      | else-count-length-gt0 w ↦ rw w.pieces-is same
    ]
