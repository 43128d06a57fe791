use Rattle.std.proofs.Common.{◌∙◌, ◌++◌, ℕ, List, ap, sym, map}
use Rattle.conflict_coloring.specs.RowTable.{pairs}
use Rattle.conflict_coloring.proofs.RowTables.{firsts_more}
use Rattle.conflict_coloring.proofs.ranks.all_rows.Goals as goal

pub loop-cell-preserved : goal.loop-cell-preserved
loop-cell-preserved c =
    c.in_ok-extend_from_slice.ensures.items ∙ ap (λ (xs : List ℕ). xs ++ c.rows.result.now) c.loop-cell.invariant
    ∙ ap (λ (xs : List ℕ). map {A = ℕ × ℕ} {B = ℕ} (λ p. p.0) (pairs c.args.conflicts.now c.loop-cell.cell) ++ xs) c.rows.ensures ∙ sym (firsts_more c.args.conflicts.now c.loop-cell.cell)
