use Rattle.std.proofs.Common.{◌∙◌, ◌++◌, ℕ, List, ap, sym, map}
use Rattle.conflict_coloring.specs.RowTable.{pairs}
use Rattle.conflict_coloring.proofs.RowTables.{firsts_more, seconds_more}
use Rattle.conflict_coloring.proofs.row_table.listed.Goals as goal

pub loop-cell-preserved : goal.loop-cell-preserved
loop-cell-preserved c =
    let cells : List (List ℕ) = c.args.conflicts.now in
    let k : ℕ = c.loop-cell.cell in
    record {
      rows =
          c.in_ok-add_entries.ensures.rows ∙ ap (λ xs. xs ++ c.rows.result.now) c.loop-cell.invariant.rows
          ∙ ap (λ xs. map {A = ℕ × ℕ} {B = ℕ} (λ p. p.0) (pairs cells k) ++ xs) c.rows.ensures ∙ sym (firsts_more cells k);
      owners =
          c.in_ok-add_entries.ensures.owners ∙ ap (λ xs. xs ++ map (λ r. k) c.rows.result.now) c.loop-cell.invariant.owners
          ∙ ap (λ xs. map {A = ℕ × ℕ} {B = ℕ} (λ p. p.1) (pairs cells k) ++ map (λ r. k) xs) c.rows.ensures ∙ sym (seconds_more cells k);
    }
