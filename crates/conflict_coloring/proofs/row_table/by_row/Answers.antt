use Rattle.std.proofs.Common.{◌∙◌, ℕ, List, sym, subst, ◌<◌}
use Rattle.std.specs.Prelude.{All}
use Rattle.conflict_coloring.proofs.RowTables.{is_by_row}
use Rattle.conflict_coloring.proofs.row_table.by_row.Goals as goal

pub returns : goal.returns
returns c = is_by_row c.args.conflicts.now c.deref-2.result.now c.deref-3.result.now c.in_ok-order.order.starts.items c.in_ok-order.order.cells.items c.above-count.result
    (c.deref-2.ensures.value ∙ c.in_ok-entries.ensures.rows) (c.deref-3.ensures.value ∙ c.in_ok-entries.ensures.owners)
    (let P : List ℕ → Type 0 = λ xs. All (λ x. x < c.above-count.result) xs in subst P (c.deref.ensures.value ∙ sym c.deref-2.ensures.value) c.above-count.ensures.above)
    c.in_ok-order.ensures.cells c.in_ok-order.ensures.starts c.in_ok-order.ensures.length
