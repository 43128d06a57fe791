use Rattle.std.proofs.Common.{ℕ, ◌<◌, ◌+◌, List, sym, length, slice_index, subst}
use Rattle.std.specs.Prelude.{All}
use Rattle.conflict_coloring.specs.Cut.{part}
use Rattle.conflict_coloring.proofs.Marked.{row_within}
use Rattle.conflict_coloring.proofs.zones.mark_row.Goals as goal

pub mark-requires-clause-within : goal.mark-requires-clause-within
mark-requires-clause-within c =
    let P : List ℕ → Type 0 = λ xs. All (λ x. x < length c.args.zones.now) xs in
    let Q : ℕ → Type 0 = λ n. All (λ x. x < n) (part c.args.table.now (slice_index c.args.starts.now c.args.row) (slice_index c.args.starts.now (c.args.row + 1))) in
    subst P (sym c.cells_at.ensures) (subst Q (sym c.requires.each) (row_within c.args.conflicts.now c.args.starts.now c.args.table.now c.args.row c.requires.table c.requires.within))
