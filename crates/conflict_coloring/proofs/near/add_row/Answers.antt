use Rattle.std.proofs.Common.{◌∙◌, ℕ, ◌<◌, ◌+◌, ◌==◌, ◌&&◌, ◌||◌, List, ap, sym, length, slice_index, subst}
use Rattle.std.specs.Prelude.{All, not}
use Rattle.std.specs.Ordering.{nat_cmp}
use Rattle.std.specs.BTreeSet.{contains}
use Rattle.conflict_coloring.specs.Conflict.{has}
use Rattle.conflict_coloring.specs.Cut.{part}
use Rattle.conflict_coloring.proofs.Marked.{row_within}
use Rattle.conflict_coloring.proofs.near.add_row.Goals as goal

pub add_all-requires-clause-within : goal.add_all-requires-clause-within
add_all-requires-clause-within c =
    let P : List ℕ → Type 0 = λ xs. All (λ x. x < length c.args.zones.now) xs in
    let Q : ℕ → Type 0 = λ n. All (λ x. x < n) (part c.args.table.now (slice_index c.args.starts.now c.args.row) (slice_index c.args.starts.now (c.args.row + 1))) in
    subst P (sym c.cells_at.ensures) (subst Q (sym c.requires.each) (row_within c.args.conflicts.now c.args.starts.now c.args.table.now c.args.row c.requires.table c.requires.within))

pub returns : goal.returns
returns c = λ d.
    let e = ap (λ xs. has xs d) c.cells_at.ensures ∙ c.requires.table.each c.args.row d c.requires.within in
    c.in_ok-add_all.ensures d ∙ ap (λ b. contains nat_cmp c.args.found.now d || (b && (not (c.args.cell == d) && slice_index c.args.zones.now d == slice_index c.args.zones.now c.args.cell))) e
