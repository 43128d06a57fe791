use Rattle.std.proofs.Common.{◌≡◌, ◌∙◌, ℕ, ◌+◌, ◌==◌, ◌&&◌, ◌||◌, false, List, ap, sym, slice_index, take, arith}
use Rattle.std.specs.Prelude.{not}
use Rattle.std.specs.List.{list_any}
use Rattle.std.specs.Ordering.{nat_cmp}
use Rattle.std.specs.BTreeSet.{contains}
use Rattle.std.proofs.lemmas.List.{take_all}
use Rattle.std.proofs.lemmas.List.Folds.{list_any_more}
use Rattle.conflict_coloring.specs.Conflict.{has, rows_of}
use Rattle.conflict_coloring.proofs.Marked.{has_at}
use Rattle.conflict_coloring.proofs.Nears.{found_more, found_all, near_listed}
use Rattle.conflict_coloring.proofs.near.near_one.Goals as goal

pub add_row-requires-clause-within : goal.add_row-requires-clause-within
add_row-requires-clause-within c =
    let rows : List ℕ = c.rows-row-items.result.now in
    c.requires.table.rows c.args.cell (slice_index rows c.loop-row.row-index) (sym (ap (λ xs. has xs (slice_index rows c.loop-row.row-index)) c.rows-row-items.ensures) ∙ has_at rows c.loop-row.row-index c.loop-row-test.true)

pub loop-row-preserved : goal.loop-row-preserved
loop-row-preserved c = λ d.
    let cells : List (List ℕ) = c.args.conflicts.now in
    let rows : List ℕ = c.rows-row-items.result.now in
    let i : ℕ = c.loop-row.row-index in
    found_more (contains nat_cmp c.add_row.new.found d) (contains nat_cmp c.loop-row.found d) false (list_any (has (rows_of cells d)) (take i rows)) (has (rows_of cells d) (slice_index rows i)) (list_any (has (rows_of cells d)) (take (i + 1) rows))
    (not (c.args.cell == d) && slice_index c.args.zones.now d == slice_index c.args.zones.now c.args.cell) (c.in_ok-add_row.ensures d) (c.loop-row.invariant d) (list_any_more (has (rows_of cells d)) rows i 0 c.loop-row-test.true)

pub returns : goal.returns
returns c =
    let cells : List (List ℕ) = c.args.conflicts.now in
    let rows : List ℕ = c.rows-row-items.result.now in
    let whole : take c.loop-row.row-index rows ≡ rows = take_all c.loop-row.row-index rows (omega arith) in
    c.in_ok-near.ensures.items ∙ near_listed cells c.args.zones.now c.args.cell c.loop-row.found c.requires.each c.in_ok-near.ensures.rising
    (λ d. found_all cells c.args.zones.now rows c.args.cell d (contains nat_cmp c.loop-row.found d) c.rows-row-items.ensures
    (c.loop-row.invariant d ∙ ap (λ xs. false || (list_any (has (rows_of cells d)) xs && (not (c.args.cell == d) && slice_index c.args.zones.now d == slice_index c.args.zones.now c.args.cell))) whole))
