use Rattle.std.proofs.Common.{◌==◌, ◌&&◌, ◌+◌, take, slice_index}
use Rattle.std.specs.Prelude.{not}
use Rattle.std.specs.Ordering.{nat_cmp}
use Rattle.std.specs.BTreeSet.{contains}
use Rattle.std.proofs.lemmas.List.Folds.{list_any_more}
use Rattle.conflict_coloring.specs.Conflict.{has}
use Rattle.conflict_coloring.proofs.Nears.{found_more, found_start}
use Rattle.conflict_coloring.proofs.near.add_all.Goals as goal

pub loop-other-init : goal.loop-other-init
loop-other-init c = λ d. found_start (contains nat_cmp c.args.found.now d) (not (c.args.cell == d) && slice_index c.args.zones.now d == slice_index c.args.zones.now c.args.cell)

pub loop-other-preserved : goal.loop-other-preserved
loop-other-preserved c = λ d.
    let list = c.args.list.now in
    let i = c.loop-other.other-index in
    found_more (contains nat_cmp c.add_one.new.found d) (contains nat_cmp c.loop-other.found d) (contains nat_cmp c.args.found.now d) (has (take i list) d) (slice_index list i == d) (has (take (i + 1) list) d)
    (not (c.args.cell == d) && slice_index c.args.zones.now d == slice_index c.args.zones.now c.args.cell) (c.in_ok-add_one.ensures d) (c.loop-other.invariant d) (list_any_more (λ y. y == d) list i 0 c.loop-other-test.true)
