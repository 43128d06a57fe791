use Rattle.std.proofs.Common.{◌∙◌, ◌+◌, ℕ, List, ap, sym, subst, length, slice_index, replicate, arith}
use Rattle.conflict_coloring.proofs.Counting.{order_next, order_short, order_full}
use Rattle.conflict_coloring.proofs.Whole.{AreDone, done_start, done_more, done_all, part_plain}
use Rattle.conflict_coloring.proofs.colors.colour_all.Goals as goal

pub loop-zone-init : goal.loop-zone-init
loop-zone-init c =
    let P : List ℕ → Type 0 = λ xs. AreDone c.args.conflicts.now c.args.zones.now 4294967295 0 xs c.args.counts.now in
    let Q : List ℕ → Type 0 = λ xs. AreDone c.args.conflicts.now c.args.zones.now 4294967295 0 (replicate (length c.args.zones.now) 4294967295) xs in
    subst P (sym c.requires.bare) (subst Q (sym c.requires.zero) (done_start c.args.conflicts.now c.args.zones.now 4294967295))

pub cells_at-part-requires-clause-rising : goal.cells_at-part-requires-clause-rising
cells_at-part-requires-clause-rising c =
    let z : ℕ = c.loop-zone.zone in
    let a = c.requires.starts z (omega arith) in
    let b = c.requires.starts (z + 1) (omega arith) in
    let n = order_next c.args.zones.now z in
    omega arith

pub cells_at-part-requires-clause-inside : goal.cells_at-part-requires-clause-inside
cells_at-part-requires-clause-inside c =
    let z : ℕ = c.loop-zone.zone in
    let b = c.requires.starts (z + 1) (omega arith) in
    let s = order_short c.args.zones.now (z + 1) in
    let f = order_full c.args.zones.now c.args.count c.requires.zones in
    let l = ap length c.requires.cells in
    omega arith

pub colour_zone-requires-clause-cells : goal.colour_zone-requires-clause-cells
colour_zone-requires-clause-cells c =
    let z : ℕ = c.loop-zone.zone in
    c.cells_at-part.ensures
    ∙ part_plain c.args.zones.now c.args.cells.now z c.args.count (slice_index c.args.starts.now z) (slice_index c.args.starts.now (z + 1)) c.loop-zone-test.true c.requires.cells (c.requires.starts z (omega arith))
    (c.requires.starts (z + 1) (omega arith))

pub loop-zone-preserved : goal.loop-zone-preserved
loop-zone-preserved c =
    done_more c.args.conflicts.now c.args.zones.now 4294967295 c.loop-zone.zone c.loop-zone.colours c.colour_zone.new.colours c.loop-zone.counts c.colour_zone.new.counts c.in_ok-_picks._picks.items c.loop-zone.invariant c.in_ok-_picks.ensures.picks
    c.in_ok-_picks.ensures.colours c.in_ok-_picks.ensures.kept c.in_ok-_picks.ensures.kept_counts

pub returns : goal.returns
returns c = done_all c.args.conflicts.now c.args.zones.now 4294967295 c.args.count c.loop-zone.zone c.loop-zone.colours c.loop-zone.counts c.loop-zone.invariant c.requires.zones (omega arith)
