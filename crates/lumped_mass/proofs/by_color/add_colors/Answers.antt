use Rattle.std.proofs.Common.{◌≡◌, ◌∙◌, ◌+◌, ◌-◌, ◌<◌, ◌++◌, ap, sym, pos, ℕ, ℤ, List, length, map, take, slice_index, arith}
use Rattle.std.specs.List.{range_with_len}
use Rattle.conflict_coloring.specs.Coloring.{color_count}
use Rattle.conflict_coloring.specs.Cut.{part}
use Rattle.lumped_mass.specs.Sums.{sums_of}
use Rattle.lumped_mass.proofs.Colors.{all_with, none_before, cells_there, cells_apart, parts_join, whole}
use Rattle.lumped_mass.proofs.by_color.add_colors.Goals as goal

pub loop-k-init : goal.loop-k-init
loop-k-init g c =
    c.in_ok-sums.ensures ∙ ap (λ n. map (all_with (pos 0)) (range_with_len 0 n)) c.size.ensures
    ∙ none_before c.args.cells.now.forest.now c.args.cells.now.dofs.now c.args.colors.now.order (slice_index c.args.colors.now.starts 0) c.requires.colors.starts.first

pub invariant_of-job : goal.invariant_of-job
invariant_of-job g c = record {
  there = cells_there c.args.rows.now c.args.colors.now c.loop-k.k _ c.cells_of_color.result.now c.requires.colors c.cells_of_color.ensures.cells c.requires.rising.as_many;
  as_many = c.requires.rising.as_many;
}

pub add_color-requires-clause-rising : goal.add_color-requires-clause-rising
add_color-requires-clause-rising g c κs within = c.requires.rising

pub add_color-requires-clause-apart : goal.add_color-requires-clause-apart
add_color-requires-clause-apart g c κs within = cells_apart c.args.rows.now c.args.colors.now c.loop-k.k c.cells_of_color.result.now c.requires.colors c.cells_of_color.ensures.cells

pub add_color-requires-clause-sums : goal.add_color-requires-clause-sums
add_color-requires-clause-sums g c κs within = (take (slice_index c.args.colors.now.starts c.loop-k.k) c.args.colors.now.order, c.loop-k.invariant)

pub loop-k-preserved : goal.loop-k-preserved
loop-k-preserved g c =
    let order : List ℕ = c.args.colors.now.order in
    let start : ℕ = slice_index c.args.colors.now.starts c.loop-k.k in
    let end : ℕ = slice_index c.args.colors.now.starts (c.loop-k.k + 1) in
    let same : length c.starts-starts.result.now ≡ length c.args.colors.now.starts = ap length c.starts-starts.ensures in
    let inside : c.loop-k.k < color_count c.args.colors.now = omega (arith, same, c.loop-k-test.true) in
    c.in_ok-sums-2.ensures (take start order) c.loop-k.invariant
    ∙ ap (sums_of c.args.cells.now.forest.now c.args.cells.now.dofs.now) (ap (λ (l : List ℕ). take start order ++ l) c.cells_of_color.ensures.part ∙ parts_join order start end (c.requires.colors.starts.rising c.loop-k.k inside))

pub returns : goal.returns
returns g c =
    let same : length c.starts-starts.result.now ≡ length c.args.colors.now.starts = ap length c.starts-starts.ensures in
    let end : c.loop-k.k ≡ color_count c.args.colors.now = omega (arith, same, c.loop-k-test.false, c.loop-k.auto.k-end) in
    ap (map (λ (entry : ℕ × ℤ). entry.1)) c.loop-k.invariant
    ∙ whole c.args.cells.now.forest.now c.args.cells.now.dofs.now c.args.rows.now c.args.colors.now c.requires.colors c.requires.rising.as_many (slice_index c.args.colors.now.starts c.loop-k.k)
    (ap (slice_index c.args.colors.now.starts) end ∙ c.requires.colors.starts.last)
