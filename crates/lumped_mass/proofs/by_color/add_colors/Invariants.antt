use Rattle.std.proofs.Common.{◌≡◌, take, slice_index}
use Rattle.lumped_mass.specs.Sums.{sums_of}
use Rattle.lumped_mass.proofs.by_color.add_colors.Given as goal

abbrev pub invariant-loop-k : goal.invariant-loop-k
invariant-loop-k g l = l.sums.items ≡ sums_of l.cells.forest.now l.cells.dofs.now (take (slice_index l.colors.starts l.k) l.colors.order)
