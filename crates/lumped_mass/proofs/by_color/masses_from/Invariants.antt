use Rattle.std.proofs.Common.{◌≡◌, map, take}
use Rattle.lumped_mass.proofs.by_color.masses_from.Given as goal

abbrev pub invariant-loop-entry : goal.invariant-loop-entry
invariant-loop-entry l = l.values.items ≡ map (λ entry. entry.1) (take l.entry-index l.sums)
