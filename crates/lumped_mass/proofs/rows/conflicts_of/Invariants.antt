use Rattle.std.proofs.Common.{◌≡◌, take}
use Rattle.lumped_mass.proofs.rows.conflicts_of.Given as goal

abbrev pub invariant-loop-cell : goal.invariant-loop-cell
invariant-loop-cell l = l.conflicts ≡ take l.cell l.rows
