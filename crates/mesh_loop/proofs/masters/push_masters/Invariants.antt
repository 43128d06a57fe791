use Rattle.std.proofs.Common.{◌≡◌, ◌<◌, ◌++◌, length, take}
use Rattle.std.specs.List.{All}
use Rattle.affine_constraints.specs.Lines.{lines_in}
use Rattle.mesh_loop.specs.Setup.{masters_of}
use Rattle.mesh_loop.proofs.masters.push_masters.Given as goal

abbrev pub invariant-loop-dof : goal.invariant-loop-dof
invariant-loop-dof l = record {
  value : l.list.items ≡ l.initial.list.items ++ masters_of (lines_in l.closed) (take l.dof-index l.dofs);
  below : All (λ dof. dof < length l.closed) (masters_of (lines_in l.closed) (take l.dof-index l.dofs));
}
