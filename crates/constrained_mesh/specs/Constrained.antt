-- The closed lines of a refined mesh under a problem, or the first fault.
use Rattle.std.specs.Prelude.{◌≡◌, Ok, Err}
use Rattle.std.specs.declared.result.Result.{Result}
use Rattle.affine_constraints.specs.declared.fault.CloseFault.{CloseFault}
use Rattle.affine_constraints.specs.Lines.{Lines, lines_in}
use Rattle.affine_constraints.specs.Laws.{IsAnswer}
use Rattle.problem_read.specs.Entries.{ProblemParts}
use Rattle.constrained_mesh.specs.declared.fault.ConstraintFault.{ConstraintFault}
use Rattle.constrained_mesh.specs.Faults.{fault_of}
use Rattle.constrained_mesh.specs.MeshLines.{Table, AreMeshLines}
use Rattle.constrained_mesh.specs.Nodes.{Nodes, dof_of_id}
use Rattle.constrained_mesh.specs.Ties.{with_ties}

abbrev pub Answer : Type 0
Answer = Result Lines ConstraintFault

abbrev pub answer_of : Result Lines CloseFault → Answer
answer_of (Ok closed) = Ok closed
answer_of (Err fault) = Err (fault_of fault)

-- what closing the lines of a table gives
pub record IsClosing (table : Table) (answer : Answer) : Type 0 where
  pub closing : Result Lines CloseFault
  pub is_answer : IsAnswer (lines_in table) closing
  pub answer_is : answer ≡ answer_of closing

-- a fault of the constraints, or else what closing gives
abbrev pub ClosesOrFails : Result Table ConstraintFault → Answer → Type 0
ClosesOrFails (Ok table) answer = IsClosing table answer
ClosesOrFails (Err fault) answer = answer ≡ Err fault

-- the lines of the mesh, then those of the problem's constraints in order, and then closing
pub record IsConstrained (nodes : Nodes) (problem : ProblemParts) (answer : Answer) : Type 0 where
  pub lines : Table
  pub of_mesh : AreMeshLines nodes.degree nodes.forest problem lines
  pub outcome : ClosesOrFails (with_ties (dof_of_id nodes) lines problem.ties) answer
