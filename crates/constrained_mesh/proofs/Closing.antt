-- Closing, after the lines of the mesh and of the constraints.
use Rattle.std.proofs.Common.{◌≡◌, ◌∙◌, sym, ap, refl, subst, Ok, Err}
use Rattle.std.specs.Prelude.{◌≢◌}
use Rattle.std.specs.declared.result.Result.{Result}
use Rattle.affine_constraints.specs.declared.fault.CloseFault.{CloseFault}
use Rattle.affine_constraints.specs.Lines.{lines_in}
use Rattle.affine_constraints.specs.Closing.{AreClosedInRange, HaveFault}
use Rattle.problem_read.specs.Entries.{ProblemParts}
use Rattle.constrained_mesh.specs.declared.fault.ConstraintFault.{ConstraintFault}
use Rattle.constrained_mesh.specs.declared.fault.ConstraintFault.TheVariants.{NoMemory}
use Rattle.constrained_mesh.specs.Faults.{fault_of}
use Rattle.constrained_mesh.specs.MeshLines.{Table, AreMeshLines}
use Rattle.constrained_mesh.specs.Nodes.{Nodes, dof_of_id}
use Rattle.constrained_mesh.specs.Ties.{DofOf, with_ties}
use Rattle.constrained_mesh.specs.Constrained.{Answer, ClosesOrFails, IsConstrained}

-- the lines of the mesh, and what adding those of the constraints gave
pub record AreAdded (nodes : Nodes) (problem : ProblemParts) (told : DofOf) (lines : Table) (outcome : Result Table ConstraintFault) : Type 0 where
  pub of_mesh : AreMeshLines nodes.degree nodes.forest problem lines
  pub same : told ≡ dof_of_id nodes
  pub added : with_ties told lines problem.ties ≡ outcome

decided : (nodes : Nodes) (problem : ProblemParts) (told : DofOf) (lines : Table) (outcome : Result Table ConstraintFault) (answer : Answer) → AreAdded nodes problem told lines outcome → ClosesOrFails outcome answer → IsConstrained nodes problem answer
decided nodes problem told lines outcome answer w h = record {
  lines = lines;
  of_mesh = w.of_mesh;
  outcome = (let P : Result Table ConstraintFault → Type 0 = λ r. ClosesOrFails r answer in subst P (sym w.added ∙ ap (λ d. with_ties d lines problem.ties) w.same) h);
}

pub fault_is : (nodes : Nodes) (problem : ProblemParts) (told : DofOf) (lines : Table) (fault : ConstraintFault) → AreAdded nodes problem told lines (Err fault) → IsConstrained nodes problem (Err fault)
fault_is nodes problem told lines fault w = decided nodes problem told lines (Err fault) (Err fault) w refl

pub closed_is : (nodes : Nodes) (problem : ProblemParts) (told : DofOf) (lines tied closed : Table) → AreAdded nodes problem told lines (Ok tied) → AreClosedInRange (lines_in tied) (lines_in closed) → IsConstrained nodes problem (Ok (lines_in closed))
closed_is nodes problem told lines tied closed w h =
    decided nodes problem told lines (Ok tied) (Ok (lines_in closed)) w (record { closing = Ok (lines_in closed); is_answer = h; answer_is = refl })

pub close_fault_is : (nodes : Nodes) (problem : ProblemParts) (told : DofOf) (lines tied : Table) (fault : CloseFault) (told_fault : ConstraintFault) → AreAdded nodes problem told lines (Ok tied) → HaveFault (lines_in tied) fault →
    told_fault ≡ fault_of fault → told_fault ≢ NoMemory → IsConstrained nodes problem (Err told_fault)
close_fault_is nodes problem told lines tied fault told_fault w h is known =
    decided nodes problem told lines (Ok tied) (Err told_fault) w (record { closing = Err fault; is_answer = (h, λ e. known (is ∙ ap fault_of e)); answer_is = ap Err is })
