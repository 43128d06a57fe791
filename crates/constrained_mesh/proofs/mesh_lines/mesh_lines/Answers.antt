use Rattle.std.proofs.Common.{◌∙◌, subst}
use Rattle.affine_constraints.specs.Lines.{lines_in}
use Rattle.affine_constraints.specs.declared.fault.LineFault.{LineFault}
use Rattle.dof_numbers.specs.Hanging.{HaveStopped}
use Rattle.constrained_mesh.proofs.LineLaws.{never_twice, lines_of_mesh}
use Rattle.constrained_mesh.proofs.mesh_lines.mesh_lines.Goals as goal

pub unreachable-requires : goal.unreachable-requires
unreachable-requires c =
    let P : LineFault → Type 0 = λ fault. HaveStopped c.args.dofs.now.degree c.args.forest.now (lines_in c.in_ok-lines.lines) (lines_in c.hanging.new.lines) fault in
    never_twice c.args.dofs.now.degree c.args.forest.now c.args.problem.now c.in_ok-lines.ensures.hanging c.args.dofs.now.size c.in_ok-lines.lines c.hanging.new.lines c.in-Err-Twice.field-0-0 c.in_ok-lines.ensures.size c.in_ok-lines.ensures.lines
    (subst P c.in-Err-Twice.field-0-is c.in-Err-Twice.ensures.stopped)

pub returns-in-Ok-clause-lines : goal.returns-in-Ok-clause-lines
returns-in-Ok-clause-lines c =
    lines_of_mesh c.args.dofs.now.degree c.requires.degree c.args.forest.now c.in_ok-lines.ensures.grown c.args.problem.now c.args.dofs.now.size c.in_ok-lines.lines c.hanging.new.lines c.requires.size (c.hanging.ensures.size ∙ c.in_ok-lines.ensures.size) c.in_ok-lines.ensures.lines c.in-Ok.ensures.added
