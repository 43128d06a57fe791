use Rattle.constrained_mesh.specs.Nodes.{dof_told}
use Rattle.constrained_mesh.proofs.NodeLaws.{nodes_of, told_is, told_within}
use Rattle.constrained_mesh.proofs.Closing.{fault_is, closed_is, close_fault_is}
use Rattle.constrained_mesh.proofs.closed_lines.constraint_lines.Goals as goal

pub add_ties-requires-clause-within : goal.add_ties-requires-clause-within
add_ties-requires-clause-within c = told_within c.args.ids.now c.args.forest.now c.args.dofs.now c.requires.numbered c.requires.count

pub returns-in-Err-clause-fault : goal.returns-in-Err-clause-fault
returns-in-Err-clause-fault c = λ known.
    fault_is (nodes_of c.args.ids.now c.args.dofs.now.degree c.args.forest.now) c.args.problem.now (dof_told c.args.ids.now c.args.dofs.now) c.in_ok-lines.lines c.in-Err.fault
    (record { of_mesh = c.in_ok-lines.ensures.lines; same = told_is c.args.ids.now c.args.forest.now c.args.dofs.now c.requires.numbered c.requires.count; added = c.in-Err.ensures.fault known })

pub returns-in-Ok-close-clause-ok : goal.returns-in-Ok-close-clause-ok
returns-in-Ok-close-clause-ok c =
    closed_is (nodes_of c.args.ids.now c.args.dofs.now.degree c.args.forest.now) c.args.problem.now (dof_told c.args.ids.now c.args.dofs.now) c.in_ok-lines.lines c.add_ties.new.lines c.in-Ok-close.closed
    (record { of_mesh = c.in_ok-lines.ensures.lines; same = told_is c.args.ids.now c.args.forest.now c.args.dofs.now c.requires.numbered c.requires.count; added = c.in-Ok.ensures.ok }) c.in-Ok-close.ensures.closed

pub returns-in-Err-close-clause-fault : goal.returns-in-Err-close-clause-fault
returns-in-Err-close-clause-fault c = λ known.
    close_fault_is (nodes_of c.args.ids.now c.args.dofs.now.degree c.args.forest.now) c.args.problem.now (dof_told c.args.ids.now c.args.dofs.now) c.in_ok-lines.lines c.add_ties.new.lines c.in-Err-close.fault c.from.result
    (record { of_mesh = c.in_ok-lines.ensures.lines; same = told_is c.args.ids.now c.args.forest.now c.args.dofs.now c.requires.numbered c.requires.count; added = c.in-Ok.ensures.ok }) c.in-Err-close.ensures.fault c.from.ensures known
