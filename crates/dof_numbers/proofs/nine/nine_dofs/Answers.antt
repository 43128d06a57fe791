use Rattle.std.proofs.Common.{◌∙◌, ap, slice_index}
use Rattle.dof_numbers.specs.Table.{told, seen_below}
use Rattle.dof_numbers.proofs.Held.{held_by}
use Rattle.dof_numbers.proofs.NineSteps.{vertices_first, centre_first, nine_row}
use Rattle.dof_numbers.proofs.nine.nine_dofs.Goals as goal

pub middle_dof-requires-clause-holds : goal.middle_dof-requires-clause-holds
middle_dof-requires-clause-holds c =
    vertices_first c.args.forest.now c.args.cell _ _
    (c.in_ok-vertices.ensures.next c.args.forest.now c.args.cell (seen_below 2 c.args.forest.now c.args.cell) c.corners.ensures.names c.requires.cell (λ v b. ap (λ row. slice_index row v) c.corners.ensures.value) c.requires.holds)

pub returns-clause-holds : goal.returns-clause-holds
returns-clause-holds c =
    let t = centre_first c.args.forest.now c.requires.grown c.args.cell (told c.middle_dof-4.new.table.nodes.items c.middle_dof-4.new.table.others.items) c.middle_dof-4.new.table.size c.requires.cell c.in_ok-top.ensures.holds in
    held_by c.args.forest.now _ _ _ _ _ _ _ (ap (λ v. v.items) c.next.ensures.nodes) (ap (λ v. v.items) c.next.ensures.others) c.next.ensures.size t.holds

pub returns-clause-row : goal.returns-clause-row
returns-clause-row c =
    let t = centre_first c.args.forest.now c.requires.grown c.args.cell (told c.middle_dof-4.new.table.nodes.items c.middle_dof-4.new.table.others.items) c.middle_dof-4.new.table.size c.requires.cell c.in_ok-top.ensures.holds in
    nine_row c.args.forest.now c.args.cell c.in_ok-vertices.vertices c.in_ok-left.left c.in_ok-right.right c.in_ok-bottom.bottom c.in_ok-top.top c.next.result c.requires.cell
    (c.in_ok-vertices.ensures.dofs c.args.forest.now c.args.cell (seen_below 2 c.args.forest.now c.args.cell) c.corners.ensures.names c.requires.cell (λ v b. ap (λ row. slice_index row v) c.corners.ensures.value) c.requires.holds)
    c.in_ok-left.ensures.dof c.in_ok-right.ensures.dof c.in_ok-bottom.ensures.dof c.in_ok-top.ensures.dof (c.next.ensures.dof ∙ t.is)
