use Rattle.std.proofs.Common.{◌∙◌, ap, refl}
use Rattle.hanging_refine.specs.declared.sides.ActiveSide.TheVariants.{Boundary, Equal, Coarser}
use Rattle.dof_numbers.specs.Table.{told}
use Rattle.dof_numbers.proofs.Held.{held_by}
use Rattle.dof_numbers.proofs.NineSteps.{middle_first, middle_again, middle_numbered}
use Rattle.dof_numbers.proofs.nine.middle_dof.Goals as goal

pub returns-in-Boundary-clause-holds : goal.returns-in-Boundary-clause-holds
returns-in-Boundary-clause-holds c =
    let t = middle_first c.args.forest.now c.requires.grown c.args.cell c.args.face (Boundary c.in-Boundary.field-0) (told c.args.table.now.nodes.items c.args.table.now.others.items) c.args.table.now.size c.requires.cell c.requires.face
    c.in-Boundary.ensures.side c.in-Boundary.ensures.only tt c.requires.holds in
    held_by c.args.forest.now _ _ _ _ _ _ _ (ap (λ v. v.items) c.next.ensures.nodes) (ap (λ v. v.items) c.next.ensures.others) c.next.ensures.size t.holds

pub returns-in-Boundary-clause-dof : goal.returns-in-Boundary-clause-dof
returns-in-Boundary-clause-dof c =
    let t = middle_first c.args.forest.now c.requires.grown c.args.cell c.args.face (Boundary c.in-Boundary.field-0) (told c.args.table.now.nodes.items c.args.table.now.others.items) c.args.table.now.size c.requires.cell c.requires.face
    c.in-Boundary.ensures.side c.in-Boundary.ensures.only tt c.requires.holds in
    c.next.ensures.dof ∙ t.is

pub returns-then-there-cell-clause-holds : goal.returns-then-there-cell-clause-holds
returns-then-there-cell-clause-holds c =
    (middle_again c.args.forest.now c.args.cell c.args.face c.in-Equal.there c.in-Equal.beyond c.args.rows.now (told c.args.table.now.nodes.items c.args.table.now.others.items) c.args.table.now.size _ c.requires.cell c.requires.face
    c.if-there-cell.true c.in-Equal.ensures.side.1 c.in-Equal.ensures.side c.requires.middles refl c.requires.holds).holds

pub returns-then-there-cell-clause-dof : goal.returns-then-there-cell-clause-dof
returns-then-there-cell-clause-dof c =
    (middle_again c.args.forest.now c.args.cell c.args.face c.in-Equal.there c.in-Equal.beyond c.args.rows.now (told c.args.table.now.nodes.items c.args.table.now.others.items) c.args.table.now.size _ c.requires.cell c.requires.face
    c.if-there-cell.true c.in-Equal.ensures.side.1 c.in-Equal.ensures.side c.requires.middles refl c.requires.holds).is

pub returns-else-there-cell-clause-holds : goal.returns-else-there-cell-clause-holds
returns-else-there-cell-clause-holds c =
    let t = middle_first c.args.forest.now c.requires.grown c.args.cell c.args.face (Equal c.in-Equal.there c.in-Equal.beyond) (told c.args.table.now.nodes.items c.args.table.now.others.items) c.args.table.now.size c.requires.cell c.requires.face
    c.in-Equal.ensures.side c.in-Equal.ensures.only c.if-there-cell.false c.requires.holds in
    held_by c.args.forest.now _ _ _ _ _ _ _ (ap (λ v. v.items) c.next-in-Equal.ensures.nodes) (ap (λ v. v.items) c.next-in-Equal.ensures.others) c.next-in-Equal.ensures.size t.holds

pub returns-else-there-cell-clause-dof : goal.returns-else-there-cell-clause-dof
returns-else-there-cell-clause-dof c =
    let t = middle_first c.args.forest.now c.requires.grown c.args.cell c.args.face (Equal c.in-Equal.there c.in-Equal.beyond) (told c.args.table.now.nodes.items c.args.table.now.others.items) c.args.table.now.size c.requires.cell c.requires.face
    c.in-Equal.ensures.side c.in-Equal.ensures.only c.if-there-cell.false c.requires.holds in
    c.next-in-Equal.ensures.dof ∙ t.is

pub returns-in-Coarser-clause-holds : goal.returns-in-Coarser-clause-holds
returns-in-Coarser-clause-holds c =
    let t = middle_first c.args.forest.now c.requires.grown c.args.cell c.args.face (Coarser c.in-Coarser.cell c.in-Coarser.face c.in-Coarser.half) (told c.args.table.now.nodes.items c.args.table.now.others.items) c.args.table.now.size c.requires.cell c.requires.face
    c.in-Coarser.ensures.side c.in-Coarser.ensures.only tt c.requires.holds in
    held_by c.args.forest.now _ _ _ _ _ _ _ (ap (λ v. v.items) c.next-in-Coarser.ensures.nodes) (ap (λ v. v.items) c.next-in-Coarser.ensures.others) c.next-in-Coarser.ensures.size t.holds

pub returns-in-Coarser-clause-dof : goal.returns-in-Coarser-clause-dof
returns-in-Coarser-clause-dof c =
    let t = middle_first c.args.forest.now c.requires.grown c.args.cell c.args.face (Coarser c.in-Coarser.cell c.in-Coarser.face c.in-Coarser.half) (told c.args.table.now.nodes.items c.args.table.now.others.items) c.args.table.now.size c.requires.cell c.requires.face
    c.in-Coarser.ensures.side c.in-Coarser.ensures.only tt c.requires.holds in
    c.next-in-Coarser.ensures.dof ∙ t.is

pub returns-in_ok-dof-in-Finer-clause-holds : goal.returns-in_ok-dof-in-Finer-clause-holds
returns-in_ok-dof-in-Finer-clause-holds c =
    (middle_numbered c.args.forest.now c.requires.named c.args.cell c.args.face c.middle_number.result (told c.args.table.now.nodes.items c.args.table.now.others.items) (told c.corner.new.self.nodes.items c.corner.new.self.others.items)
    c.args.table.now.size c.corner.new.self.size c.in_ok-dof-in-Finer.dof c.requires.cell c.requires.face c.middle_number.ensures c.requires.holds c.in_ok-dof-in-Finer.ensures.value c.in_ok-dof-in-Finer.ensures.table c.in_ok-dof-in-Finer.ensures.size).holds

pub returns-in_ok-dof-in-Finer-clause-dof : goal.returns-in_ok-dof-in-Finer-clause-dof
returns-in_ok-dof-in-Finer-clause-dof c =
    (middle_numbered c.args.forest.now c.requires.named c.args.cell c.args.face c.middle_number.result (told c.args.table.now.nodes.items c.args.table.now.others.items) (told c.corner.new.self.nodes.items c.corner.new.self.others.items)
    c.args.table.now.size c.corner.new.self.size c.in_ok-dof-in-Finer.dof c.requires.cell c.requires.face c.middle_number.ensures c.requires.holds c.in_ok-dof-in-Finer.ensures.value c.in_ok-dof-in-Finer.ensures.table c.in_ok-dof-in-Finer.ensures.size).is
