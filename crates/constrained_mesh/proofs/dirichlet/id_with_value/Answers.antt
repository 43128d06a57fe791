use Rattle.std.proofs.Common.{◌∙◌, sym, ap, refl, true, false}
use Rattle.std.specs.Prelude.{is_some}
use Rattle.hanging_refine.specs.declared.sides.ActiveSide.TheVariants.{Equal, Coarser, Finer}
use Rattle.constrained_mesh.proofs.OuterFaces.{outer_is, inner_is}
use Rattle.constrained_mesh.proofs.dirichlet.id_with_value.Goals as goal

pub returns-then-is_some : goal.returns-then-is_some
returns-then-is_some c =
    (outer_is c.args.forest.now c.args.problem.now c.args.cell c.args.face c.in-Boundary.id true c.in-Boundary.ensures.side.0 c.in-Boundary.ensures.side.1 (ap is_some (sym c.dirichlet.ensures.value) ∙ sym c.if-is_some.ensures), c.in-Boundary.ensures.side.1)

pub returns-else-is_some : goal.returns-else-is_some
returns-else-is_some c =
    outer_is c.args.forest.now c.args.problem.now c.args.cell c.args.face c.in-Boundary.id false c.in-Boundary.ensures.side.0 c.in-Boundary.ensures.side.1 (ap is_some (sym c.dirichlet.ensures.value) ∙ sym c.if-is_some.ensures)

pub returns-in-Equal : goal.returns-in-Equal
returns-in-Equal c = inner_is c.args.forest.now c.args.problem.now c.args.cell c.args.face (Equal c.in-Equal.cell c.in-Equal.face) c.requires.grown c.requires.cell c.requires.face c.in-Equal.ensures.side c.in-Equal.ensures.only refl

pub returns-in-Coarser : goal.returns-in-Coarser
returns-in-Coarser c = inner_is c.args.forest.now c.args.problem.now c.args.cell c.args.face (Coarser c.in-Coarser.cell c.in-Coarser.face c.in-Coarser.half) c.requires.grown c.requires.cell c.requires.face c.in-Coarser.ensures.side c.in-Coarser.ensures.only refl

pub returns-in-Finer : goal.returns-in-Finer
returns-in-Finer c = inner_is c.args.forest.now c.args.problem.now c.args.cell c.args.face (Finer c.in-Finer.cells c.in-Finer.faces) c.requires.grown c.requires.cell c.requires.face c.in-Finer.ensures.side c.in-Finer.ensures.only refl
