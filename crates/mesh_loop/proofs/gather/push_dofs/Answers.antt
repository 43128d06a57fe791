use Rattle.std.proofs.Common.{◌<◌, ℕ, sym, subst}
use Rattle.std.specs.List.{All}
use Rattle.std.proofs.lemmas.List.Elements.{All-append}
use Rattle.cell_blocks.specs.Blocks.{Given, dofs_of, visit_dofs}
use Rattle.mesh_visits.specs.declared.visit.Visit.{Visit}
use Rattle.mesh_loop.specs.Parts.{shown}
use Rattle.mesh_loop.proofs.gather.push_dofs.Goals as goal

pub returns-in_ok-push_cell_dofs-in-Interior-2-clause-below : goal.returns-in_ok-push_cell_dofs-in-Interior-2-clause-below
returns-in_ok-push_cell_dofs-in-Interior-2-clause-below c =
    let given : Given = (shown c.args.source.now).given in
    let P : Visit → Type 0 = λ visit. All (λ dof. dof < given.dofs.size) (visit_dofs given c.args.cell visit) in
    let Q : ℕ → Type 0 = λ dof. dof < given.dofs.size in
    subst P (sym c.in-Interior.is) (All-append Q (dofs_of given c.args.cell) (dofs_of given c.in-Interior.other) c.in_ok-push_cell_dofs-in-Interior.ensures.below c.in_ok-push_cell_dofs-in-Interior-2.ensures.below)
