use Rattle.std.proofs.Common.{◌<◌, length, sym, subst}
use Rattle.std.specs.Prelude.{IfOk}
use Rattle.cell_blocks.specs.Blocks.{Given, block_of, visit_dofs}
use Rattle.cell_blocks.specs.Views.{given}
use Rattle.cell_blocks.specs.LocalBlocks.{IsBlock}
use Rattle.mesh_visits.specs.declared.visit.Visit.{Visit}
use Rattle.mesh_visits.specs.Within.{IsVisitWithin}
use Rattle.mesh_loop.proofs.Limited.{part_limited, some_of_part}
use Rattle.mesh_loop.proofs.limits.look_up.Goals as goal

pub returns-in-Interior-clause-block : goal.returns-in-Interior-clause-block
returns-in-Interior-clause-block c =
    let g : Given = given c.args.setting.now in
    let P : Visit → Type 0 = λ visit. IfOk (block_of g c.args.cell visit) IsBlock in
    let Q : Visit → Type 0 = IsVisitWithin g.forest in
    let within = subst Q c.in-Interior.is c.requires.visit in
    subst P (sym c.in-Interior.is)
    (part_limited g c.args.cell c.in-Interior.face c.in-Interior.other c.in-Interior.other_face c.in-Interior.here c.in-Interior.there c.requires.numbered c.requires.cell within.1)

pub returns-in-Interior-clause-some : goal.returns-in-Interior-clause-some
returns-in-Interior-clause-some c =
    let g : Given = given c.args.setting.now in
    let P : Visit → Type 0 = λ visit. 0 < length (visit_dofs g c.args.cell visit) in
    subst P (sym c.in-Interior.is) (some_of_part g c.args.cell c.in-Interior.other c.requires.numbered c.requires.cell)
