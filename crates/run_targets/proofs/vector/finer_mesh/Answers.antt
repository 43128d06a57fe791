use Rattle.diagnostics.proofs.StageLaws.{ends_first}
use Rattle.system_setup.specs.SetUp.{RefinedFurther}
use Rattle.vector_texts.specs.Marks.{Marks, MarkedOn}
use Rattle.run_targets.proofs.Adapted.{finer_goes, finer_stops}
use Rattle.run_targets.proofs.vector.finer_mesh.Goals as goal

pub returns-in-Err-clause-ends : goal.returns-in-Err-clause-ends
returns-in-Err-clause-ends g c =
    ends_first (MarkedOn c.args.count c.args.values.now c.args.forest) (λ (marks : Marks). RefinedFurther c.args.forest marks.1) c.in-Err.ending c.in-Err.ensures.ends

pub returns-clause-ok : goal.returns-clause-ok
returns-clause-ok g c =
    finer_goes c.args.count c.args.values.now c.args.forest (c.in-Ok.marks.etas.items, c.in-Ok.marks.cells.items) c.deref.result.now c.refined_further.result c.in-Ok.ensures.ok c.deref.ensures.value
    c.refined_further.ensures.ok

pub returns-clause-ends : goal.returns-clause-ends
returns-clause-ends g c =
    finer_stops c.args.count c.args.values.now c.args.forest (c.in-Ok.marks.etas.items, c.in-Ok.marks.cells.items) c.deref.result.now c.refined_further.result c.in-Ok.ensures.ok c.deref.ensures.value
    c.refined_further.ensures.refused
