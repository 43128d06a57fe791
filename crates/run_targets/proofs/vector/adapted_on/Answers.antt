use Rattle.std.proofs.Common.{map}
use Rattle.run_words.specs.Choice.{seen}
use Rattle.run_outputs.specs.Targets.{seen_target}
use Rattle.diagnostics.proofs.StageLaws.{ends_first}
use Rattle.run_targets.specs.Defines.{FinerMesh, AssembledOn}
use Rattle.run_targets.proofs.Steps.{next_goes, next_ends}
use Rattle.run_targets.proofs.vector.adapted_on.Goals as goal

pub returns-in-Err-clause-ends : goal.returns-in-Err-clause-ends
returns-in-Err-clause-ends g c =
    ends_first (FinerMesh c.args.count c.args.values.now c.args.forest) (AssembledOn (seen c.args.options.now) c.args.ids.now c.args.problem) c.in-Err.ending c.in-Err.ensures.ends

pub returns-in-Ok-clause-ok : goal.returns-in-Ok-clause-ok
returns-in-Ok-clause-ok g c =
    next_goes (FinerMesh c.args.count c.args.values.now c.args.forest) (AssembledOn (seen c.args.options.now) c.args.ids.now c.args.problem) (λ targets. map seen_target targets.items) c.in-Ok.finer c.texts_on.result
    c.in-Ok.ensures.ok c.texts_on.ensures.ok

pub returns-in-Ok-clause-ends : goal.returns-in-Ok-clause-ends
returns-in-Ok-clause-ends g c =
    next_ends (FinerMesh c.args.count c.args.values.now c.args.forest) (AssembledOn (seen c.args.options.now) c.args.ids.now c.args.problem) c.in-Ok.finer c.texts_on.result c.in-Ok.ensures.ok c.texts_on.ensures.ends
