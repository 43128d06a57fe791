use Rattle.std.proofs.Common.{◌∙◌, map}
use Rattle.run_words.specs.Choice.{seen}
use Rattle.run_outputs.specs.Targets.{seen_target}
use Rattle.run_targets.proofs.Adapted.{forest_ends_adapted, adapted_goes, adapted_ends}
use Rattle.run_targets.proofs.vector.adapted.Goals as goal

pub returns-in-Err-clause-ends : goal.returns-in-Err-clause-ends
returns-in-Err-clause-ends g c = forest_ends_adapted (seen c.args.options.now) c.args.read c.args.count c.args.values.now c.in-Err.ending c.in-Err.ensures.refused

pub returns-clause-ok : goal.returns-clause-ok
returns-clause-ok g c =
    adapted_goes (seen c.args.options.now) c.args.read c.args.count c.args.values.now c.in-Ok.made.1 c.in-Ok.ensures.ok c.as_slice.result.now (c.as_slice.ensures.value ∙ c.in-Ok.ensures.ids)
    (λ targets. map seen_target targets.items) c.adapted_on.result c.adapted_on.ensures.ok

pub returns-clause-ends : goal.returns-clause-ends
returns-clause-ends g c =
    adapted_ends (seen c.args.options.now) c.args.read c.args.count c.args.values.now c.in-Ok.made.1 c.in-Ok.ensures.ok c.as_slice.result.now (c.as_slice.ensures.value ∙ c.in-Ok.ensures.ids) c.adapted_on.result
    c.adapted_on.ensures.ends
