use Rattle.std.proofs.Common.{subst}
use Rattle.std.specs.Prelude.{Ok, IfOk, IfErr}
use Rattle.system_setup.specs.SetUp.{SetUpOn}
use Rattle.diagnostics.specs.Stages.{EndsIn}
use Rattle.run_targets.proofs.Setups.{few_result_on}
use Rattle.run_targets.proofs.system.prepare_on.Goals as goal

pub returns-clause-ok : goal.returns-clause-ok
returns-clause-ok g c =
    subst (λ scheme. IfOk c.set_up_on.result (λ s. SetUpOn scheme c.args.ids.now c.args.problem c.args.forest (Ok s))) c.scheme_of.ensures c.set_up_on.ensures.ok

pub returns-clause-few : goal.returns-clause-few
returns-clause-few g c = few_result_on c.scheme_of.result c.args.ids.now c.args.problem c.args.forest c.set_up_on.result c.set_up_on.ensures.ok

pub returns-clause-ends : goal.returns-clause-ends
returns-clause-ends g c =
    subst (λ scheme. IfErr c.set_up_on.result (EndsIn (SetUpOn scheme c.args.ids.now c.args.problem c.args.forest))) c.scheme_of.ensures c.set_up_on.ensures.refused
