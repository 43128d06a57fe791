use Rattle.std.proofs.Common.{subst}
use Rattle.std.specs.Prelude.{Ok, IfOk, IfErr}
use Rattle.system_setup.specs.SetUp.{IsSetUp}
use Rattle.diagnostics.specs.Stages.{EndsIn}
use Rattle.run_targets.proofs.Setups.{few_result}
use Rattle.run_targets.proofs.system.prepare.Goals as goal

pub returns-clause-ok : goal.returns-clause-ok
returns-clause-ok g c =
    subst (λ scheme. IfOk c.set_up.result (λ s. IsSetUp scheme c.args.read.0 c.args.read.1 (Ok s))) c.scheme_of.ensures c.set_up.ensures.ok

pub returns-clause-few : goal.returns-clause-few
returns-clause-few g c = few_result c.scheme_of.result c.args.read.0 c.args.read.1 c.set_up.result c.set_up.ensures.ok

pub returns-clause-ends : goal.returns-clause-ends
returns-clause-ends g c =
    subst (λ scheme. IfErr c.set_up.result (EndsIn (IsSetUp scheme c.args.read.0 c.args.read.1))) c.scheme_of.ensures c.set_up.ensures.refused
