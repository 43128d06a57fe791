use Rattle.system_setup.proofs.Chain.{forest_ends, result_goes, result_ends}
use Rattle.system_setup.proofs.steps.set_up.Goals as goal

pub returns-in-Err-clause-refused : goal.returns-in-Err-clause-refused
returns-in-Err-clause-refused g c = forest_ends c.args.scheme c.args.parts c.args.problem c.in-Err.ending c.in-Err.ensures.refused

pub returns-clause-ok : goal.returns-clause-ok
returns-clause-ok g c =
    result_goes c.args.scheme c.args.parts c.args.problem c.in-Ok.made.1 c.in-Ok.made.0.items c.as_slice.result.now c.set_up_on.result c.in-Ok.ensures.ok c.in-Ok.ensures.ids c.as_slice.ensures.value
    c.set_up_on.ensures.ok

pub returns-clause-refused : goal.returns-clause-refused
returns-clause-refused g c =
    result_ends c.args.scheme c.args.parts c.args.problem c.in-Ok.made.1 c.in-Ok.made.0.items c.as_slice.result.now c.set_up_on.result c.in-Ok.ensures.ok c.in-Ok.ensures.ids c.as_slice.ensures.value
    c.set_up_on.ensures.refused
