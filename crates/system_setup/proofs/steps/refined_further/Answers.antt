use Rattle.system_setup.proofs.Chain.{further_ends}
use Rattle.system_setup.proofs.steps.refined_further.Goals as goal

pub returns-in-Ok-clause-ok : goal.returns-in-Ok-clause-ok
returns-in-Ok-clause-ok c = (c.in-Ok.field-0, c.in-Ok.ensures.ok)

pub returns-in-Err-clause-refused : goal.returns-in-Err-clause-refused
returns-in-Err-clause-refused c = further_ends c.args.forest c.args.cells.now c.in-Err.fault c.refining_ending.result c.refining_ending.ensures c.in-Err.ensures.fault
