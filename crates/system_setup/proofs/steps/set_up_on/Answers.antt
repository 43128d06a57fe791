use Rattle.diagnostics.proofs.StageLaws.{ends_first}
use Rattle.system_setup.specs.Scheme.{number_of}
use Rattle.system_setup.specs.SetUp.{LinesFor, PatternedFor}
use Rattle.system_setup.proofs.Chain.{pattern_goes, pattern_ends}
use Rattle.system_setup.proofs.steps.set_up_on.Goals as goal

pub returns-in-Err-clause-refused : goal.returns-in-Err-clause-refused
returns-in-Err-clause-refused g c =
    ends_first (LinesFor (number_of c.args.scheme.degree) c.args.ids.now c.args.problem c.args.forest) (PatternedFor c.args.scheme c.args.problem c.args.forest) c.in-Err.ending c.in-Err.ensures.refused

pub returns-in-Ok-clause-ok : goal.returns-in-Ok-clause-ok
returns-in-Ok-clause-ok g c = pattern_goes c.args.scheme c.args.ids.now c.args.problem c.args.forest c.in-Ok.closed c.with_pattern.result c.in-Ok.ensures.ok c.with_pattern.ensures.ok

pub returns-in-Ok-clause-refused : goal.returns-in-Ok-clause-refused
returns-in-Ok-clause-refused g c = pattern_ends c.args.scheme c.args.ids.now c.args.problem c.args.forest c.in-Ok.closed c.with_pattern.result c.in-Ok.ensures.ok c.with_pattern.ensures.refused
