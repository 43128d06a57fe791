use Rattle.fem_text.proofs.Counted.{none_rise, no_cause}
use Rattle.fem_text.proofs.laws.calls_never_fail.Goals as goal

pub returns-clause-rises : goal.returns-clause-rises
returns-clause-rises g c = none_rise

pub returns-clause-errors : goal.returns-clause-errors
returns-clause-errors g c = no_cause
