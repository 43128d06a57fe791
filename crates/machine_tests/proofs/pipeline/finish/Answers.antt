use Rattle.std.proofs.Common.{ap}
use Rattle.machine_tests.proofs.pipeline.finish.Goals as goal

pub copy_all-requires-clause-baton : goal.copy_all-requires-clause-baton
copy_all-requires-clause-baton g c = (c.args.worked, ap (λ p. p.phase) c.in-Baton.ensures.found)
