use Rattle.problem_read.proofs.Limits.{tie_within}
use Rattle.problem_read.proofs.problem.Problem.tie.Goals as goal

pub returns-clause-within : goal.returns-clause-within
returns-clause-within c =
    tie_within c.self.inside.tables.ties c.args.k (record { node = c.tie.result.0; terms = c.tie.result.1.now; constant = c.tie.result.2 }) c.self.invariant.each_tie c.tie.ensures
