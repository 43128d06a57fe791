use Rattle.std.proofs.Common.{subst, sym, rules, arith, FitsSigned, w64}
use Rattle.std.specs.Prelude.{pos}
use Rattle.std.proofs.lemmas.Int.{to_z-of_z}
use Rattle.problem_read.specs.Limits.{IsSmall}
use Rattle.problem_read.specs.EntryLine.{listed}
use Rattle.problem_read.proofs.Limits.{listed_has, small_or}
use Rattle.problem_read.proofs.problem.Problem.source.Goals as goal

pub returns-clause-small : goal.returns-clause-small
returns-clause-small c =
    let small : IsSmall c.source.result = subst IsSmall (sym c.source.ensures) (small_or (listed c.self.inside.tables.source c.args.material) (pos 0) (listed_has IsSmall c.self.inside.tables.source c.args.material c.self.invariant.source) (omega arith)) in
    let fits : FitsSigned w64 c.source.result = search rules in
    subst IsSmall (sym (to_z-of_z w64 c.source.result fits)) small
