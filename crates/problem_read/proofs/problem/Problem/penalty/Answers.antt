use Rattle.std.proofs.Common.{subst, sym, rules, arith, FitsSigned, w64}
use Rattle.std.specs.Prelude.{pos}
use Rattle.std.proofs.lemmas.Int.{to_z-of_z}
use Rattle.problem_read.specs.Limits.{IsSmall}
use Rattle.problem_read.proofs.Limits.{small_or}
use Rattle.problem_read.proofs.problem.Problem.penalty.Goals as goal

pub returns-clause-small : goal.returns-clause-small
returns-clause-small c =
    let small : IsSmall c.penalty.result = subst IsSmall (sym c.penalty.ensures) (small_or c.self.inside.tables.penalty (pos 0) c.self.invariant.penalty (omega arith)) in
    let fits : FitsSigned w64 c.penalty.result = search rules in
    subst IsSmall (sym (to_z-of_z w64 c.penalty.result fits)) small
