use Rattle.std.proofs.Common.{subst, sym, rules, arith, FitsSigned, w64}
use Rattle.std.specs.Prelude.{pos}
use Rattle.std.proofs.lemmas.Int.{to_z-of_z}
use Rattle.problem_read.specs.Limits.{IsSmall}
use Rattle.problem_read.specs.EntryLine.{listed}
use Rattle.problem_read.proofs.Limits.{listed_has, small_or}
use Rattle.problem_read.proofs.problem.Problem.diffusion.Goals as goal

pub returns-clause-small : goal.returns-clause-small
returns-clause-small c =
    let small : IsSmall c.diffusion.result = subst IsSmall (sym c.diffusion.ensures) (small_or (listed c.self.inside.tables.diffusion c.args.material) (pos 65536) (listed_has IsSmall c.self.inside.tables.diffusion c.args.material c.self.invariant.diffusion) (omega arith)) in
    let fits : FitsSigned w64 c.diffusion.result = search rules in
    subst IsSmall (sym (to_z-of_z w64 c.diffusion.result fits)) small
