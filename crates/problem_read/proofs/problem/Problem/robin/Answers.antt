use Rattle.std.proofs.Common.{subst, sym}
use Rattle.std.specs.Prelude.{ℤ, IfSome}
use Rattle.std.specs.declared.option.Option.{Option}
use Rattle.problem_read.specs.Limits.{IsSmall}
use Rattle.problem_read.proofs.Limits.{listed_has}
use Rattle.problem_read.proofs.problem.Problem.robin.Goals as goal

pub returns-clause-small : goal.returns-clause-small
returns-clause-small c =
    let Small : ℤ × ℤ → Type 0 = λ values. IsSmall values.0 × IsSmall values.1 in
    let P : Option (ℤ × ℤ) → Type 0 = λ found. IfSome found Small in
    subst P (sym c.robin.ensures) (listed_has Small c.self.inside.tables.robin c.args.id c.self.invariant.robin)
