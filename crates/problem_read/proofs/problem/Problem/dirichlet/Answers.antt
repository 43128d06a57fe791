use Rattle.std.proofs.Common.{subst, sym}
use Rattle.std.specs.Prelude.{ℤ, IfSome}
use Rattle.std.specs.declared.option.Option.{Option}
use Rattle.problem_read.specs.Limits.{IsSmall}
use Rattle.problem_read.proofs.Limits.{listed_has}
use Rattle.problem_read.proofs.problem.Problem.dirichlet.Goals as goal

pub returns-clause-small : goal.returns-clause-small
returns-clause-small c =
    let P : Option ℤ → Type 0 = λ found. IfSome found IsSmall in
    subst P (sym c.dirichlet.ensures) (listed_has IsSmall c.self.inside.tables.dirichlet c.args.id c.self.invariant.dirichlet)
