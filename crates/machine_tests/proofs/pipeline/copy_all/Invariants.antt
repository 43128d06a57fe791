use Rattle.std.proofs.Common.{◌≡◌, ℕ}
use Rattle.ordered_pipeline.specs.declared.view.Phase.TheVariants.{Baton}
use Rattle.ordered_pipeline.specs.Passes.{IsSame}
use Rattle.machine_tests.proofs.pipeline.copy_all.Given as goal

abbrev pub invariant-loop-copied : goal.invariant-loop-copied
invariant-loop-copied g l = IsSame l.initial.pass l.pass × (l.pass.over ≡ l.initial.pass.over) × ((n : ℕ) × (l.pass.phase ≡ Baton n))
