use Rattle.std.proofs.Common.{arith, ap, sym, ◌∙◌}
use Rattle.scratch_pool.proofs.Moves.{deals}
use Rattle.scratch_pool.proofs.steps.Places.split.Goals as goal

pub split_seat-requires : goal.split_seat-requires
split_seat-requires g c = (c.requires.0 ∙ sym (ap (λ p. p.table) c.self.view_is), omega (arith, c.self.invariant.0), deals _ _ _ c.requires.1 c.requires.2)
