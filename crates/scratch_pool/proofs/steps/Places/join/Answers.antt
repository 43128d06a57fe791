use Rattle.std.proofs.Common.{arith, ap, sym, ◌∙◌}
use Rattle.scratch_pool.proofs.Moves.{joins}
use Rattle.scratch_pool.proofs.steps.Places.join.Goals as goal

pub join_seat-requires : goal.join_seat-requires
join_seat-requires g c =
    let back = sym (ap (λ p. p.table) c.self.view_is) in
    let idle = c.requires.other.1 in
    (c.requires.seat.0 ∙ back, c.requires.other.0 ∙ back, idle.2, omega (arith, c.self.invariant.0), joins _ _ _ _ _ c.requires.seat.1 idle.1)
