use Rattle.std.proofs.Common.{arith, ap, ◌∙◌, ◌≡◌}
use Rattle.std.specs.Slots.{slots_len, slots_counts}
use Rattle.scratch_pool.proofs.Moves.{all_home}
use Rattle.scratch_pool.proofs.steps.Places.close.Goals as goal

pub returns : goal.returns
returns g c =
    let laid = c.self.invariant in
    let values = c.close_with.ensures.values in
    let len : slots_len c.close_with.result.slots ≡ c.args.self.objects = c.close_with.ensures.counts.1 ∙ (laid.1 ∙ ap (λ p. p.objects) c.self.view_is) in
    let all : c.args.seat.me.0.parts ≡ c.self.inside.table.shared.key = omega (arith, c.requires.1, laid.4, ap (λ p. p.seats) c.self.view_is) in
    (len, values.1, λ k lt. all_home _ _ _ _ _ all c.requires.2 values.2 k (omega (arith, len, (slots_counts c.close_with.result.slots).0, lt)))
