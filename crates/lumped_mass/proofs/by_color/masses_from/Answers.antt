use Rattle.std.proofs.Common.{ℕ, ℤ, pos, FitsSigned, rules, get_or, arith}
use Rattle.std.specs.Int.{w128}
use Rattle.std.proofs.lemmas.Int.{to_z-of_z}
use Rattle.lumped_mass.proofs.Wraps.{take_one}
use Rattle.lumped_mass.proofs.by_color.masses_from.Goals as goal

pub loop-entry-preserved : goal.loop-entry-preserved
loop-entry-preserved c =
    let sum : FitsSigned w128 (get_or c.args.sums.now c.loop-entry.entry-index (0, pos 0)).1 = search rules in
    take_one (λ (entry : ℕ × ℤ). entry.1) c.args.sums.now c.loop-entry.values.items c.push.new.self.items c.loop-entry.entry-index (0, pos 0) _ c.loop-entry-test.true c.loop-entry.invariant (to_z-of_z w128 (get_or c.args.sums.now c.loop-entry.entry-index (0, pos 0)).1 sum)
    c.in_ok-push.ensures.items
