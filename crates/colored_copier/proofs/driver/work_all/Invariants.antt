use Rattle.std.proofs.Common.{◌≡◌, ◌≤◌, ◌+◌, ◌-◌, true, MatchBool, cond}
use Rattle.colored_copier.specs.Passes.{IsSame}
use Rattle.colored_copier.specs.Phases.{NotOver, IsOver}
use Rattle.colored_copier.specs.Hands.{after}
use Rattle.colored_copier.proofs.driver.work_all.Given as goal

abbrev pub invariant-loop-over : goal.invariant-loop-over
invariant-loop-over g l = IsSame l.initial.pass l.pass × (l.pass.written ≡ true) × g.J.RowJob.has_room l.job l.copy
    × MatchBool l.over (IsOver l.pass.phase) (NotOver l.pass.phase × (l.next ≤ after l.pass.phase) × (l.next ≤ g.J.RowJob.count l.job))

abbrev pub decreases-loop-over : goal.decreases-loop-over
decreases-loop-over g l = cond l.over 0 (1 + (g.J.RowJob.count l.job - l.next))
