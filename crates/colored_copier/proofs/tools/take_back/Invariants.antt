use Rattle.std.proofs.Common.{◌≡◌, ◌+◌, ◌⊎◌, vec_len}
use Rattle.std.specs.List.{All, Any}
use Rattle.std.specs.Vec.{vec_capacity}
use Rattle.colored_copier.specs.Crews.{IsIdleSeat}
use Rattle.colored_copier.specs.Ending.{AreDone}
use Rattle.colored_copier.specs.Hands.{IsFinished}
use Rattle.colored_copier.specs.Phases.{IsOver}
use Rattle.colored_copier.proofs.tools.take_back.Given as goal

abbrev pub invariant-loop-hand : goal.invariant-loop-hand
invariant-loop-hand g l = record {
  hands : All (λ hand. IsFinished l.round l.pool.table hand.pass hand.scratch × g.J.RowJob.has_room l.job hand.copy) l.hands.items;
  done : AreDone l.round.table l.passes.items;
  over : Any (λ hand. IsOver hand.pass.phase) l.hands.items ⊎ Any (λ pass. IsOver pass.phase) l.passes.items;
  count : vec_len l.hands + vec_len l.passes ≡ vec_len l.initial.hands;
  room : vec_capacity l.passes ≡ vec_capacity l.initial.passes;
  idle : All (IsIdleSeat l.pool.table) l.tools.seats.items;
  kept : All (g.J.RowJob.has_room l.job) l.tools.copies.items;
  seats : vec_len l.tools.seats ≡ vec_len l.passes;
  copies : vec_len l.tools.copies ≡ vec_len l.passes;
  seat_room : vec_capacity l.tools.seats ≡ vec_capacity l.initial.tools.seats;
  copy_room : vec_capacity l.tools.copies ≡ vec_capacity l.initial.tools.copies;
}

abbrev pub decreases-loop-hand : goal.decreases-loop-hand
decreases-loop-hand g l = vec_len l.hands
