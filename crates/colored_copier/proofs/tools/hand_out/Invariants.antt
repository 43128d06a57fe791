use Rattle.std.proofs.Common.{◌≡◌, ◌+◌, vec_len}
use Rattle.std.specs.List.{All}
use Rattle.std.specs.Vec.{vec_capacity}
use Rattle.colored_copier.specs.Crews.{IsFreshPass, IsIdleSeat}
use Rattle.colored_copier.specs.Hands.{IsReady}
use Rattle.colored_copier.proofs.tools.hand_out.Given as goal

abbrev pub invariant-loop-pass : goal.invariant-loop-pass
invariant-loop-pass g l = record {
  passes : All (IsFreshPass l.round) l.passes.items;
  seats : All (IsIdleSeat l.pool.table) l.tools.seats.items;
  copies : All (g.J.RowJob.has_room l.job) l.tools.copies.items;
  ready : All (λ hand. IsReady l.round l.pool.table hand.pass hand.scratch × g.J.RowJob.has_room l.job hand.copy) l.hands.items;
  as_many : vec_len l.tools.seats ≡ vec_len l.passes;
  copies_too : vec_len l.tools.copies ≡ vec_len l.passes;
  count : vec_len l.hands + vec_len l.passes ≡ vec_len l.initial.passes;
  room : vec_capacity l.hands ≡ vec_capacity l.initial.hands;
  kept : vec_capacity l.passes ≡ vec_capacity l.initial.passes;
  seat_room : vec_capacity l.tools.seats ≡ vec_capacity l.initial.tools.seats;
  copy_room : vec_capacity l.tools.copies ≡ vec_capacity l.initial.tools.copies;
}

abbrev pub decreases-loop-pass : goal.decreases-loop-pass
decreases-loop-pass g l = vec_len l.passes
