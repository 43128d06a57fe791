use Rattle.std.proofs.Common.{◌≡◌, map, take}
use Rattle.run_outputs.specs.Targets.{World, seen_target, after_targets}
use Rattle.run_outputs.proofs.write.write_targets.Given as goal

-- the texts before this one are written
abbrev pub invariant-loop-target : goal.invariant-loop-target
invariant-loop-target g l = ◌≡◌ {A = World} (record { holds = g.S.Store.holds l.store; taken = g.K.Sink.taken l.out; store = g.S.Store.counts l.store; out = g.K.Sink.counts l.out }) (after_targets (record { holds = g.S.Store.holds l.initial.store; taken = g.K.Sink.taken l.initial.out; store = g.S.Store.counts l.initial.store; out = g.K.Sink.counts l.initial.out }) (map seen_target (take l.target-index l.targets)))
