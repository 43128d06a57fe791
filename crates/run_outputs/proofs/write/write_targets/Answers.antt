use Rattle.std.proofs.Common.{◌≡◌, sym}
use Rattle.run_outputs.proofs.Written.{stops_at, writes_next}
use Rattle.run_outputs.proofs.write.write_targets.Goals as goal

pub returns-in-Err-clause-stops : goal.returns-in-Err-clause-stops
returns-in-Err-clause-stops g c =
    stops_at c.args.targets.now c.loop-target.target-index c.target-item.result (record { holds = g.S.Store.holds c.args.store.now; taken = g.K.Sink.taken c.args.out.now; store = g.S.Store.counts c.args.store.now; out = g.K.Sink.counts c.args.out.now }) (record { holds = g.S.Store.holds c.loop-target.store; taken = g.K.Sink.taken c.loop-target.out; store = g.S.Store.counts c.loop-target.store; out = g.K.Sink.counts c.loop-target.out }) (record { holds = g.S.Store.holds c.write_target.new.store; taken = g.K.Sink.taken c.write_target.new.out; store = g.S.Store.counts c.write_target.new.store; out = g.K.Sink.counts c.write_target.new.out })
    c.in-Err.ending c.loop-target-test.true (sym c.target-item.is) c.loop-target.invariant c.in-Err.ensures.stops

pub loop-target-preserved : goal.loop-target-preserved
loop-target-preserved g c =
    writes_next c.args.targets.now c.loop-target.target-index c.target-item.result (record { holds = g.S.Store.holds c.args.store.now; taken = g.K.Sink.taken c.args.out.now; store = g.S.Store.counts c.args.store.now; out = g.K.Sink.counts c.args.out.now }) (record { holds = g.S.Store.holds c.loop-target.store; taken = g.K.Sink.taken c.loop-target.out; store = g.S.Store.counts c.loop-target.store; out = g.K.Sink.counts c.loop-target.out }) (record { holds = g.S.Store.holds c.write_target.new.store; taken = g.K.Sink.taken c.write_target.new.out; store = g.S.Store.counts c.write_target.new.store; out = g.K.Sink.counts c.write_target.new.out })
    c.loop-target-test.true (sym c.target-item.is) c.loop-target.invariant c.in-Ok.ensures.all
