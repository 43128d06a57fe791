use Rattle.std.proofs.Common.{map, sym, subst, Vec, Global}
use Rattle.run_outputs.specs.declared.target.Target.{Target}
use Rattle.std.specs.Prelude.{Ok, string_bytes}
use Rattle.run_words.specs.Choice.{seen}
use Rattle.run_outputs.specs.Targets.{seen_target}
use Rattle.assemble_core.specs.Modes.{all_modes}
use Rattle.run_targets.specs.Defines.{Defines}
use Rattle.assemble_core.proofs.Endings.{words_leave, defining_leaves, written_leaves}
use Rattle.assemble_core.proofs.top.work.Goals as goal

pub returns-in_default : goal.returns-in_default
returns-in_default g c =
    words_leave all_modes (map string_bytes c.args.words.now)
    (record { holds = g.S.Store.holds c.args.store.now; taken = g.K.Sink.taken c.args.out.now; store = g.S.Store.counts c.args.store.now; out = g.K.Sink.counts c.args.out.now })
    c.in_default.ensures.refused

pub returns-in-Err : goal.returns-in-Err
returns-in-Err g c =
    defining_leaves (Vec Target Global) all_modes (map string_bytes c.args.words.now) (seen c.in-Some.options) (g.S.Store.holds c.args.store.now) (g.S.Store.holds c.all_targets.new.store) (g.K.Sink.taken c.args.out.now)
    (g.S.Store.counts c.args.store.now) (g.S.Store.counts c.all_targets.new.store) (g.K.Sink.counts c.args.out.now) c.in-Err.ending
    c.in-Some.ensures.asked c.in-Err.ensures.ends c.in-Err.ensures.same c.in-Err.ensures.calls

pub returns : goal.returns
returns g c =
    written_leaves all_modes (map string_bytes c.args.words.now) (seen c.in-Some.options) (g.S.Store.holds c.args.store.now) (g.S.Store.holds c.all_targets.new.store) (g.K.Sink.taken c.args.out.now)
    (g.S.Store.counts c.args.store.now) (g.S.Store.counts c.all_targets.new.store) (g.K.Sink.counts c.args.out.now)
    (record { holds = g.S.Store.holds c.write_targets.new.store; taken = g.K.Sink.taken c.write_targets.new.out; store = g.S.Store.counts c.write_targets.new.store; out = g.K.Sink.counts c.write_targets.new.out })
    (map seen_target c.as_slice.result.now) c.write_targets.result c.in-Some.ensures.asked
    (subst (λ items. Defines (g.S.Store.holds c.args.store.now) (seen c.in-Some.options) (Ok (map seen_target items))) (sym c.as_slice.ensures.value) c.in-Ok.ensures.ok)
    c.in-Ok.ensures.same c.in-Ok.ensures.calls c.write_targets.ensures.all c.write_targets.ensures.stops
