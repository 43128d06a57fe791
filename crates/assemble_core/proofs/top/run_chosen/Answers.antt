use Rattle.std.proofs.Common.{map}
use Rattle.std.specs.Prelude.{string_bytes}
use Rattle.assemble_core.specs.Run.{outside}
use Rattle.assemble_core.specs.Batch.{without_batch}
use Rattle.assemble_core.proofs.Taken.{not_asked, plain_is_all, no_batch}
use Rattle.assemble_core.proofs.top.run_chosen.Goals as goal

pub returns : goal.returns
returns g c =
    let words = map string_bytes c.args.words.now in
    without_batch (no_batch words c.wants_wait.result c.wants_wait.ensures c.if-wants_wait.false c.batch_is_named.ensures)
    (plain_is_all words (outside g.S.Store.holds g.S.Store.counts g.K.Sink.taken g.K.Sink.counts c.args.store.now c.args.out.now c.args.err.now)
    (outside g.S.Store.holds g.S.Store.counts g.K.Sink.taken g.K.Sink.counts c.run_plain.new.store c.run_plain.new.out c.run_plain.new.err) c.run_plain.result
    (not_asked words c.wants_wait.result c.wants_wait.ensures c.if-wants_wait.false c.ordered_is_named.ensures) c.run_plain.ensures)
