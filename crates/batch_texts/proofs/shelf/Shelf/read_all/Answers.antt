use Rattle.std.proofs.Common.{◌∙◌, refl}
use Rattle.batch_texts.proofs.Gathering.{no_names, names_more, names_done, names_stop}
use Rattle.batch_texts.proofs.shelf.Shelf.read_all.Goals as goal

pub loop-read-init : goal.loop-read-init
loop-read-init g c = (refl, no_names (g.S.Store.holds c.args.store.now) c.args.self.now (g.S.Store.counts c.args.store.now))

pub loop-read-preserved : goal.loop-read-preserved
loop-read-preserved g c = (
  c.in-Ok.ensures.same ∙ c.loop-read.invariant.0,
  names_more c.args.reads.now c.loop-read.read-index _ c.loop-read-test.true (g.S.Store.holds c.args.store.now) (g.S.Store.holds c.loop-read.store) c.args.self.now c.loop-read.self c.read.new.self
      (g.S.Store.counts c.args.store.now) (g.S.Store.counts c.loop-read.store) (g.S.Store.counts c.read.new.store) c.loop-read.invariant.0 c.loop-read.invariant.1 c.in-Ok.ensures.ok c.in-Ok.ensures.calls,
)

pub returns-clause-ok : goal.returns-clause-ok
returns-clause-ok g c =
    names_done (g.S.Store.holds c.args.store.now) c.args.reads.now c.loop-read.read-index c.args.self.now c.loop-read.self (g.S.Store.counts c.args.store.now) (g.S.Store.counts c.loop-read.store) c.loop-read-test.false c.loop-read.invariant.1

pub returns-in-Err-clause-err : goal.returns-in-Err-clause-err
returns-in-Err-clause-err g c =
    names_stop c.args.reads.now c.loop-read.read-index _ c.loop-read-test.true (g.S.Store.holds c.args.store.now) (g.S.Store.holds c.loop-read.store) c.args.self.now c.loop-read.self c.read.new.self
    (g.S.Store.counts c.args.store.now) (g.S.Store.counts c.loop-read.store) (g.S.Store.counts c.read.new.store) c.loop-read.invariant.0 c.loop-read.invariant.1 c.in-Err.fault c.in-Err.ensures.err c.in-Err.ensures.kept c.in-Err.ensures.calls
