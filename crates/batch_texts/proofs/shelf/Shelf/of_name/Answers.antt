use Rattle.batch_texts.proofs.Gathering.{one_name, one_there}
use Rattle.batch_texts.proofs.shelf.Shelf.of_name.Goals as goal

pub returns-in-Ok-clause-ok : goal.returns-in-Ok-clause-ok
returns-in-Ok-clause-ok g c =
    one_name (g.S.Store.holds c.args.store.now) c.args.name.now c.read.new.self (g.S.Store.counts c.args.store.now) (g.S.Store.counts c.read.new.store) (rw c.new-shelf.ensures at c.in-Ok.ensures.ok) (rw c.new-shelf.ensures at c.in-Ok.ensures.calls)

pub returns-in-Ok-clause-there : goal.returns-in-Ok-clause-there
returns-in-Ok-clause-there g c = one_there (g.S.Store.holds c.args.store.now) c.args.name.now c.read.new.self (rw c.new-shelf.ensures at c.in-Ok.ensures.ok)
