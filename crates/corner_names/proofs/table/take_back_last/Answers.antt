use Rattle.corner_names.proofs.Keys.{popped}
use Rattle.corner_names.proofs.table.take_back_last.Goals as goal

pub returns-clause-table : goal.returns-clause-table
returns-clause-table c =
    popped c.args.pairs.now.items c.pop.new.self.items c.args.numbers.now c.remove.new.self c.in-Some.pair c.in-Some.ensures.items c.requires.table (λ q. c.remove.ensures.updates.0 q)
