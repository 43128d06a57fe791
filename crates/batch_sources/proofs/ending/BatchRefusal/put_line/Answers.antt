use Rattle.batch_sources.proofs.ending.BatchRefusal.put_line.Goals as goal

pub returns-in-Text : goal.returns-in-Text
returns-in-Text g c = rw c.in-Text.is c.put_fault.ensures

pub returns-in-Count : goal.returns-in-Count
returns-in-Count g c = rw c.in-Count.is c.put_fault-in-Count.ensures

pub returns-in-Size : goal.returns-in-Size
returns-in-Size g c = rw c.in-Size.is c.put_word.ensures
