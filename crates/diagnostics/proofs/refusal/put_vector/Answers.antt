use Rattle.diagnostics.proofs.refusal.put_vector.Goals as goal

pub returns-in-Text : goal.returns-in-Text
returns-in-Text g c = rw c.in-Text.is (rw (← c.word.ensures) c.put_named.ensures)

pub returns-in-Length : goal.returns-in-Length
returns-in-Length g c = rw c.in-Length.is c.put_fault.ensures

pub returns-in-Value : goal.returns-in-Value
returns-in-Value g c = rw c.in-Value.is c.put_fault-in-Value.ensures
