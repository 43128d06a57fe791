use Rattle.diagnostics.proofs.ending.Ending.put_line.Goals as goal

pub returns-in-ReadFault : goal.returns-in-ReadFault
returns-in-ReadFault g c = rw c.in-ReadFault.is (rw (← c.word.ensures) c.put_word.ensures)

pub returns-in-WriteFault : goal.returns-in-WriteFault
returns-in-WriteFault g c = rw c.in-WriteFault.is (rw (← c.word-in-WriteFault.ensures) c.put_word-in-WriteFault.ensures)

pub returns-in-NoMemory : goal.returns-in-NoMemory
returns-in-NoMemory g c = rw c.in-NoMemory.is c.put_word-in-NoMemory.ensures
