use Rattle.diagnostics.proofs.refusal.put_limit.Goals as goal

pub returns-in-MeshSize : goal.returns-in-MeshSize
returns-in-MeshSize g c = rw c.in-MeshSize.is c.put_word.ensures

pub returns-in-MeshCount : goal.returns-in-MeshCount
returns-in-MeshCount g c = rw c.in-MeshCount.is c.put_fault.ensures

pub returns-in-ProblemSize : goal.returns-in-ProblemSize
returns-in-ProblemSize g c = rw c.in-ProblemSize.is c.put_word-in-ProblemSize.ensures

pub returns-in-ProblemCount : goal.returns-in-ProblemCount
returns-in-ProblemCount g c = rw c.in-ProblemCount.is c.put_fault-in-ProblemCount.ensures

pub returns-in-Level : goal.returns-in-Level
returns-in-Level g c = rw c.in-Level.is c.put_word-in-Level.ensures

pub returns-in-Cells : goal.returns-in-Cells
returns-in-Cells g c = rw c.in-Cells.is c.put_word-in-Cells.ensures

pub returns-in-Entries : goal.returns-in-Entries
returns-in-Entries g c = rw c.in-Entries.is c.put_word-in-Entries.ensures

pub returns-in-VectorSize : goal.returns-in-VectorSize
returns-in-VectorSize g c = rw c.in-VectorSize.is c.put_word-in-VectorSize.ensures
