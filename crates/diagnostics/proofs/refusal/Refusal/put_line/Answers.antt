use Rattle.diagnostics.proofs.refusal.Refusal.put_line.Goals as goal

pub returns-in-MeshText : goal.returns-in-MeshText
returns-in-MeshText g c = rw c.in-MeshText.is (rw (← c.word.ensures) c.put_named.ensures)

pub returns-in-ProblemText : goal.returns-in-ProblemText
returns-in-ProblemText g c = rw c.in-ProblemText.is (rw (← c.word-in-ProblemText.ensures) c.put_named-in-ProblemText.ensures)

pub returns-in-Mesh : goal.returns-in-Mesh
returns-in-Mesh g c = rw c.in-Mesh.is (rw (← c.word-in-Mesh.ensures) c.put_fault.ensures)

pub returns-in-Constraint : goal.returns-in-Constraint
returns-in-Constraint g c = rw c.in-Constraint.is (rw (← c.word-in-Constraint.ensures) c.put_fault-in-Constraint.ensures)

pub returns-in-Local : goal.returns-in-Local
returns-in-Local g c = rw c.in-Local.is (rw (← c.word-in-Local.ensures) c.put_named-in-Local.ensures)

pub returns-in-Sum : goal.returns-in-Sum
returns-in-Sum g c = rw c.in-Sum.is c.put_sum.ensures

pub returns-in-Absent : goal.returns-in-Absent
returns-in-Absent g c = rw c.in-Absent.is (rw (← c.word-in-Absent.ensures) c.put_word-in-Absent.ensures)

pub returns-in-Vector : goal.returns-in-Vector
returns-in-Vector g c = rw c.in-Vector.is c.put_vector.ensures

pub returns-in-Product : goal.returns-in-Product
returns-in-Product g c = rw c.in-Product.is c.put_fault-in-Product.ensures
