use Rattle.answer_laws.proofs.SomeReadings.{some_vector}
use Rattle.answer_laws.proofs.parts.vectors_have_a_reading.Goals as goal

pub returns : goal.returns
returns c = (let vector = c.one_vector_reading.ensures in some_vector vector.memory vector.some)
