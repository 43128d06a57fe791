use Rattle.answer_laws.proofs.Readings.{one_vector_of}
use Rattle.answer_laws.proofs.parts.vectors_have_one_reading.Goals as goal

pub returns : goal.returns
returns c = (let vector = c.one_vector_reading.ensures in one_vector_of vector.values vector.fault vector.apart)
