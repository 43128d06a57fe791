use Rattle.answer_laws.proofs.Readings.{one_read}
use Rattle.answer_laws.proofs.parts.sources_have_one_reading.Goals as goal

pub returns : goal.returns
returns c =
    let problem = c.one_reading.ensures in
    one_read c.mesh_texts_have_one_reading.ensures problem.problem problem.fault problem.apart
