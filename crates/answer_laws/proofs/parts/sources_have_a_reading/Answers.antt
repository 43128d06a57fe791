use Rattle.answer_laws.proofs.SomeReadings.{some_read}
use Rattle.answer_laws.proofs.parts.sources_have_a_reading.Goals as goal

pub returns : goal.returns
returns c =
    let ucd = c.one_reading.ensures in
    let msh = c.one_reading-2.ensures in
    let problem = c.one_reading-3.ensures in
    some_read ucd.memory ucd.some msh.memory msh.some problem.memory problem.some
