use Rattle.answer_laws.proofs.Readings.{one_mesh_of}
use Rattle.answer_laws.proofs.parts.mesh_texts_have_one_reading.Goals as goal

pub returns : goal.returns
returns c =
    let ucd = c.one_reading.ensures in
    let msh = c.one_reading-2.ensures in
    one_mesh_of ucd.mesh ucd.fault ucd.apart msh.mesh msh.fault msh.apart
