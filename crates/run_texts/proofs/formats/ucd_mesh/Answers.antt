use Rattle.run_texts.proofs.Faults.{ucd_ends}
use Rattle.run_texts.proofs.formats.ucd_mesh.Goals as goal

pub returns-in-Err-clause-refused : goal.returns-in-Err-clause-refused
returns-in-Err-clause-refused c = ucd_ends c.args.text.now c.in-Err.fault c.ucd_ending.result c.ucd_ending.ensures c.in-Err.ensures.fault
