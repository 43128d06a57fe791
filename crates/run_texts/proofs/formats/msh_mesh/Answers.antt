use Rattle.run_texts.proofs.Faults.{msh_ends}
use Rattle.run_texts.proofs.formats.msh_mesh.Goals as goal

pub returns-in-Err-clause-refused : goal.returns-in-Err-clause-refused
returns-in-Err-clause-refused c = msh_ends c.args.text.now c.in-Err.fault c.msh_ending.result c.msh_ending.ensures c.in-Err.ensures.fault
