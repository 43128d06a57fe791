use Rattle.answer_laws.proofs.Clean as clean
use Rattle.answer_laws.proofs.laws.faults_stop_runs.Goals as goal

pub returns : goal.returns
returns c = clean.faults_stop_runs
