use Rattle.batch_laws.proofs.Doing.{others_refuse}
use Rattle.batch_laws.proofs.runs.other_runs_refuse_batches.Goals as goal

pub returns : goal.returns
returns c = others_refuse c.refused_words_have_status_2.ensures c.batches_ask_for_nothing_else.ensures
