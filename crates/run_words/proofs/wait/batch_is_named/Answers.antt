use Rattle.run_words.proofs.NamedModes.{batch_named}
use Rattle.run_words.proofs.wait.batch_is_named.Goals as goal

pub returns : goal.returns
returns c = batch_named
