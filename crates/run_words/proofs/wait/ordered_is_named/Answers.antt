use Rattle.run_words.proofs.NamedModes.{ordered_named}
use Rattle.run_words.proofs.wait.ordered_is_named.Goals as goal

pub returns : goal.returns
returns c = ordered_named
