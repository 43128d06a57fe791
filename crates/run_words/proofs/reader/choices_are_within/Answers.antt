use Rattle.run_words.proofs.Within.{choice_within}
use Rattle.run_words.proofs.reader.choices_are_within.Goals as goal

pub returns : goal.returns
returns c = choice_within
