use Rattle.run_words.proofs.Asked.{choice_is_one}
use Rattle.run_words.proofs.reader.one_reading.Goals as goal

pub returns : goal.returns
returns c = choice_is_one
