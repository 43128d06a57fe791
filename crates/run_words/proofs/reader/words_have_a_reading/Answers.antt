use Rattle.run_words.proofs.SomeWords.{asked_or_not}
use Rattle.run_words.proofs.reader.words_have_a_reading.Goals as goal

pub returns : goal.returns
returns c = asked_or_not
