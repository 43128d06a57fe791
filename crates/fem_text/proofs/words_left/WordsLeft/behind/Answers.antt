use Rattle.fem_text.proofs.FirstWords.{drop_next}
use Rattle.fem_text.proofs.words_left.WordsLeft.behind.Goals as goal

pub loop-preserved : goal.loop-preserved
loop-preserved c = drop_next c.loop.counter c.args.words.now c.loop.left c.next_word.new.self c.next_word.result c.loop.invariant c.next_word.ensures
