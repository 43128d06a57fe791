use Rattle.std.proofs.Common.{◌≡◌, drop}
use Rattle.fem_text.proofs.words_left.WordsLeft.behind.Given as goal

abbrev pub invariant-loop : goal.invariant-loop
invariant-loop l = l.left ≡ drop l.counter l.words
