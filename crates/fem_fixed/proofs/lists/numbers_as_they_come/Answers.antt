use Rattle.fem_fixed.proofs.Occurrences.{numbered}
use Rattle.fem_fixed.proofs.lists.numbers_as_they_come.Goals as goal

pub returns : goal.returns
returns g c = λ same laws list. numbered laws list
