use Rattle.std.proofs.Common.{◌≡◌, false, length, arith}
use Rattle.std.proofs.lemmas.Grind.{common_steps}
use Rattle.std.specs.List.{list_any, position_or_len}
use Rattle.run_words.specs.Openings.{begins, is_equals_sign}
use Rattle.run_words.proofs.Cuts.{none_passes}
use Rattle.run_words.proofs.opening.opening_of.Goals as goal

pub returns-in_ok-find_name-in-None : goal.returns-in_ok-find_name-in-None
unfolding begins
returns-in_ok-find_name-in-None c =
    let h : position_or_len is_equals_sign c.args.word.now ≡ length c.args.word.now = c.in-None.ensures.byte (omega arith) (λ w o found. found) in
    let none : list_any is_equals_sign c.args.word.now ≡ false = none_passes is_equals_sign c.args.word.now h in
    grind (arith, common_steps)
