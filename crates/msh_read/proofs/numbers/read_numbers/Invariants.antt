use Rattle.std.proofs.Common.{◌≡◌, length, fold}
use Rattle.std.specs.Option.{option_map}
use Rattle.fem_fixed.specs.Numbers.{id_of}
use Rattle.fem_text.specs.Words.{all_of}
use Rattle.msh_read.specs.Numbers.{with_number, kept_of}
use Rattle.msh_read.proofs.numbers.read_numbers.Given as goal

-- the ids so far, and those that are left, are all of them
abbrev pub invariant-loop-word : goal.invariant-loop-word
invariant-loop-word l =
    (length l.numbers.last ≡ 4) × (option_map (fold with_number l.numbers) (all_of id_of l.words) ≡ option_map kept_of (all_of id_of l.fn.words))

abbrev pub decreases-loop-word : goal.decreases-loop-word
decreases-loop-word l = length l.words
