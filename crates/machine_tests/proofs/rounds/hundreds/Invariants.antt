use Rattle.std.proofs.Common.{◌≡◌, map}
use Rattle.std.specs.List.{range_with_len}
use Rattle.colored_copier.proofs.PairLaws.{hundred}
use Rattle.machine_tests.proofs.rounds.hundreds.Given as goal

abbrev pub invariant-loop-row : goal.invariant-loop-row
invariant-loop-row l = l.rows.items ≡ map hundred (range_with_len 0 l.row)
