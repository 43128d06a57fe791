use Rattle.std.proofs.Common.{◌≡◌, map, vec_len}
use Rattle.std.specs.List.{range_with_len}
use Rattle.colored_copier.proofs.PairLaws.{pair_of}
use Rattle.machine_tests.proofs.rounds.make_pairs.Given as goal

abbrev pub invariant-loop-i : goal.invariant-loop-i
invariant-loop-i l = (l.rows.items ≡ map pair_of (range_with_len 0 l.i)) × (vec_len l.rows ≡ l.i)
