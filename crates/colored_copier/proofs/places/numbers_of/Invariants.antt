use Rattle.std.proofs.Common.{◌≡◌, ◌≤◌, map, take, vec_len, length}
use Rattle.std.specs.Vec.{vec_capacity}
use Rattle.colored_copier.specs.Plans.{row_number}
use Rattle.colored_copier.proofs.places.numbers_of.Given as goal

abbrev pub invariant-loop-i : goal.invariant-loop-i
invariant-loop-i g l = (l.numbers.items ≡ map row_number (take l.i l.rows)) × (vec_len l.numbers ≡ l.i) × (length l.rows ≤ vec_capacity l.numbers)
