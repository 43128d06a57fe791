use Rattle.std.proofs.Common.{◌≡◌, length, take}
use Rattle.cell_blocks.proofs.local.write_numbers.Given as goal

abbrev pub invariant-loop-i : goal.invariant-loop-i
invariant-loop-i l = record { room : length l.room ≡ 18; written : take l.i l.room ≡ take l.i l.numbers }
