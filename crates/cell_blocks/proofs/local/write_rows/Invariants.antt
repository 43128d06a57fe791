use Rattle.std.proofs.Common.{◌≡◌, ◌<◌, length, ℕ, take, get_or, []}
use Rattle.cell_blocks.proofs.local.write_rows.Given as goal

abbrev pub invariant-loop-i : goal.invariant-loop-i
invariant-loop-i g l = record {
  room : length l.room ≡ 18;
  written : (k : ℕ) → k < l.i → take g.row.N (get_or l.room k []) ≡ get_or l.rows k [];
}
