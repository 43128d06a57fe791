-- The draws of a seed: a linear congruential generator modulo 2^64.
use Rattle.std.specs.Prelude.{ℕ, ◌+◌, ◌*◌, ◌/◌, ◌%◌}
use Rattle.std.proofs.Common.{zero, suc}

unfoldable pub next_state : ℕ → ℕ
next_state state = (state * 6364136223846793005 + 1442695040888963407) % 18446744073709551616

-- the state after so many draws: the seed, and then each from the one before
unfoldable pub state_after : ℕ → ℕ → ℕ
state_after seed zero = seed
state_after seed (suc k) = next_state (state_after seed k)

-- draw number k, from 1: the state after it, without its low 33 bits
abbrev pub draw : ℕ → ℕ → ℕ
draw seed k = state_after seed k / 8589934592
