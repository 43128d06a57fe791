-- Shares of local entries, in units of 2^-32, each with one rounding.
use Rattle.std.specs.Prelude.{◌^◌, ℤ, pos, ◌-ℤ◌, ◌*ℤ◌}
use Rattle.fem_fixed.specs.Rounding.{nearest}

-- a share of a load: the weight is in ticks
unfoldable pub load_share : ℤ → ℤ → ℤ
load_share weight load = nearest (weight *ℤ load) (pos 65536)

-- a share of an entry: both weights are in ticks
unfoldable pub entry_share : ℤ → ℤ → ℤ → ℤ
entry_share weight entry other = nearest (weight *ℤ entry *ℤ other) (pos (2 ^ 32))

-- an entry times a constant goes to the right side, with the other sign
unfoldable pub constant_share : ℤ → ℤ → ℤ → ℤ
constant_share weight entry constant = nearest (pos 0 -ℤ weight *ℤ entry *ℤ constant) (pos (2 ^ 32))
