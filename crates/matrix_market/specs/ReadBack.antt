-- Which matrices are read back from their texts.
use Rattle.std.specs.Prelude.{◌<◌, ◌≤◌, ◌^◌, ℕ, ℤ, List, length, All}
use Rattle.std.specs.Int.RustNames.{FitsSigned}
use Rattle.std.specs.List.{concat}
use Rattle.std.specs.Int.{w128}
use Rattle.matrix_market.specs.Entries.{Fills}

-- a square pattern of no more pairs than a text may have, and a value in the range of 128 bits for each
pub record IsReadable (pattern : List (List ℕ)) (values : List (List ℤ)) : Type 0 where
  pub size : length pattern < 2 ^ 32
  pub square : All (All (λ j. j < length pattern)) pattern
  pub few : length (concat pattern) ≤ 33554432
  pub fills : Fills values pattern
  pub range : All (All (FitsSigned w128)) values
