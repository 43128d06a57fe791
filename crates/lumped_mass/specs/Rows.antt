-- The dofs of cells, and the rows of a cell as a round of a colour takes them.
use Rattle.std.specs.Prelude.{◌≡◌, ◌↔◌, ℕ, ◌<◌, List, [], length, slice_index, slice_index_or}
use Rattle.std.specs.List.{All, Contains}
use Rattle.std.specs.List.Sorted.{IsStrictlyIncreasing}
use Rattle.dof_numbers.specs.Dofs.{Numbering}

-- each of so many cells has four dofs, all below the size
pub record HaveFourEach (count : ℕ) (dofs : Numbering) : Type 0 where
  pub as_many : length dofs.cells ≡ count
  pub four : All (λ row. length row ≡ 4) dofs.cells
  pub below : (cell v : ℕ) → cell < count → v < 4 → slice_index (slice_index_or dofs.cells cell []) v < dofs.size

-- the numbers of the list, rising, each once
pub record IsRising (numbers rising : List ℕ) : Type 0 where
  pub rises : IsStrictlyIncreasing rising
  pub same : (n : ℕ) → Contains rising n ↔ Contains numbers n

-- for each of so many lists one that is rising
pub record AreRising (lists rising : List (List ℕ)) (count : ℕ) : Type 0 where
  pub as_many : length rising ≡ count
  pub each : (k : ℕ) → k < count → IsRising (slice_index_or lists k []) (slice_index_or rising k [])

-- no two of these cells have a row in common
abbrev pub AreApart : List (List ℕ) → List ℕ → Type 0
AreApart rows cells =
    (i j n : ℕ) → i < length cells → j < length cells → Contains (slice_index_or rows (slice_index cells i) []) n → Contains (slice_index_or rows (slice_index cells j) []) n → i ≡ j
