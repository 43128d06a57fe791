-- What a round asks of its rows, and what its end promises.
use Rattle.std.specs.Prelude.{◌≡◌, ℕ, ◌<◌, ◌≤◌, ◌^◌, List, map, length}
use mathlib.Core.Option.{some}
use lib.ListN.{get_elem?}
use Rattle.colored_copier.specs.Plans.{In, Rise, row_number}

module _ {J R : Type 0} where
  -- rows rise; each item's rows are rising and among them; no two items share a row; each value fits its row
  pub record Suits (count : J → ℕ) (rows_of : J → ℕ → List ℕ) (fits : J → ℕ → R → Type 0) (job : J) (rows : List (ℕ × R)) : Type 0 where
    pub few : count job ≤ 2 ^ 32
    pub rise : Rise (map row_number rows)
    pub items_rise : (n : ℕ) → n < count job → Rise (rows_of job n)
    pub among : (n r : ℕ) → n < count job → In r (rows_of job n) → In r (map row_number rows)
    pub once : (m n r : ℕ) → m < count job → n < count job → In r (rows_of job m) → In r (rows_of job n) → m ≡ n
    pub fit : (k r : ℕ) (x : R) → get_elem? rows k ≡ some (r, x) → fits job r x

  -- each row that an item names has that item's step, and each other row is as before
  pub record Worked (count : J → ℕ) (rows_of : J → ℕ → List ℕ) (row_step : J → R → ℕ → ℕ → R) (job : J) (old new : List (ℕ × R)) : Type 0 where
    pub as_many : length new ≡ length old
    pub named : (n k r : ℕ) (x : R) → n < count job → In r (rows_of job n) → get_elem? old k ≡ some (r, x) → get_elem? new k ≡ some (r, row_step job x n r)
    pub others : (k r : ℕ) (x : R) → get_elem? old k ≡ some (r, x) → ((n : ℕ) → n < count job → In r (rows_of job n) → ⊥) → get_elem? new k ≡ some (r, x)
