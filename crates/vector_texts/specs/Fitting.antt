-- Vectors that fit: one value for each degree of freedom, and none too large.
use Rattle.std.specs.Prelude.{◌≡◌, ◌≢◌, ◌⊎◌, ℕ, ◌<◌, ◌≤◌, List, All, length, slice_index_or, ℤ, pos, unsigned_abs, Ok, Err}
use Rattle.std.specs.declared.result.Result.{Result}
use Rattle.diagnostics.specs.declared.kinds.VectorFault.TheVariants.{Length, Value}
use Rattle.diagnostics.specs.declared.refusal.Refusal.{Refusal}
use Rattle.diagnostics.specs.declared.refusal.Refusal.TheVariants.{Vector}

-- the size of the value at a place; 0 past the end of the list
abbrev pub size_at : List ℤ → ℕ → ℕ
size_at values place = unsigned_abs (slice_index_or values place (pos 0))

-- the value at this place is the first above the limit in size
pub record IsFirstLarge (limit : ℕ) (values : List ℤ) (place : ℕ) : Type 0 where
  pub within : place < length values
  pub large : limit < size_at values place
  pub first : (k : ℕ) → k < place → size_at values k ≤ limit

-- there are as many values as are wanted
pub record Fits (size limit : ℕ) (values : List ℤ) : Type 0 where
  pub as_many : length values ≡ size
  pub small : All (λ value. unsigned_abs value ≤ limit) values

-- there are more or fewer values than are wanted; or there are as many, and the one at a place is the first that is too large
pub data Misfits (size limit : ℕ) (values : List ℤ) (refusal : Refusal) : Type 0 where
  by_length : length values ≢ size → refusal ≡ Vector (Length (length values)) → Misfits size limit values refusal
  by_value : length values ≡ size → (place : ℕ) → IsFirstLarge limit values place → refusal ≡ Vector (Value place) → Misfits size limit values refusal

-- the values, where they fit, or why they don't
abbrev pub FittedTo : ℕ → ℕ → List ℤ → Result (List ℤ) Refusal → Type 0
FittedTo size limit values (Ok x) = (x ≡ values) × Fits size limit values
FittedTo size limit values (Err refusal) = Misfits size limit values refusal
