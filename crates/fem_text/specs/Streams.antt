-- What was read from a source and written to a target whose bytes are known.
use Rattle.std.specs.Prelude.{ℕ, ◌≤◌, List, Bool, length, take}
use Rattle.std.specs.declared.option.Option.{Option}
use Rattle.std.specs.Io.KnownBytes.{Consumes, Appends}
use Rattle.fem_text.specs.declared.counts.Counts.{Counts}

-- at most so many bytes were consumed
abbrev pub ConsumesUpTo : Option (List ℕ) → Option (List ℕ) → ℕ → Type 0
ConsumesUpTo before now most = (bytes : List ℕ) × (length bytes ≤ most) × Consumes before now bytes

-- a prefix of the bytes was appended
abbrev pub AppendsPrefix : Option (List ℕ) → Option (List ℕ) → List ℕ → Type 0
AppendsPrefix before now bytes = (n : ℕ) × (n ≤ length bytes) × Appends before now (take n bytes)

-- standard error or standard output, and the counts of the puts to it
pub record Stream : Type 0 where
  pub err : Bool
  pub counts : Counts
