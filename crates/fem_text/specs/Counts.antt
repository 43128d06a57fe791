-- What an object of the outside counts, and what its counts say of its calls.
use Rattle.std.specs.Prelude.{◌≡◌, ℕ, zero, suc, ◌+◌, ◌-◌, ◌/◌, ◌^◌, List, length, Bool, true, false, min, if◌then◌else◌, OnOk, OnErr}
use Rattle.std.specs.declared.result.Result.{Result}
use Rattle.fem_text.specs.declared.counts.Counts.{Counts}

-- one more; a count stays at the end of its type
abbrev pub one_more : ℕ → ℕ
one_more count = min (count + 1) (2 ^ 64 - 1)

-- before the first call
abbrev pub no_calls : Counts
no_calls = record { calls = 0; faults = 0; failed_last = false }

-- so many calls, none of which failed
abbrev pub none_failed : ℕ → Counts
none_failed calls = record { calls = calls; faults = 0; failed_last = false }

-- after one more call, which failed or didn't
abbrev pub after_call : Bool → Counts → Counts
after_call failed before = record {
  calls = one_more before.calls;
  faults = if failed then one_more before.faults else before.faults;
  failed_last = failed;
}

-- after so many calls that went well
abbrev pub after_good : ℕ → Counts → Counts
after_good zero before = before
after_good (suc more) before = after_call false (after_good more before)

-- the count of faults rose by one
abbrev pub Rose : Counts → Counts → Type 0
Rose before now = now.faults ≡ one_more before.faults

-- some calls went well
abbrev pub AllWell : Counts → Counts → Type 0
AllWell before now = (many : ℕ) × (now ≡ after_good many before)

-- some calls went well, and the last one failed
abbrev pub EndsInFault : Counts → Counts → Type 0
EndsInFault before now = (many : ℕ) × (now ≡ after_call true (after_good many before))

-- an error comes only where the last call failed, and no other did; no success hides a fault
pub record HasCause {T E : Type 0} (before now : Counts) (result : Result T E) : Type 0 where
  pub failed : OnErr result (EndsInFault before now)
  pub kept : OnOk result (AllWell before now)

-- how many puts of 512 bytes, the last one shorter, a text takes
abbrev pub pieces : List ℕ → ℕ
pieces text = (length text + 511) / 512
