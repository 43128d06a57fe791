-- A sum that fails among the first parts fails so, whatever parts follow.
use Rattle.std.proofs.Common.{◌≡◌, ◌∙◌, sym, ap, subst, ℕ, ◌+◌, ◌<◌, ◌≤◌, ◌⊎◌, inl, inr, ⊎_elim, List, [], ◌∷◌, ◌++◌, length, map, take, drop, arith, length-append, slice_index_or, Some, None}
use Rattle.std.specs.Prelude.{IsSome, Ok, Err}
use Rattle.std.specs.declared.option.Option.{Option}
use Rattle.std.specs.List.{range_with_len}
use Rattle.std.proofs.lemmas.Bool.{cases_lt}
use Rattle.std.proofs.lemmas.List.{take-append-le, take-append-drop, get_or_append_left, get_or_past}
use Rattle.std.proofs.lemmas.List.FromFn.{take-map-range_with_len}
use Rattle.fixed_q1.specs.declared.fault.LocalFault.{LocalFault}
use Rattle.serial_sum.specs.Parts.{CellPart}
use Rattle.serial_sum.specs.declared.sum.Failure.{Failure}
use Rattle.serial_sum.specs.declared.sum.Failure.TheVariants.{Local, Sum}
use Rattle.serial_sum.specs.SerialSum.{entry, part_at, FailsLocally, FailsAtRow, Fails, IsLeastRow, FailsFirst, FailsAs, SumIs}

same_part : (xs ys : List CellPart) (t : ℕ) → t < length xs → part_at (xs ++ ys) t ≡ part_at xs t
same_part xs ys t h = get_or_append_left xs ys (record { cell = 0; fault = None; list = [] }) t h

row_ahead : (digits : ℕ) (xs ys : List CellPart) (t row : ℕ) → t < length xs → FailsAtRow digits xs t row → FailsAtRow digits (xs ++ ys) t row
row_ahead digits xs ys t row h f = record {
  within = omega (arith, h, length-append xs ys);
  formed = (let P : CellPart → Type 0 = λ p. p.fault ≡ None in subst P (sym (same_part xs ys t h)) f.formed);
  target = f.target;
  before = (let P : List CellPart → Type 0 = λ ps. IsSome (entry digits ps row f.target) in subst P (sym (take-append-le t xs ys (omega (arith, h)))) f.before);
  after = (let P : List CellPart → Type 0 = λ ps. entry digits ps row f.target ≡ None in subst P (sym (take-append-le (t + 1) xs ys (omega (arith, h)))) f.after);
}

row_back : (digits : ℕ) (xs ys : List CellPart) (t row : ℕ) → t < length xs → FailsAtRow digits (xs ++ ys) t row → FailsAtRow digits xs t row
row_back digits xs ys t row h f = record {
  within = h;
  formed = (let P : CellPart → Type 0 = λ p. p.fault ≡ None in subst P (same_part xs ys t h) f.formed);
  target = f.target;
  before = (let P : List CellPart → Type 0 = λ ps. IsSome (entry digits ps row f.target) in subst P (take-append-le t xs ys (omega (arith, h))) f.before);
  after = (let P : List CellPart → Type 0 = λ ps. entry digits ps row f.target ≡ None in subst P (take-append-le (t + 1) xs ys (omega (arith, h))) f.after);
}

local_ahead : (xs ys : List CellPart) (t : ℕ) (fault : LocalFault) → t < length xs → FailsLocally xs t fault → FailsLocally (xs ++ ys) t fault
local_ahead xs ys t fault h f = let P : CellPart → Type 0 = λ p. p.fault ≡ Some fault in subst P (sym (same_part xs ys t h)) f

local_back : (xs ys : List CellPart) (t : ℕ) (fault : LocalFault) → t < length xs → FailsLocally (xs ++ ys) t fault → FailsLocally xs t fault
local_back xs ys t fault h f = let P : CellPart → Type 0 = λ p. p.fault ≡ Some fault in subst P (same_part xs ys t h) f

fails_ahead : (digits : ℕ) (xs ys : List CellPart) (t : ℕ) → t < length xs → Fails digits xs t → Fails digits (xs ++ ys) t
fails_ahead digits xs ys t h (inl f) = inl (f.0, local_ahead xs ys t f.0 h f.1)
fails_ahead digits xs ys t h (inr f) = inr (f.0, row_ahead digits xs ys t f.0 h f.1)

fails_back : (digits : ℕ) (xs ys : List CellPart) (t : ℕ) → t < length xs → Fails digits (xs ++ ys) t → Fails digits xs t
fails_back digits xs ys t h (inl f) = inl (f.0, local_back xs ys t f.0 h f.1)
fails_back digits xs ys t h (inr f) = inr (f.0, row_back digits xs ys t f.0 h f.1)

none_past : (xs : List CellPart) (t : ℕ) → length xs ≤ t → (part_at xs t).fault ≡ None
none_past xs t h = ap (λ (p : CellPart). p.fault) (get_or_past xs t (record { cell = 0; fault = None; list = [] }) h)

local_within : (xs : List CellPart) (t : ℕ) (fault : LocalFault) → FailsLocally xs t fault → t < length xs
local_within xs t fault f = ⊎_elim (λ (low : t < length xs). low) (λ (high : length xs ≤ t). let e = none_past xs t high in cc) (cases_lt t (length xs))

fails_within : (digits : ℕ) (xs : List CellPart) (t : ℕ) → Fails digits xs t → t < length xs
fails_within digits xs t (inl f) = local_within xs t f.0 f.1
fails_within digits xs t (inr f) = f.1.within

as_ahead : (digits : ℕ) (xs ys : List CellPart) (t : ℕ) (failure : Failure) → t < length xs → FailsAs digits xs t failure → FailsAs digits (xs ++ ys) t failure
as_ahead digits xs ys t (Local cell fault) h f = (ap (λ (p : CellPart). p.cell) (same_part xs ys t h) ∙ f.0, local_ahead xs ys t fault h f.1)
as_ahead digits xs ys t (Sum cell row) h f = (
  ap (λ (p : CellPart). p.cell) (same_part xs ys t h) ∙ f.0,
  record { fails = row_ahead digits xs ys t row h f.1.fails; least = λ other g. f.1.least other (row_back digits xs ys t other h g) },
)

sum_ahead : (digits : ℕ) (pattern : List (List ℕ)) (xs ys : List CellPart) (failure : Failure) → SumIs digits pattern xs (Err failure) → SumIs digits pattern (xs ++ ys) (Err failure)
sum_ahead digits pattern xs ys failure sum =
    let t : ℕ = sum.0 in
    let h : t < length xs = fails_within digits xs t sum.1.fails in (
      t,
      record { fails = fails_ahead digits xs ys t h sum.1.fails; first = λ s before f. sum.1.first s before (fails_back digits xs ys s (omega (arith, before, h)) f) },
      as_ahead digits xs ys t failure h sum.2,
    )

-- the parts of the first cells, and of all
pub first_failure : (digits : ℕ) (pattern : List (List ℕ)) (part : ℕ → CellPart) (k n : ℕ) (failure : Failure) → k ≤ n → SumIs digits pattern (map part (range_with_len 0 k)) (Err failure) →
    SumIs digits pattern (map part (range_with_len 0 n)) (Err failure)
first_failure digits pattern part k n failure h sum =
    let all : List CellPart = map part (range_with_len 0 n) in
    let P : List CellPart → Type 0 = λ ps. SumIs digits pattern ps (Err failure) in
    let front : SumIs digits pattern (take k all) (Err failure) = subst P (sym (take-map-range_with_len part 0 n k h)) sum in
    subst P (take-append-drop k all) (sum_ahead digits pattern (take k all) (drop k all) failure front)
