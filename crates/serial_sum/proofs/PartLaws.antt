-- Parts one after another: where the sum fails first, and that it has one answer.
use Rattle.std.proofs.Common.{◌≡◌, ◌∙◌, sym, ap, refl, ℕ, ◌+◌, ◌≤◌, ◌<◌, List, [], ◌∷◌, ◌++◌, ℤ, pos, arith, append_assoc, append-nil, inl, inr, length, take, drop, subst}
use Rattle.std.specs.Prelude.{Some, None, IsSome, ◌⊎◌, Ok, Err}
use Rattle.std.specs.declared.option.Option.{Option}
use Rattle.std.specs.declared.result.Result.{Result}
use Rattle.std.proofs.lemmas.Bool.{cases_lt}
use Rattle.std.proofs.lemmas.List.{get_or_past, take-append-drop}
use Rattle.std.proofs.lemmas.List.Concat.{flat_map-append, flat_map-cons}
use Rattle.std.proofs.lemmas.Grind.{common_steps}
use Rattle.serial_sum.specs.declared.part.Target.{Target}
use Rattle.serial_sum.specs.declared.part.Contribution.{Contribution}
use Rattle.fixed_q1.specs.declared.fault.LocalFault.{LocalFault}
use Rattle.serial_sum.specs.declared.sum.Failure.{Failure}
use Rattle.serial_sum.specs.declared.sum.Failure.TheVariants.{Local, Sum}
use Rattle.serial_sum.specs.SerialSum.{contributions, sum_of, entry, part_at, FailsLocally, FailsAtRow, Fails, FailsFirst, HasSum, FailsAs, SumIs, sum_rows}
use Rattle.serial_sum.proofs.EntryLaws.{Holds, SomeHolds, none_stays, holds_none, some_all}
use Rattle.sparsity.specs.declared.rows.Row.{Row}
use Rattle.serial_sum.specs.Parts.{CellPart}

pub some_is : (o : Option ℤ) (v : ℤ) → o ≡ Some v → IsSome o
some_is None v h = cc
some_is (Some a) v h = refl

not_both : (o : Option ℤ) → IsSome o → o ≡ None → ⊥
not_both None h e = cc
not_both (Some a) h e = cc

no_fault : (o : Option LocalFault) (fault : LocalFault) → o ≡ None → o ≡ Some fault → ⊥
no_fault o fault e f = cc

no_part : CellPart
no_part = record { cell = 0; fault = None; list = [] }

-- the parts as they stand before a further one, and with it
front_part : (done more : List CellPart) (s : ℕ) → s < length done → part_at (done ++ more) s ≡ part_at done s
front_part done more s h = grind (arith, common_steps)

front_take : (done more : List CellPart) (s : ℕ) → s ≤ length done → take s (done ++ more) ≡ take s done
front_take done more s h = grind (arith, common_steps)

pub last_part : (done : List CellPart) (p : CellPart) → part_at (done ++ p ∷ []) (length done) ≡ p
last_part done p = grind (arith, common_steps)

pub before_last : (done : List CellPart) (p : CellPart) → take (length done) (done ++ p ∷ []) ≡ done
before_last done p = grind (arith, common_steps)

pub count_more : (done : List CellPart) (p : CellPart) → length (done ++ p ∷ []) ≡ length done + 1
count_more done p = grind (arith, common_steps)

pub take_whole : (xs : List CellPart) (n : ℕ) → length xs ≤ n → take n xs ≡ xs
take_whole xs n h = grind (arith, common_steps)

past_part : (parts : List CellPart) (t : ℕ) → length parts ≤ t → (part_at parts t).fault ≡ None
past_part parts t h = ap (λ (p : CellPart). p.fault) (get_or_past parts t (record { cell = 0; fault = None; list = [] }) h)

pub list_more : (done : List CellPart) (p : CellPart) → contributions (done ++ p ∷ []) ≡ contributions done ++ p.list
list_more done p =
    flat_map-append (λ (q : CellPart). q.list) done (p ∷ []) ∙ ap (λ xs. contributions done ++ xs) (flat_map-cons (λ (q : CellPart). q.list) p [] ∙ append-nil p.list)

-- an entry that is a number after all parts is one after fewer
earlier : (digits : ℕ) (parts : List CellPart) (s i : ℕ) (t : Target) → IsSome (entry digits parts i t) → entry digits (take s parts) i t ≡ None → ⊥
earlier digits parts s i t some none =
    let whole : contributions parts ≡ contributions (take s parts) ++ contributions (drop s parts) =
    ap contributions (sym (take-append-drop s parts)) ∙ flat_map-append (λ (q : CellPart). q.list) (take s parts) (drop s parts) in
    not_both (entry digits parts i t) some
    (ap (λ xs. sum_of digits xs i t) whole ∙ none_stays digits (contributions (take s parts)) (contributions (drop s parts)) i t none)

-- a part that fails, with further parts or without
row_fails_more : (digits : ℕ) (done more : List CellPart) (t row : ℕ) → FailsAtRow digits done t row → FailsAtRow digits (done ++ more) t row
row_fails_more digits done more t row at = record {
  within = inside done more t at.within;
  formed = ap (λ (p : CellPart). p.fault) (front_part done more t at.within) ∙ at.formed;
  target = at.target;
  before = (let P : List CellPart → Type 0 = λ xs. IsSome (entry digits xs row at.target) in subst P (sym (front_take done more t (omega (arith, at.within)))) at.before);
  after = ap (λ xs. entry digits xs row at.target) (front_take done more (t + 1) (omega (arith, at.within))) ∙ at.after;
}
  where
    inside : (done more : List CellPart) (t : ℕ) → t < length done → t < length (done ++ more)
    inside done more t h = grind (arith, common_steps)

row_fails_front : (digits : ℕ) (done more : List CellPart) (t row : ℕ) → t < length done → FailsAtRow digits (done ++ more) t row → FailsAtRow digits done t row
row_fails_front digits done more t row h at = record {
  within = h;
  formed = ap (λ (p : CellPart). p.fault) (sym (front_part done more t h)) ∙ at.formed;
  target = at.target;
  before = (let P : List CellPart → Type 0 = λ xs. IsSome (entry digits xs row at.target) in subst P (front_take done more t (omega (arith, h))) at.before);
  after = ap (λ xs. entry digits xs row at.target) (sym (front_take done more (t + 1) (omega (arith, h)))) ∙ at.after;
}

fails_front : (digits : ℕ) (done more : List CellPart) (t : ℕ) → t < length done → Fails digits (done ++ more) t → Fails digits done t
fails_front digits done more t h (inl (fault, at)) = inl (fault, ap (λ (p : CellPart). p.fault) (sym (front_part done more t h)) ∙ at)
fails_front digits done more t h (inr (row, at)) = inr (row, row_fails_front digits done more t row h at)

fails_within : (digits : ℕ) (parts : List CellPart) (t : ℕ) → Fails digits parts t → t < length parts
fails_within digits parts t (inr (row, at)) = at.within
fails_within digits parts t (inl (fault, at)) = elim (cases_lt t (length parts)) [ inl h ↦ h | inr h ↦ absurd (no_fault (part_at parts t).fault fault (past_part parts t h) at) ]

fails_back : (digits : ℕ) (done more : List CellPart) (t : ℕ) → Fails digits done t → Fails digits (done ++ more) t
fails_back digits done more t (inl (fault, at)) =
    inl (fault, ap (λ (p : CellPart). p.fault) (front_part done more t (fails_within digits done t (inl (fault, at)))) ∙ at)
fails_back digits done more t (inr (row, at)) = inr (row, row_fails_more digits done more t row at)

-- the sum fails, and so
abbrev pub Failing : ℕ → List CellPart → Failure → Type 0
Failing digits parts failure = (t : ℕ) × FailsFirst digits parts t × FailsAs digits parts t failure

as_more : (digits : ℕ) (done more : List CellPart) (t : ℕ) (failure : Failure) → t < length done → FailsAs digits done t failure → FailsAs digits (done ++ more) t failure
as_more digits done more t (Local cell fault) h (same, at) =
    (ap (λ (p : CellPart). p.cell) (front_part done more t h) ∙ same, ap (λ (p : CellPart). p.fault) (front_part done more t h) ∙ at)
as_more digits done more t (Sum cell row) h (same, at) = (
  ap (λ (p : CellPart). p.cell) (front_part done more t h) ∙ same,
  record { fails = row_fails_more digits done more t row at.fails; least = λ other k. at.least other (row_fails_front digits done more t other h k) },
)

-- a sum that has failed stays so
pub failing_more : (digits : ℕ) (done more : List CellPart) (failure : Failure) → Failing digits done failure → Failing digits (done ++ more) failure
failing_more digits done more failure (t, first, says) =
    let h : t < length done = fails_within digits done t first.fails in
    (t, record { fails = fails_back digits done more t first.fails; first = λ s less k. first.first s less (fails_front digits done more s (omega (arith, less, h)) k) }, as_more digits done more t failure h says)

-- no part has failed, and these are the values
pub record Whole (digits : ℕ) (parts : List CellPart) (value : ℕ → Target → ℤ) : Type 0 where
  pub forms : (t : ℕ) → (part_at parts t).fault ≡ None
  pub holds : Holds digits value (contributions parts) None

pub whole_entry : (digits : ℕ) (parts : List CellPart) (value : ℕ → Target → ℤ) (i : ℕ) (t : Target) → Whole digits parts value → sum_of digits (contributions parts) i t ≡ Some (value i t)
whole_entry digits parts value i t whole = elim (whole.holds.entries i t) [ inl e ↦ e | inr both ↦ absurd both.1 ]

none_before : (digits : ℕ) (done : List CellPart) (p : CellPart) (value : ℕ → Target → ℤ) → Whole digits done value → (s : ℕ) → s < length done → Fails digits (done ++ p ∷ []) s → ⊥
none_before digits done p value whole s h fails = either (fails_front digits done (p ∷ []) s h fails)
  where
    either : Fails digits done s → ⊥
    either (inl (fault, at)) = no_fault (part_at done s).fault fault (whole.forms s) at
    either (inr (row, at)) = earlier digits done (s + 1) row at.target (some_is _ (value row at.target) (whole_entry digits done value row at.target whole)) at.after

-- the next part has a fault
pub local_fails : (digits : ℕ) (done : List CellPart) (p : CellPart) (value : ℕ → Target → ℤ) (fault : LocalFault) → Whole digits done value → p.fault ≡ Some fault →
    Failing digits (done ++ p ∷ []) (Local p.cell fault)
local_fails digits done p value fault whole e =
    let at : FailsLocally (done ++ p ∷ []) (length done) fault = ap (λ (q : CellPart). q.fault) (last_part done p) ∙ e in
    (length done, record { fails = inl (fault, at); first = none_before digits done p value whole }, (ap (λ (q : CellPart). q.cell) (last_part done p), at))

-- the next part fails in a sum
pub sum_fails : (digits : ℕ) (done : List CellPart) (p : CellPart) (value now : ℕ → Target → ℤ) (row : ℕ) → Whole digits done value → p.fault ≡ None →
    Holds digits now (contributions done ++ p.list) (Some row) → Failing digits (done ++ p ∷ []) (Sum p.cell row)
sum_fails digits done p value now row whole e holds =
    let (t, none) = holds.reached row refl in
    let fails : FailsAtRow digits (done ++ p ∷ []) (length done) row = record {
      within = (let n = count_more done p in omega (arith, n));
      formed = ap (λ (q : CellPart). q.fault) (last_part done p) ∙ e;
      target = t;
      before = (let P : List CellPart → Type 0 = λ xs. IsSome (entry digits xs row t) in
          subst P (sym (before_last done p)) (some_is (entry digits done row t) (value row t) (whole_entry digits done value row t whole)));
      after = ap (λ xs. sum_of digits xs row t) (after_last) ∙ none;
    } in (
      length done,
      record { fails = inr (row, fails); first = none_before digits done p value whole },
      (
        ap (λ (q : CellPart). q.cell) (last_part done p),
        record { fails = fails; least = λ other k. at_least other k.target (sym (ap (λ xs. sum_of digits xs other k.target) after_last) ∙ k.after) },
      ),
    )
  where
    after_last : contributions (take (length done + 1) (done ++ p ∷ [])) ≡ contributions done ++ p.list
    after_last = ap contributions (take_whole (done ++ p ∷ []) (length done + 1) (let n = count_more done p in omega (arith, n))) ∙ list_more done p

    at_least : (other : ℕ) (t : Target) → sum_of digits (contributions done ++ p.list) other t ≡ None → row ≤ other
    at_least other t none = elim (holds.entries other t) [
      | inl some ↦ absurd (not_both (sum_of digits (contributions done ++ p.list) other t) (some_is _ (now other t) some) none)
      | inr both ↦ both.1
    ]

-- the next part is added
pub whole_more : (digits : ℕ) (done : List CellPart) (p : CellPart) (value now : ℕ → Target → ℤ) → Whole digits done value → p.fault ≡ None → Holds digits now (contributions done ++ p.list) None →
    Whole digits (done ++ p ∷ []) now
whole_more digits done p value now whole e holds = record {
  forms = λ t. elim (cases_lt t (length done)) [
    | inl h ↦ ap (λ (q : CellPart). q.fault) (front_part done (p ∷ []) t h) ∙ whole.forms t
    | inr h ↦ elim (cases_lt (length done) t) [
      | inl past ↦ past_part (done ++ p ∷ []) t (let n = count_more done p in omega (arith, n))
      | inr here ↦ (let same : length done ≡ t = omega arith in ap (λ n. (part_at (done ++ p ∷ []) n).fault) (sym same) ∙ ap (λ (q : CellPart). q.fault) (last_part done p) ∙ e)
    ]
  ];
  holds = (let P : List Contribution → Type 0 = λ xs. Holds digits now xs None in subst P (sym (list_more done p)) holds);
}

pub whole_sum : (digits : ℕ) (parts : List CellPart) (value : ℕ → Target → ℤ) → Whole digits parts value → HasSum digits parts
whole_sum digits parts value whole = record { forms = whole.forms; sums = λ i t. some_is (entry digits parts i t) (value i t) (whole_entry digits parts value i t whole) }

pub whole_none : (digits : ℕ) (value : ℕ → Target → ℤ) → ((i : ℕ) (t : Target) → value i t ≡ pos 0) → Whole digits [] value
whole_none digits value zeros = record { forms = λ t. past_part [] t (omega arith); holds = holds_none digits value zeros }

-- the parts have a sum or fail
abbrev Answered : ℕ → List CellPart → Type 0
Answered digits parts = ((value : ℕ → Target → ℤ) × Whole digits parts value) ⊎ ((failure : Failure) × Failing digits parts failure)

one_answer : (digits : ℕ) (done : List CellPart) (p : CellPart) → Answered digits done → Answered digits (done ++ p ∷ [])
one_answer digits done p (inr (failure, failing)) = inr (failure, failing_more digits done (p ∷ []) failure failing)
one_answer digits done p (inl (value, whole)) = by_fault p.fault refl
  where
    by_least : (least : Option ℕ) (now : ℕ → Target → ℤ) → p.fault ≡ None → Holds digits now (contributions done ++ p.list) least → Answered digits (done ++ p ∷ [])
    by_least None now e holds = inl (now, whole_more digits done p value now whole e holds)
    by_least (Some row) now e holds = inr (Sum p.cell row, sum_fails digits done p value now row whole e holds)

    by_fault : (o : Option LocalFault) → p.fault ≡ o → Answered digits (done ++ p ∷ [])
    by_fault (Some fault) e = inr (Local p.cell fault, local_fails digits done p value fault whole e)
    by_fault None e = let some : SomeHolds digits (contributions done ++ p.list) = some_all digits p.list (contributions done) value None whole.holds in by_least some.least some.value e some.holds

all_answered : (digits : ℕ) (more done : List CellPart) → Answered digits done → Answered digits (done ++ more)
all_answered digits [] done h = let P : List CellPart → Type 0 = λ xs. Answered digits xs in subst P (sym (append-nil done)) h
all_answered digits (p ∷ more) done h =
    let P : List CellPart → Type 0 = λ xs. Answered digits xs in
    subst P (append_assoc done (p ∷ []) more) (all_answered digits more (done ++ p ∷ []) (one_answer digits done p h))

-- there is an answer
pub answer_exists : (digits : ℕ) (pattern : List (List ℕ)) (parts : List CellPart) → (a : Result (List Row) Failure) × SumIs digits pattern parts a
answer_exists digits pattern parts = by_answer (all_answered digits parts [] (inl (λ i t. pos 0, whole_none digits (λ i t. pos 0) (λ i t. refl))))
  where
    by_answer : Answered digits parts → (a : Result (List Row) Failure) × SumIs digits pattern parts a
    by_answer (inl (value, whole)) = (Ok (sum_rows digits pattern (contributions parts)), (whole_sum digits parts value whole, refl))
    by_answer (inr (failure, failing)) = (Err failure, failing)

-- one position at most is the first that fails
first_once : (digits : ℕ) (parts : List CellPart) (t u : ℕ) → FailsFirst digits parts t → FailsFirst digits parts u → t ≡ u
first_once digits parts t u first second = elim (cases_lt t u) [
  | inl h ↦ absurd (second.first t h first.fails)
  | inr h ↦ elim (cases_lt u t) [ inl g ↦ absurd (first.first u g second.fails) | inr g ↦ omega arith ]
]

sum_or_fails : (digits : ℕ) (parts : List CellPart) (t : ℕ) → HasSum digits parts → Fails digits parts t → ⊥
sum_or_fails digits parts t sum (inl (fault, at)) = no_fault (part_at parts t).fault fault (sum.forms t) at
sum_or_fails digits parts t sum (inr (row, at)) = earlier digits parts (t + 1) row at.target (sum.sums row at.target) at.after

same_some : (a b : LocalFault) → ◌≡◌ {A = Option LocalFault} (Some a) (Some b) → a ≡ b
same_some a b e = cc

as_once : (digits : ℕ) (parts : List CellPart) (t : ℕ) (f g : Failure) → FailsAs digits parts t f → FailsAs digits parts t g → f ≡ g
as_once digits parts t (Local a x) (Local b y) (same, at) (other, au) =
    let cells : a ≡ b = sym same ∙ other in
    let faults : x ≡ y = same_some x y (sym at ∙ au) in
    λ i. Local (cells i) (faults i)
as_once digits parts t (Local a x) (Sum b row) (same, at) (other, least) = absurd (no_fault (part_at parts t).fault x least.fails.formed at)
as_once digits parts t (Sum a row) (Local b y) (same, least) (other, au) = absurd (no_fault (part_at parts t).fault y least.fails.formed au)
as_once digits parts t (Sum a row) (Sum b other_row) (same, least) (other, lowest) =
    let cells : a ≡ b = sym same ∙ other in
    let down = least.least other_row lowest.fails in
    let up = lowest.least row least.fails in
    let rows : row ≡ other_row = omega (arith, down, up) in
    λ i. Sum (cells i) (rows i)

-- and one at most
pub answer_once : (digits : ℕ) (pattern : List (List ℕ)) (parts : List CellPart) (a b : Result (List Row) Failure) → SumIs digits pattern parts a → SumIs digits pattern parts b → a ≡ b
answer_once digits pattern parts (Ok x) (Ok y) (sum, is) (other, at) = ap Ok (is ∙ sym at)
answer_once digits pattern parts (Ok x) (Err g) (sum, is) (t, first, says) = absurd (sum_or_fails digits parts t sum first.fails)
answer_once digits pattern parts (Err f) (Ok y) (t, first, says) (sum, is) = absurd (sum_or_fails digits parts t sum first.fails)
answer_once digits pattern parts (Err f) (Err g) (t, first, says) (u, second, tells) =
    let same : u ≡ t = first_once digits parts u t second first in
    let P : ℕ → Type 0 = λ n. FailsAs digits parts n g in
    ap Err (as_once digits parts t f g says (subst P same tells))
