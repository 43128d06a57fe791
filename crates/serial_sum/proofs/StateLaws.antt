-- The steps give the sum.
use Rattle.std.proofs.Common.{◌≡◌, ◌∙◌, sym, ap, refl, ℕ, suc, zero, ◌≤◌, ◌<◌, ◌^◌, List, [], ◌∷◌, ◌++◌, ℤ, pos, Bool, true, false, arith, append_assoc, append-nil, inl, inr, length, map, subst, cond, lit≤}
use Rattle.std.specs.Prelude.{Some, None, Err, slice_index_or, slice_set, unwrap_or, replicate, fold, All, ◌==◌, unsigned_abs, ◌||◌}
use Rattle.std.specs.declared.option.Option.{Option}
use Rattle.std.specs.List.{range_with_len, list_any, flat_map}
use Rattle.std.proofs.lemmas.Bool.{cases_lt, cases_Bool}
use Rattle.std.proofs.lemmas.List.{ext_get_or, get_or-map, get_or_past}
use Rattle.std.proofs.lemmas.List.Concat.{flat_map-cons}
use Rattle.std.proofs.lemmas.List.FromFn.{get_or-map-range_with_len, length-map-range_with_len}
use Rattle.std.proofs.lemmas.List.Sums.{fold-append}
use Rattle.std.proofs.lemmas.Grind.{common_steps}
use Rattle.serial_sum.specs.Columns.{columns_at, AreRising, place}
use Rattle.serial_sum.specs.declared.part.Target.{Target}
use Rattle.serial_sum.specs.declared.part.Target.TheVariants.{Column, RightSide}
use Rattle.serial_sum.specs.declared.part.Contribution.{Contribution}
use Rattle.fixed_q1.specs.declared.fault.LocalFault.{LocalFault}
use Rattle.serial_sum.specs.declared.sum.Failure.{Failure}
use Rattle.serial_sum.specs.declared.sum.Failure.TheVariants.{Local, Sum}
use Rattle.serial_sum.specs.Rows.{AreUnmarked, with_entry, next, row_at, no_row, value_at, entry_of, FitsRow, FitsRows, Run, one, with_row, added_row}
use Rattle.serial_sum.specs.SerialSum.{contributions, SumIs, sum_row, sum_rows, sum_or_zero}
use Rattle.serial_sum.specs.Steps.{failure_at, formed_step, step_on, step_of, zero_state, result_of, answer_of, IsPartFor, RowRun, row_one, row_own, row_step, FaultIs, failure_fault}
use Rattle.serial_sum.proofs.RowLaws.{place_is, row_there, row_elsewhere}
use Rattle.serial_sum.proofs.EntryLaws.{Holds, RunHolds, run_all}
use Rattle.serial_sum.proofs.PartLaws.{Whole, Failing, whole_entry, whole_more, whole_sum, whole_none, local_fails, sum_fails, failing_more}
use Rattle.sparsity.specs.declared.rows.Row.{Row}
use Rattle.serial_sum.specs.declared.sum.MatrixState.{MatrixState}
use Rattle.serial_sum.specs.Parts.{CellPart}
use Rattle.sparsity.specs.Rows.{zero_row}

-- the rows hold the sums of these parts, or the sum has failed so
abbrev Says : ℕ → List (List ℕ) → List CellPart → List Row → Option Failure → Type 0
Says digits pattern parts rows None = Whole digits parts (value_at pattern rows)
Says digits pattern parts rows (Some failure) = Failing digits parts failure

pub record StateIs (digits : ℕ) (pattern : List (List ℕ)) (parts : List CellPart) (rows : List Row) (failure : Option Failure) : Type 0 where
  pub fits : FitsRows pattern rows
  pub unmarked : AreUnmarked rows
  pub says : Says digits pattern parts rows failure

same_numbers : (m n : ℕ) → (m == n) ≡ true → m ≡ n
same_numbers m n h = grind arith

-- adding leaves the marks
pub mark_kept : (columns : List ℕ) (row : Row) (t : Target) (v : ℤ) → (with_entry columns row t v).mark ≡ row.mark
mark_kept columns row (Column j) v = refl
mark_kept columns row RightSide v = refl

unmarked_one : (digits : ℕ) (pattern : List (List ℕ)) (rows : List Row) (c : Contribution) → AreUnmarked rows → AreUnmarked (with_row digits pattern rows c)
unmarked_one digits pattern rows c h i = elim (cases_lt c.row (length rows)) [
  | inl inside ↦ elim (cases_Bool (c.row == i)) [
    | inl e ↦ (let P : ℕ → Type 0 = λ n. (row_at (with_row digits pattern rows c) n).mark ≡ None in
        subst P (same_numbers c.row i e) (ap (λ (r : Row). r.mark) (row_there digits pattern rows c inside) ∙ mark_kept (columns_at pattern c.row) (row_at rows c.row) c.target (next digits (entry_of (columns_at pattern c.row) (row_at rows c.row) c.target) c.value) ∙ h c.row))
    | inr e ↦ ap (λ (r : Row). r.mark) (row_elsewhere digits pattern rows c i e) ∙ h i
  ]
  | inr past ↦ ap (λ (xs : List Row). (row_at xs i).mark) (set_past rows c.row (added_row digits (columns_at pattern c.row) (row_at rows c.row) c.target c.value) past) ∙ h i
]
  where
    set_past : (rows : List Row) (i : ℕ) (r : Row) → length rows ≤ i → slice_set rows i r ≡ rows
    set_past [] i r h = refl
    set_past (x ∷ xs) zero r h = absurd (omega (arith, h))
    set_past (x ∷ xs) (suc i) r h = ap (λ ys. x ∷ ys) (set_past xs i r (omega (arith, h)))

pub unmarked_all : (digits : ℕ) (pattern : List (List ℕ)) (list : List Contribution) (run : Run) → AreUnmarked run.rows → AreUnmarked (fold (one digits pattern) run list).rows
unmarked_all digits pattern [] run h = h
unmarked_all digits pattern (c ∷ list) run h = unmarked_all digits pattern list (one digits pattern run c) (unmarked_one digits pattern run.rows c h)

-- one part more
state_step : (digits : ℕ) (pattern : List (List ℕ)) (done : List CellPart) (p : CellPart) (rows : List Row) (failure : Option Failure) → IsPartFor pattern p → StateIs digits pattern done rows failure →
    StateIs digits pattern (done ++ p ∷ []) (step_on digits pattern rows failure p).rows (step_on digits pattern rows failure p).failure
state_step digits pattern done p rows (Some failure) given is = record { fits = is.fits; unmarked = is.unmarked; says = failing_more digits done (p ∷ []) failure is.says }
state_step digits pattern done p rows None given is = by_fault p.fault refl
  where
    run : Run
    run = fold (one digits pattern) (record { rows = rows; least = None }) p.list

    so_far : RunHolds digits pattern (contributions done ++ p.list) (fold (one digits pattern) (record { rows = rows; least = None }) p.list)
    so_far = run_all digits pattern p.list (contributions done) (record { rows = rows; least = None }) given (record { fits = is.fits; holds = is.says.holds })

    by_least : (least : Option ℕ) (now : List Row) → p.fault ≡ None → FitsRows pattern now → AreUnmarked now → Holds digits (value_at pattern now) (contributions done ++ p.list) least →
        StateIs digits pattern (done ++ p ∷ []) now (failure_at p.cell least)
    by_least None now e fits unmarked holds = record { fits = fits; unmarked = unmarked; says = whole_more digits done p (value_at pattern rows) (value_at pattern now) is.says e holds }
    by_least (Some row) now e fits unmarked holds = record { fits = fits; unmarked = unmarked; says = sum_fails digits done p (value_at pattern rows) (value_at pattern now) row is.says e holds }

    by_fault : (o : Option LocalFault) → p.fault ≡ o → StateIs digits pattern (done ++ p ∷ []) (formed_step digits pattern rows p o).rows (formed_step digits pattern rows p o).failure
    by_fault (Some fault) e = record { fits = is.fits; unmarked = is.unmarked; says = local_fails digits done p (value_at pattern rows) fault is.says e }
    by_fault None e = by_least _ _ e so_far.fits (unmarked_all digits pattern p.list (record { rows = rows; least = None }) is.unmarked) so_far.holds

pub state_all : (digits : ℕ) (pattern : List (List ℕ)) (more done : List CellPart) (state : MatrixState) → All (IsPartFor pattern) more → StateIs digits pattern done state.rows state.failure →
    StateIs digits pattern (done ++ more) (fold (step_of digits pattern) state more).rows (fold (step_of digits pattern) state more).failure
state_all digits pattern [] done state given is = let P : List CellPart → Type 0 = λ xs. StateIs digits pattern xs state.rows state.failure in subst P (sym (append-nil done)) is
state_all digits pattern (p ∷ more) done state given is =
    let now : MatrixState = fold (step_of digits pattern) (step_of digits pattern state p) more in
    let P : List CellPart → Type 0 = λ xs. StateIs digits pattern xs now.rows now.failure in
    subst P (append_assoc done (p ∷ []) more)
    (state_all digits pattern more (done ++ p ∷ []) (step_of digits pattern state p) (λ k d h. given (suc k) d (next_inside k more h)) (state_step digits pattern done p state.rows state.failure (given 0 p (first_inside more)) is))
  where
    next_inside : (k : ℕ) (xs : List CellPart) → k < length xs → suc k < suc (length xs)
    next_inside k xs h = omega arith

    first_inside : (xs : List CellPart) → 0 < suc (length xs)
    first_inside xs = omega arith

-- 0 everywhere
zeros : (n i : ℕ) → slice_index_or (replicate n (pos 0)) i (pos 0) ≡ pos 0
zeros zero i = refl
zeros (suc n) zero = refl
zeros (suc n) (suc i) = zeros n i

zero_entry : (columns others : List ℕ) (t : Target) → entry_of columns (zero_row others) t ≡ pos 0
zero_entry columns others (Column j) = zeros (length others) (place columns j)
zero_entry columns others RightSide = refl

pub zero_there : (pattern : List (List ℕ)) (i : ℕ) → i < length pattern → row_at (map zero_row pattern) i ≡ zero_row (columns_at pattern i)
zero_there pattern i h = get_or-map zero_row pattern i [] no_row h

zero_value : (pattern : List (List ℕ)) (i : ℕ) (t : Target) → value_at pattern (map zero_row pattern) i t ≡ pos 0
zero_value pattern i t = elim (cases_lt i (length pattern)) [
  | inl h ↦ ap (λ r. entry_of (columns_at pattern i) r t) (zero_there pattern i h) ∙ zero_entry (columns_at pattern i) (columns_at pattern i) t
  | inr h ↦ ap (λ r. entry_of (columns_at pattern i) r t) (get_or_past (map zero_row pattern) i no_row (let n = count_zero pattern in omega (arith, n, h))) ∙ none t
]
  where
    count_zero : (pattern : List (List ℕ)) → length (map zero_row pattern) ≡ length pattern
    count_zero pattern = grind (arith, common_steps)

    none : (t : Target) → entry_of (columns_at pattern i) no_row t ≡ pos 0
    none (Column j) = refl
    none RightSide = refl

pub zero_fits : (pattern : List (List ℕ)) → FitsRows pattern (map zero_row pattern)
zero_fits pattern = record {
  count = counted pattern;
  each = λ i h. (let P : Row → Type 0 = λ r. FitsRow (columns_at pattern i) r in
      subst P (sym (zero_there pattern i h)) (record {
        width = wide (columns_at pattern i);
        small = λ t. (let Q : ℤ → Type 0 = λ z. unsigned_abs z ≤ 2 ^ 80 in subst Q (sym (zero_entry (columns_at pattern i) (columns_at pattern i) t)) (lit≤ tt));
      }));
}
  where
    counted : (pattern : List (List ℕ)) → length (map zero_row pattern) ≡ length pattern
    counted pattern = grind (arith, common_steps)

    wide : (columns : List ℕ) → length (replicate (length columns) (pos 0)) ≡ length columns
    wide columns = grind (arith, common_steps)

zero_unmarked : (pattern : List (List ℕ)) → AreUnmarked (map zero_row pattern)
zero_unmarked [] i = refl
zero_unmarked (columns ∷ pattern) zero = refl
zero_unmarked (columns ∷ pattern) (suc i) = zero_unmarked pattern i

-- rows that hold the sums are those of the sum
same_row : (a b : Row) → a.values ≡ b.values → a.rhs ≡ b.rhs → a.mark ≡ b.mark → a ≡ b
same_row a b e f g = λ i. record { values = e i; rhs = f i; mark = g i }

rows_are : (digits : ℕ) (pattern : List (List ℕ)) (parts : List CellPart) (rows : List Row) → AreRising pattern → FitsRows pattern rows → AreUnmarked rows → Whole digits parts (value_at pattern rows) →
    rows ≡ sum_rows digits pattern (contributions parts)
unfolding sum_rows
rows_are digits pattern parts rows rising fits unmarked whole =
    ext_get_or no_row rows (map (sum_row digits pattern (contributions parts)) (range_with_len 0 (length pattern)))
    (fits.count ∙ sym (length-map-range_with_len (sum_row digits pattern (contributions parts)) 0 (length pattern)))
    (λ i h. (let inside : i < length pattern = rw (sym fits.count) h in
    row_is i inside ∙ sym (get_or-map-range_with_len (sum_row digits pattern (contributions parts)) 0 (length pattern) i i no_row inside (omega arith))))
  where
    counted : (f : ℕ → ℤ) (columns : List ℕ) → length (map f columns) ≡ length columns
    counted f columns = grind (arith, common_steps)

    value_is : (i : ℕ) (t : Target) → value_at pattern rows i t ≡ sum_or_zero digits (contributions parts) i t
    value_is i t = sym (ap (λ o. unwrap_or o (pos 0)) (whole_entry digits parts (value_at pattern rows) i t whole))

    row_is : (i : ℕ) → i < length pattern → row_at rows i ≡ sum_row digits pattern (contributions parts) i
    row_is i inside =
        same_row (row_at rows i) (sum_row digits pattern (contributions parts) i)
        (ext_get_or (pos 0) (row_at rows i).values (map (λ j. sum_or_zero digits (contributions parts) i (Column j)) (columns_at pattern i))
        ((fits.each i inside).width ∙ sym (counted (λ j. sum_or_zero digits (contributions parts) i (Column j)) (columns_at pattern i)))
        (λ p h. (let under : p < length (columns_at pattern i) = rw (sym (fits.each i inside).width) h in
        let j : ℕ = slice_index_or (columns_at pattern i) p 0 in
        ap (λ k. slice_index_or (row_at rows i).values k (pos 0)) (place_is (columns_at pattern i) p j (rising i inside) under refl)
        ∙ value_is i (Column j)
        ∙ sym (get_or-map (λ j. sum_or_zero digits (contributions parts) i (Column j)) (columns_at pattern i) p 0 (pos 0) under))))
        (value_is i RightSide) (unmarked i)

pub state_from_zero : (digits : ℕ) (pattern : List (List ℕ)) (parts : List CellPart) → All (IsPartFor pattern) parts →
    StateIs digits pattern parts (fold (step_of digits pattern) (zero_state pattern) parts).rows (fold (step_of digits pattern) (zero_state pattern) parts).failure
state_from_zero digits pattern parts given =
    state_all digits pattern parts [] (zero_state pattern) given (record { fits = zero_fits pattern; unmarked = zero_unmarked pattern; says = whole_none digits (value_at pattern (map zero_row pattern)) (zero_value pattern) })

-- the steps give the sum
pub steps_give : (digits : ℕ) (pattern : List (List ℕ)) (parts : List CellPart) → AreRising pattern → All (IsPartFor pattern) parts →
    SumIs digits pattern parts (answer_of (fold (step_of digits pattern) (zero_state pattern) parts))
steps_give digits pattern parts rising given =
    let end : MatrixState = fold (step_of digits pattern) (zero_state pattern) parts in
    by_failure end.rows end.failure (state_from_zero digits pattern parts given)
  where
    by_failure : (rows : List Row) (failure : Option Failure) → StateIs digits pattern parts rows failure → SumIs digits pattern parts (result_of rows failure)
    by_failure rows None is = (whole_sum digits parts (value_at pattern rows) is.says, rows_are digits pattern parts rows rising is.fits is.unmarked is.says)
    by_failure rows (Some failure) is = is.says

-- what the contributions of a part do to one row
pub length_kept : (digits : ℕ) (pattern : List (List ℕ)) (rows : List Row) (c : Contribution) → length (with_row digits pattern rows c) ≡ length rows
length_kept digits pattern rows c = counted rows c.row (added_row digits (columns_at pattern c.row) (row_at rows c.row) c.target c.value)
  where
    counted : (rows : List Row) (i : ℕ) (r : Row) → length (slice_set rows i r) ≡ length rows
    counted rows i r = grind (arith, common_steps)

pub row_after_one : (digits : ℕ) (pattern : List (List ℕ)) (run : Run) (c : Contribution) (i : ℕ) (all : Bool) → i < length run.rows →
    row_at (one digits pattern run c).rows i ≡ (row_own digits (columns_at pattern i) i (record { row = row_at run.rows i; all = all }) c).row
row_after_one digits pattern run c i all h = elim (cases_Bool (c.row == i)) [
  | inl e ↦ (let same : c.row ≡ i = same_numbers c.row i e in
      ap (λ n. row_at (with_row digits pattern run.rows c) n) (sym same)
      ∙ row_there digits pattern run.rows c (rw same h)
      ∙ ap (λ n. added_row digits (columns_at pattern n) (row_at run.rows n) c.target c.value) same
      ∙ sym (ap (λ b. (cond b (row_one digits (columns_at pattern i) (record { row = row_at run.rows i; all = all }) c) (record { row = row_at run.rows i; all = all })).row) e))
  | inr e ↦ row_elsewhere digits pattern run.rows c i e
      ∙ sym (ap (λ b. (cond b (row_one digits (columns_at pattern i) (record { row = row_at run.rows i; all = all }) c) (record { row = row_at run.rows i; all = all })).row) e)
]

pub row_after_run : (digits : ℕ) (pattern : List (List ℕ)) (list : List Contribution) (run : Run) (i : ℕ) (row : RowRun) → i < length run.rows → row.row ≡ row_at run.rows i →
    row_at (fold (one digits pattern) run list).rows i ≡ (fold (row_own digits (columns_at pattern i) i) row list).row
row_after_run digits pattern [] run i row h e = sym e
row_after_run digits pattern (c ∷ list) run i row h e =
    row_after_run digits pattern list (one digits pattern run c) i (row_own digits (columns_at pattern i) i row c) (rw (length_kept digits pattern run.rows c) h)
    (ap (λ r. (row_own digits (columns_at pattern i) i (record { row = r; all = row.all }) c).row) e ∙ sym (row_after_one digits pattern run c i row.all h))

pub run_length : (digits : ℕ) (pattern : List (List ℕ)) (list : List Contribution) (run : Run) → length (fold (one digits pattern) run list).rows ≡ length run.rows
run_length digits pattern [] run = refl
run_length digits pattern (c ∷ list) run = run_length digits pattern list (one digits pattern run c) ∙ length_kept digits pattern run.rows c

-- a failure stays
pub failure_stays : (digits : ℕ) (pattern : List (List ℕ)) (parts : List CellPart) (rows : List Row) (failure : Failure) →
    (fold (step_of digits pattern) (record { rows = rows; failure = Some failure }) parts).failure ≡ Some failure
failure_stays digits pattern [] rows failure = refl
failure_stays digits pattern (p ∷ parts) rows failure = failure_stays digits pattern parts rows failure

none_or_some : (o : Option Failure) (f : Failure) → o ≡ Some f → o ≡ None → ⊥
none_or_some o f e g = cc

-- the rows by steps of each row alone
abbrev ByRows : ℕ → List (List ℕ) → ℕ → List CellPart → List Row → RowRun → Type 0
ByRows digits pattern i parts rows row =
    i < length rows → row.row ≡ row_at rows i → (fold (step_of digits pattern) (record { rows = rows; failure = None }) parts).failure ≡ None →
    row_at (fold (step_of digits pattern) (record { rows = rows; failure = None }) parts).rows i ≡ (fold (row_step digits (columns_at pattern i) i) row parts).row

rows_more : (digits : ℕ) (pattern : List (List ℕ)) (i : ℕ) (p : CellPart) (parts : List CellPart) (rows : List Row) (row : RowRun) →
    ((now : List Row) (next : RowRun) → ByRows digits pattern i parts now next) → ByRows digits pattern i (p ∷ parts) rows row
rows_more digits pattern i p parts rows row rest h e none = by_fault p.fault none
  where
    by_least : (least : Option ℕ) (now : List Row) → length now ≡ length rows → (row_step digits (columns_at pattern i) i row p).row ≡ row_at now i →
        (fold (step_of digits pattern) (record { rows = now; failure = failure_at p.cell least }) parts).failure ≡ None →
        row_at (fold (step_of digits pattern) (record { rows = now; failure = failure_at p.cell least }) parts).rows i ≡ (fold (row_step digits (columns_at pattern i) i) (row_step digits (columns_at pattern i) i row p) parts).row
    by_least None now count is fine = rest now (row_step digits (columns_at pattern i) i row p) (rw count h) is fine
    by_least (Some low) now count is fine = absurd (none_or_some _ (Sum p.cell low) (failure_stays digits pattern parts now (Sum p.cell low)) fine)

    by_fault : (o : Option LocalFault) → (fold (step_of digits pattern) (formed_step digits pattern rows p o) parts).failure ≡ None →
        row_at (fold (step_of digits pattern) (formed_step digits pattern rows p o) parts).rows i ≡ (fold (row_step digits (columns_at pattern i) i) (row_step digits (columns_at pattern i) i row p) parts).row
    by_fault (Some fault) fine = absurd (none_or_some _ (Local p.cell fault) (failure_stays digits pattern parts rows (Local p.cell fault)) fine)
    by_fault None fine =
        by_least (fold (one digits pattern) (record { rows = rows; least = None }) p.list).least (fold (one digits pattern) (record { rows = rows; least = None }) p.list).rows
        (run_length digits pattern p.list (record { rows = rows; least = None }))
        (sym (row_after_run digits pattern p.list (record { rows = rows; least = None }) i row h e)) fine

rows_by_rows : (digits : ℕ) (pattern : List (List ℕ)) (i : ℕ) (parts : List CellPart) (rows : List Row) (row : RowRun) → ByRows digits pattern i parts rows row
rows_by_rows digits pattern i [] rows row = λ h e none. sym e
rows_by_rows digits pattern i (p ∷ parts) rows row = rows_more digits pattern i p parts rows row (λ now next. rows_by_rows digits pattern i parts now next)

pub rows_from_zero : (digits : ℕ) (pattern : List (List ℕ)) (parts : List CellPart) (i : ℕ) → i < length pattern → (fold (step_of digits pattern) (zero_state pattern) parts).failure ≡ None →
    row_at (fold (step_of digits pattern) (zero_state pattern) parts).rows i ≡ (fold (row_step digits (columns_at pattern i) i) (record { row = zero_row (columns_at pattern i); all = true }) parts).row
rows_from_zero digits pattern parts i h none =
    rows_by_rows digits pattern i parts (map zero_row pattern) (record { row = zero_row (columns_at pattern i); all = true }) (inside pattern i h) (sym (zero_there pattern i h)) none
  where
    inside : (pattern : List (List ℕ)) (i : ℕ) → i < length pattern → i < length (map zero_row pattern)
    inside pattern i h = grind (arith, common_steps)

-- a failure of the sum as a fault
pub fault_says : (digits : ℕ) (pattern : List (List ℕ)) (parts : List CellPart) (failure : Failure) → SumIs digits pattern parts (Err failure) → FaultIs digits pattern parts (failure_fault failure)
fault_says digits pattern parts (Local cell fault) h = h
fault_says digits pattern parts (Sum cell row) h = h

-- a part with no contribution to a row leaves it
pub row_left : (digits : ℕ) (columns : List ℕ) (i : ℕ) (list : List Contribution) (run : RowRun) → list_any (λ (c : Contribution). c.row == i) list ≡ false → fold (row_own digits columns i) run list ≡ run
row_left digits columns i [] run h = refl
row_left digits columns i (c ∷ list) run h =
    ap (λ r. fold (row_own digits columns i) r list) (ap (λ b. cond b (row_one digits columns run c) run) (neither (c.row == i) (list_any (λ (c : Contribution). c.row == i) list) h))
    ∙ row_left digits columns i list run (nor (c.row == i) (list_any (λ (c : Contribution). c.row == i) list) h)
  where
    neither : (a b : Bool) → (a || b) ≡ false → a ≡ false
    neither true b h = cc
    neither false b h = refl

    nor : (a b : Bool) → (a || b) ≡ false → b ≡ false
    nor true b h = cc
    nor false b h = h

-- parts in chunks are parts one after another
pub chunks : (digits : ℕ) (pattern : List (List ℕ)) (lists : List (List CellPart)) (state : MatrixState) →
    fold (λ (s : MatrixState) (list : List CellPart). fold (step_of digits pattern) s list) state lists ≡ fold (step_of digits pattern) state (flat_map (λ (list : List CellPart). list) lists)
chunks digits pattern [] state = refl
chunks digits pattern (list ∷ lists) state =
    chunks digits pattern lists (fold (step_of digits pattern) state list)
    ∙ sym (fold-append (step_of digits pattern) state list (flat_map (λ (list : List CellPart). list) lists))
    ∙ sym (ap (fold (step_of digits pattern) state) (flat_map-cons (λ (list : List CellPart). list) list lists))
