-- A round of parts does what the steps do, one part after another.
use Rattle.std.proofs.Common.{◌≡◌, ◌∙◌, sym, ap, refl, ℕ, zero, suc, ◌<◌, ◌≤◌, List, [], ◌∷◌, length, map, Bool, true, false, arith, inl, inr, subst, cond}
use Rattle.std.specs.Prelude.{Some, None, fold, All, ◌==◌, ◌&&◌, ◌⊎◌, slice_index_or, min}
use Rattle.std.specs.declared.option.Option.{Option}
use Rattle.std.specs.List.{list_any}
use Rattle.std.proofs.lemmas.Bool.{cases_lt, cases_Bool}
use Rattle.std.proofs.lemmas.List.{ext_get_or, get_or_past}
use Rattle.fixed_q1.specs.declared.fault.LocalFault.{LocalFault}
use Rattle.fixed_q1.specs.declared.fault.LocalFault.TheVariants as faults
use Rattle.sparsity.specs.Coupled.{has}
use Rattle.sparsity.specs.declared.rows.Row.{Row}
use Rattle.sparsity.specs.declared.rows.Mark.{Mark}
use Rattle.sparsity.specs.declared.rows.MarkKind.TheVariants as kinds
use Rattle.serial_sum.specs.Columns.{columns_at}
use Rattle.serial_sum.specs.Rows.{row_at, no_row, AreUnmarked, Run, one, is_added, least_after, next, entry_of}
use Rattle.serial_sum.specs.Steps.{failure_at, formed_step, RowRun, row_one, row_own, row_step}
use Rattle.serial_sum.specs.Marks.{kind_of, marked, after_run_of, row_after_fault, row_after, IsFirstMark, failure_by, failure_of, RoundItem, item_at, IsItem, AreItems, IsRound, round_end, RoundIs}
use Rattle.serial_sum.specs.declared.part.Contribution.{Contribution}
use Rattle.serial_sum.specs.Parts.{CellPart}
use Rattle.serial_sum.specs.declared.sum.Failure.TheVariants.{Local, Sum}
use Rattle.serial_sum.specs.declared.sum.MatrixState.{MatrixState}
use Rattle.serial_sum.proofs.StateLaws.{mark_kept, unmarked_all, row_after_one, row_after_run, run_length, length_kept, failure_stays, row_left}

same_numbers : (m n : ℕ) → (m == n) ≡ true → m ≡ n
same_numbers m n h = grind arith

itself : (m : ℕ) → (m == m) ≡ true
itself m = grind arith

none_is_some : {X : Type 0} {x : X} → ◌≡◌ {A = Option X} None (Some x) → ⊥
none_is_some e = cc

true_is_false : true ≡ false → ⊥
true_is_false e = cc

-- the least failing row is the least row whose own run fails
pub record LeastTells (n : ℕ) (least : Option ℕ) (all : ℕ → Bool) : Type 0 where
  pub below : (i : ℕ) → i < n → all i ≡ false → (r : ℕ) × (least ≡ Some r) × (r ≤ i)
  pub reached : (r : ℕ) → least ≡ Some r → (r < n) × (all r ≡ false)

-- a contribution to row i, as the run of that row alone has it
abbrev own_all : ℕ → List (List ℕ) → List Row → (ℕ → Bool) → Contribution → ℕ → Bool
own_all digits pattern rows all c i = (row_own digits (columns_at pattern i) i (record { row = row_at rows i; all = all i }) c).all

own_elsewhere : (digits : ℕ) (pattern : List (List ℕ)) (rows : List Row) (all : ℕ → Bool) (c : Contribution) (i : ℕ) → (c.row == i) ≡ false → own_all digits pattern rows all c i ≡ all i
own_elsewhere digits pattern rows all c i e = ap (λ b. (cond b (row_one digits (columns_at pattern i) (record { row = row_at rows i; all = all i }) c) (record { row = row_at rows i; all = all i })).all) e

own_here : (digits : ℕ) (pattern : List (List ℕ)) (rows : List Row) (all : ℕ → Bool) (c : Contribution) →
    own_all digits pattern rows all c c.row ≡ (all c.row && is_added digits (columns_at pattern c.row) (row_at rows c.row) c.target c.value)
own_here digits pattern rows all c =
    ap (λ b. (cond b (row_one digits (columns_at pattern c.row) (record { row = row_at rows c.row; all = all c.row }) c) (record { row = row_at rows c.row; all = all c.row })).all) (itself c.row)

lower_from : (least : Option ℕ) (row i : ℕ) → ((r : ℕ) × (least ≡ Some r) × (r ≤ i)) → (r : ℕ) × (least_after false least row ≡ Some r) × (r ≤ i)
lower_from None row i (r, e, h) = absurd (none_is_some e)
lower_from (Some other) row i (r, e, h) = (min other row, refl, let same : other ≡ r = one e in omega (arith, h, same))
  where
    one : {a b : ℕ} → ◌≡◌ {A = Option ℕ} (Some a) (Some b) → a ≡ b
    one e = cc

lower_own : (least : Option ℕ) (row : ℕ) → (r : ℕ) × (least_after false least row ≡ Some r) × (r ≤ row)
lower_own None row = (row, refl, omega arith)
lower_own (Some other) row = (min other row, refl, omega arith)

lower_is : (least : Option ℕ) (row r : ℕ) → least_after false least row ≡ Some r → (r ≡ row) ⊎ (least ≡ Some r)
lower_is None row r e = inl (cc)
lower_is (Some other) row r e = elim (cases_lt other row) [
  | inl h ↦ (let same : min other row ≡ r = one e in let is : other ≡ r = omega (arith, same, h) in inr (ap Some is))
  | inr h ↦ (let same : min other row ≡ r = one e in inl (omega (arith, same, h)))
]
  where
    one : {a b : ℕ} → ◌≡◌ {A = Option ℕ} (Some a) (Some b) → a ≡ b
    one e = cc

and_false : (a : Bool) → (a && false) ≡ false
and_false true = refl
and_false false = refl

and_true : (a : Bool) → (a && true) ≡ a
and_true true = refl
and_true false = refl

-- one contribution more
least_one : (digits : ℕ) (pattern : List (List ℕ)) (rows : List Row) (n : ℕ) (least : Option ℕ) (all : ℕ → Bool) (c : Contribution) → c.row < n → LeastTells n least all →
    LeastTells n (least_after (is_added digits (columns_at pattern c.row) (row_at rows c.row) c.target c.value) least c.row) (own_all digits pattern rows all c)
least_one digits pattern rows n least all c inside tells = by_added (is_added digits (columns_at pattern c.row) (row_at rows c.row) c.target c.value) refl
  where
    at : (b : Bool) → is_added digits (columns_at pattern c.row) (row_at rows c.row) c.target c.value ≡ b → own_all digits pattern rows all c c.row ≡ (all c.row && b)
    at b e = own_here digits pattern rows all c ∙ ap (λ v. all c.row && v) e

    same : (i : ℕ) → is_added digits (columns_at pattern c.row) (row_at rows c.row) c.target c.value ≡ true → own_all digits pattern rows all c i ≡ all i
    same i e = elim (cases_Bool (c.row == i)) [
      | inl on ↦ (let P : ℕ → Type 0 = λ k. own_all digits pattern rows all c k ≡ all k in subst P (same_numbers c.row i on) (at true e ∙ and_true (all c.row)))
      | inr off ↦ own_elsewhere digits pattern rows all c i off
    ]

    by_added : (b : Bool) → is_added digits (columns_at pattern c.row) (row_at rows c.row) c.target c.value ≡ b → LeastTells n (least_after b least c.row) (own_all digits pattern rows all c)
    by_added true e = record {
      below = λ i h fails. tells.below i h (sym (same i e) ∙ fails);
      reached = λ r is. (let (h, fails) = tells.reached r is in (h, same r e ∙ fails));
    }
    by_added false e = record {
      below = λ i h fails. elim (cases_Bool (c.row == i)) [
        | inl on ↦ (let (r, is, low) = lower_own least c.row in (r, is, let row : c.row ≡ i = same_numbers c.row i on in omega (arith, low, row)))
        | inr off ↦ lower_from least c.row i (tells.below i h (sym (own_elsewhere digits pattern rows all c i off) ∙ fails))
      ];
      reached = λ r is. elim (lower_is least c.row r is) [
        | inl here ↦ (omega (arith, here, inside), let P : ℕ → Type 0 = λ k. own_all digits pattern rows all c k ≡ false in subst P (sym here) (at false e ∙ and_false (all c.row)))
        | inr before ↦ (let (h, fails) = tells.reached r before in (
          h,
          elim (cases_Bool (c.row == r)) [
            | inl on ↦ (let P : ℕ → Type 0 = λ k. own_all digits pattern rows all c k ≡ false in subst P (same_numbers c.row r on) (at false e ∙ and_false (all c.row)))
            | inr off ↦ own_elsewhere digits pattern rows all c r off ∙ fails
          ],
        ))
      ];
    }

-- the run of row i alone over these contributions
abbrev run_alone : ℕ → List (List ℕ) → List Row → (ℕ → Bool) → List Contribution → ℕ → RowRun
run_alone digits pattern rows all list i = fold (row_own digits (columns_at pattern i) i) (record { row = row_at rows i; all = all i }) list

least_same : (n : ℕ) (least : Option ℕ) (a b : ℕ → Bool) → ((i : ℕ) → i < n → a i ≡ b i) → LeastTells n least a → LeastTells n least b
least_same n least a b same tells = record {
  below = λ i h fails. tells.below i h (same i h ∙ fails);
  reached = λ r is. (let (h, fails) = tells.reached r is in (h, sym (same r h) ∙ fails));
}

pub least_all : (digits : ℕ) (pattern : List (List ℕ)) (n : ℕ) (list : List Contribution) (run : Run) (all : ℕ → Bool) → length run.rows ≡ n → ((k : ℕ) (d : Contribution) → k < length list → (slice_index_or list k d).row < n) →
    LeastTells n run.least all → LeastTells n (fold (one digits pattern) run list).least (λ i. (run_alone digits pattern run.rows all list i).all)
least_all digits pattern n [] run all count inside tells = tells
least_all digits pattern n (c ∷ list) run all count inside tells =
    let now : Run = one digits pattern run c in
    let own : ℕ → Bool = own_all digits pattern run.rows all c in
    least_same n (fold (one digits pattern) now list).least (λ i. (run_alone digits pattern now.rows own list i).all) (λ i. (run_alone digits pattern run.rows all (c ∷ list) i).all)
    (λ i h. ap (λ (r : Row). (fold (row_own digits (columns_at pattern i) i) (record { row = r; all = own i }) list).all) (row_after_one digits pattern run c i (all i) (rw count h)))
    (least_all digits pattern n list now own (length_kept digits pattern run.rows c ∙ count) (λ k d h. inside (suc k) d (next_inside k list h))
    (least_one digits pattern run.rows n run.least all c (inside 0 c (first_inside list)) tells))
  where
    next_inside : (k : ℕ) (xs : List Contribution) → k < length xs → suc k < suc (length xs)
    next_inside k xs h = omega arith

    first_inside : (xs : List Contribution) → 0 < suc (length xs)
    first_inside xs = omega arith

-- a row's own run leaves its mark
own_mark : (digits : ℕ) (columns : List ℕ) (i : ℕ) (run : RowRun) (c : Contribution) → (row_own digits columns i run c).row.mark ≡ run.row.mark
own_mark digits columns i run c = by_row (c.row == i)
  where
    by_row : (b : Bool) → (cond b (row_one digits columns run c) run).row.mark ≡ run.row.mark
    by_row true = mark_kept columns run.row c.target (next digits (entry_of columns run.row c.target) c.value)
    by_row false = refl

run_mark : (digits : ℕ) (columns : List ℕ) (i : ℕ) (list : List Contribution) (run : RowRun) → (fold (row_own digits columns i) run list).row.mark ≡ run.row.mark
run_mark digits columns i [] run = refl
run_mark digits columns i (c ∷ list) run = run_mark digits columns i list (row_own digits columns i run c) ∙ own_mark digits columns i run c

-- what a part leaves in a row without a mark
row_fails : (digits : ℕ) (columns : List ℕ) (i : ℕ) (row : Row) (part : CellPart) (run : RowRun) → run.all ≡ false → (after_run_of part.cell run).mark ≡ Some (record { cell = part.cell; kind = kinds.Sum })
row_fails digits columns i row part run e = ap (λ b. (cond b run.row (marked part.cell kinds.Sum run.row)).mark) e

row_stays : (cell : ℕ) (run : RowRun) → run.all ≡ true → after_run_of cell run ≡ run.row
row_stays cell run e = ap (λ b. cond b run.row (marked cell kinds.Sum run.row)) e

-- a mark that a part without a fault left
pub record FromRun (part : CellPart) (run : RowRun) (mark : Mark) : Type 0 where
  pub is : mark ≡ record { cell = part.cell; kind = kinds.Sum }
  pub fails : run.all ≡ false

from_run : (part : CellPart) (run : RowRun) (mark : Mark) → run.row.mark ≡ None → (after_run_of part.cell run).mark ≡ Some mark → FromRun part run mark
from_run part run mark clean e = elim (cases_Bool run.all) [
  | inl all ↦ absurd (none_is_some (sym clean ∙ sym (ap (λ (r : Row). r.mark) (row_stays part.cell run all)) ∙ e))
  | inr fails ↦ record { is = one (sym e ∙ ap (λ b. (cond b run.row (marked part.cell kinds.Sum run.row)).mark) fails); fails = fails }
]
  where
    one : {a b : Mark} → ◌≡◌ {A = Option Mark} (Some a) (Some b) → a ≡ b
    one e = cc

cell_of_mark : (digits : ℕ) (columns : List ℕ) (i : ℕ) (row : Row) (part : CellPart) (o : Option LocalFault) (mark : Mark) → row.mark ≡ None → (row_after_fault digits columns i row part o).mark ≡ Some mark → mark.cell ≡ part.cell
cell_of_mark digits columns i row part (Some fault) mark clean e = ap (λ (m : Mark). m.cell) (sym (one e))
  where
    one : {a b : Mark} → ◌≡◌ {A = Option Mark} (Some a) (Some b) → a ≡ b
    one e = cc
cell_of_mark digits columns i row part None mark clean e =
    ap (λ (m : Mark). m.cell) (from_run part (row_step digits columns i (record { row = row; all = true }) part) mark (run_mark digits columns i part.list (record { row = row; all = true }) ∙ clean) e).is

fault_failure : (cell i : ℕ) (fault : LocalFault) → failure_by cell i (kind_of fault) ≡ Local cell fault
fault_failure cell i faults.Distorted = refl
fault_failure cell i faults.Size = refl

-- contributions that all go to named rows leave the others
none_goes : (list : List Contribution) (rows : List ℕ) (i : ℕ) → All (λ (c : Contribution). has rows c.row ≡ true) list → has rows i ≡ false → list_any (λ (c : Contribution). c.row == i) list ≡ false
none_goes [] rows i covers off = refl
none_goes (c ∷ list) rows i covers off = elim (cases_Bool (c.row == i)) [
  | inl on ↦ absurd (true_is_false (sym (covers 0 c (first_inside list)) ∙ ap (has rows) (same_numbers c.row i on) ∙ off))
  | inr other ↦ rw other (none_goes list rows i (λ k d h. covers (suc k) d (next_inside k list h)) off)
]
  where
    next_inside : (k : ℕ) (xs : List Contribution) → k < length xs → suc k < suc (length xs)
    next_inside k xs h = omega arith

    first_inside : (xs : List Contribution) → 0 < suc (length xs)
    first_inside xs = omega arith

-- some item names the row, or none does
pub data Named (items : List RoundItem) (i : ℕ) : Type 0 where
  by : (k : ℕ) → k < length items → has (item_at items k).rows i ≡ true → Named items i
  none : ((k : ℕ) → k < length items → has (item_at items k).rows i ≡ false) → Named items i

named_by : (items : List RoundItem) (i : ℕ) → Named items i
named_by [] i = none (λ k h. absurd (omega (arith, h)))
named_by (it ∷ items) i = elim (cases_Bool (has it.rows i)) [
  | inl on ↦ by 0 (first_inside items) on
  | inr off ↦ elim (named_by items i) [
    | by k h on ↦ by (suc k) (next_inside k items h) on
    | none all ↦ none (λ k h. by_place k h all off)
  ]
]
  where
    next_inside : (k : ℕ) (xs : List RoundItem) → k < length xs → suc k < suc (length xs)
    next_inside k xs h = omega arith

    first_inside : (xs : List RoundItem) → 0 < suc (length xs)
    first_inside xs = omega arith

    by_place : (k : ℕ) → k < suc (length items) → ((l : ℕ) → l < length items → has (item_at items l).rows i ≡ false) → has it.rows i ≡ false → has (item_at (it ∷ items) k).rows i ≡ false
    by_place zero h all off = off
    by_place (suc k) h all off = all k (omega (arith, h))

-- which item marked a row
pub record MarkedBy (items : List RoundItem) (i : ℕ) (mark : Mark) : Type 0 where
  pub k : ℕ
  pub inside : k < length items
  pub names : has (item_at items k).rows i ≡ true
  pub cell : mark.cell ≡ (item_at items k).part.cell

marked_by : (digits : ℕ) (pattern : List (List ℕ)) (items : List RoundItem) (old new : List Row) (i : ℕ) (mark : Mark) → AreUnmarked old → IsRound digits pattern items old new → (row_at new i).mark ≡ Some mark → MarkedBy items i mark
marked_by digits pattern items old new i mark clean round e = elim (named_by items i) [
  | by k h on ↦ record {
    k = k;
    inside = h;
    names = on;
    cell = cell_of_mark digits (columns_at pattern i) i (row_at old i) (item_at items k).part (item_at items k).part.fault mark (clean i) (sym (ap (λ (r : Row). r.mark) (round.named k i h on)) ∙ e);
  }
  | none all ↦ absurd (none_is_some (sym (clean i) ∙ sym (ap (λ (r : Row). r.mark) (round.others i all)) ∙ e))
]

-- the first mark is of the first item, where that left one
pub record IsHere (it : RoundItem) (i r : ℕ) : Type 0 where
  pub names : has it.rows i ≡ true
  pub low : i ≤ r

first_here : (digits : ℕ) (pattern : List (List ℕ)) (it : RoundItem) (items : List RoundItem) (old new : List Row) (i r : ℕ) (mark other : Mark) → AreUnmarked old → AreItems pattern (it ∷ items) → IsRound digits pattern (it ∷ items) old new →
    IsFirstMark new i mark → (row_at new r).mark ≡ Some other → other.cell ≡ it.part.cell → IsHere it i r
first_here digits pattern it items old new i r mark other clean apart round first e cell =
    by_item (marked_by digits pattern (it ∷ items) old new i mark clean round first.there)
  where
    by_first : (k : ℕ) → k < suc (length items) → has (item_at (it ∷ items) k).rows i ≡ true → mark.cell ≡ (item_at (it ∷ items) k).part.cell → (mark.cell < other.cell) ⊎ ((mark.cell ≡ other.cell) × (i ≤ r)) → IsHere it i r
    by_first zero h on is (inl less) = absurd (omega (arith, less, is, cell))
    by_first zero h on is (inr same) = record { names = on; low = same.1 }
    by_first (suc k) h on is (inl less) = absurd (let up = apart.rising 0 (suc k) (some_above k) h in omega (arith, less, is, cell, up))
      where
        some_above : (k : ℕ) → 0 < suc k
        some_above k = omega arith
    by_first (suc k) h on is (inr same) = absurd (let up = apart.rising 0 (suc k) (some_above k) h in omega (arith, same.0, is, cell, up))
      where
        some_above : (k : ℕ) → 0 < suc k
        some_above k = omega arith

    by_item : MarkedBy (it ∷ items) i mark → IsHere it i r
    by_item of_item = by_first of_item.k of_item.inside of_item.names of_item.cell (first.first r other e)

tail_items : (pattern : List (List ℕ)) (it : RoundItem) (items : List RoundItem) → AreItems pattern (it ∷ items) → AreItems pattern items
tail_items pattern it items h = record {
  each = λ k inside. h.each (suc k) (up k (length items) inside);
  rising = λ k l less inside. h.rising (suc k) (suc l) (up k l less) (up l (length items) inside);
  apart = λ k l i less inside. h.apart (suc k) (suc l) i (up k l less) (up l (length items) inside);
}
  where
    up : (a b : ℕ) → a < b → suc a < suc b
    up a b h = omega arith

-- the rows after the first part, where that has no fault
abbrev first_run : ℕ → List (List ℕ) → RoundItem → List Row → Run
first_run digits pattern it old = fold (one digits pattern) (record { rows = old; least = None }) it.part.list

first_tells : (digits : ℕ) (pattern : List (List ℕ)) (it : RoundItem) (old : List Row) → length old ≡ length pattern → IsItem pattern it →
    LeastTells (length pattern) (first_run digits pattern it old).least (λ i. (row_step digits (columns_at pattern i) i (record { row = row_at old i; all = true }) it.part).all)
first_tells digits pattern it old count is =
    least_all digits pattern (length pattern) it.part.list (record { rows = old; least = None }) (λ i. true) count (λ k d h. (is.part k d h).within)
    (record { below = λ i h e. absurd (true_is_false e); reached = λ r e. absurd (none_is_some e) })

-- a named row, where all was added
first_named : (digits : ℕ) (pattern : List (List ℕ)) (it : RoundItem) (old : List Row) (i : ℕ) → length old ≡ length pattern → IsItem pattern it → it.part.fault ≡ None → (first_run digits pattern it old).least ≡ None →
    has it.rows i ≡ true → row_after digits (columns_at pattern i) i (row_at old i) it.part ≡ row_at (first_run digits pattern it old).rows i
first_named digits pattern it old i count is formed added on =
    let run : RowRun = row_step digits (columns_at pattern i) i (record { row = row_at old i; all = true }) it.part in
    let inside : i < length old = rw count (is.within i on) in
    ap (λ o. row_after_fault digits (columns_at pattern i) i (row_at old i) it.part o) formed
    ∙ row_stays it.part.cell run (all_true run.all refl)
    ∙ sym (row_after_run digits pattern it.part.list (record { rows = old; least = None }) i (record { row = row_at old i; all = true }) inside refl)
  where
    all_true : (b : Bool) → (row_step digits (columns_at pattern i) i (record { row = row_at old i; all = true }) it.part).all ≡ b → b ≡ true
    all_true true e = refl
    all_true false e = (let (r, is_some, low) = (first_tells digits pattern it old count is).below i (is.within i on) e in absurd (none_is_some (sym added ∙ is_some)))

-- and a row that isn't named
first_others : (digits : ℕ) (pattern : List (List ℕ)) (it : RoundItem) (old : List Row) (i : ℕ) → IsItem pattern it → has it.rows i ≡ false → row_at (first_run digits pattern it old).rows i ≡ row_at old i
first_others digits pattern it old i is off = elim (cases_lt i (length old)) [
  | inl inside ↦ row_after_run digits pattern it.part.list (record { rows = old; least = None }) i (record { row = row_at old i; all = true }) inside refl
      ∙ ap (λ (r : RowRun). r.row) (row_left digits (columns_at pattern i) i it.part.list (record { row = row_at old i; all = true }) (none_goes it.part.list it.rows i is.covers off))
  | inr past ↦ get_or_past (first_run digits pattern it old).rows i no_row (let n = run_length digits pattern it.part.list (record { rows = old; least = None }) in omega (arith, n, past))
      ∙ sym (get_or_past old i no_row past)
]

-- the round after the first part, where that has no fault and all of it was added
rest_round : (digits : ℕ) (pattern : List (List ℕ)) (it : RoundItem) (items : List RoundItem) (old new : List Row) → length old ≡ length pattern → AreItems pattern (it ∷ items) → IsRound digits pattern (it ∷ items) old new →
    it.part.fault ≡ None → (first_run digits pattern it old).least ≡ None → IsRound digits pattern items (first_run digits pattern it old).rows new
rest_round digits pattern it items old new count apart round formed added = record {
  count = round.count ∙ sym (run_length digits pattern it.part.list (record { rows = old; least = None }));
  named = λ k i inside on. round.named (suc k) i (up k (length items) inside) on
      ∙ ap (λ r. row_after digits (columns_at pattern i) i r (item_at items k).part) (sym (first_others digits pattern it old i first (off_here k i inside on (has it.rows i) refl)));
  others = λ i later. elim (cases_Bool (has it.rows i)) [
    | inl on ↦ round.named 0 i (some_there (length items)) on ∙ first_named digits pattern it old i count first formed added on
    | inr off ↦ round.others i (λ k h. by_place i k h off later) ∙ sym (first_others digits pattern it old i first off)
  ];
}
  where
    up : (a b : ℕ) → a < b → suc a < suc b
    up a b h = omega arith

    some_there : (n : ℕ) → 0 < suc n
    some_there n = omega arith

    first : IsItem pattern it
    first = apart.each 0 (some_there (length items))

    off_here : (k i : ℕ) → k < length items → has (item_at items k).rows i ≡ true → (b : Bool) → has it.rows i ≡ b → b ≡ false
    off_here k i inside on true e = absurd (true_is_false (sym on ∙ apart.apart 0 (suc k) i (some_there k) (up k (length items) inside) e))
    off_here k i inside on false e = refl

    by_place : (i k : ℕ) → k < suc (length items) → has it.rows i ≡ false → ((l : ℕ) → l < length items → has (item_at items l).rows i ≡ false) → has (item_at (it ∷ items) k).rows i ≡ false
    by_place i zero h off later = off
    by_place i (suc k) h off later = later k (omega (arith, h))

-- one part more
round_one : (digits : ℕ) (pattern : List (List ℕ)) (it : RoundItem) (items : List RoundItem) (old new : List Row) → length old ≡ length pattern → AreUnmarked old → AreItems pattern (it ∷ items) → IsRound digits pattern (it ∷ items) old new →
    ((mid : List Row) → length mid ≡ length pattern → AreUnmarked mid → IsRound digits pattern items mid new → RoundIs digits pattern items (record { rows = mid; failure = None }) new) →
    RoundIs digits pattern (it ∷ items) (record { rows = old; failure = None }) new
round_one digits pattern it items old new count clean apart round rest = let is = by_fault it.part.fault refl in record { whole = is.whole; fails = is.fails }
  where
    there : (n : ℕ) → 0 < suc n
    there n = omega arith

    first : IsItem pattern it
    first = apart.each 0 (there (length items))

    end_of : MatrixState → MatrixState
    end_of state = round_end digits pattern items state

    one_mark : {a b : Mark} → ◌≡◌ {A = Option Mark} (Some a) (Some b) → a ≡ b
    one_mark e = cc

    new_row : (i : ℕ) (o : Option LocalFault) → it.part.fault ≡ o → has it.rows i ≡ true → row_at new i ≡ row_after_fault digits (columns_at pattern i) i (row_at old i) it.part o
    new_row i o e on = round.named 0 i (there (length items)) on ∙ ap (λ f. row_after_fault digits (columns_at pattern i) i (row_at old i) it.part f) e

    by_least : (least : Option ℕ) → (first_run digits pattern it old).least ≡ least → it.part.fault ≡ None →
        RoundIs digits pattern items (record { rows = (first_run digits pattern it old).rows; failure = failure_at it.part.cell least }) new
    by_least None added formed =
        rest (first_run digits pattern it old).rows (run_length digits pattern it.part.list (record { rows = old; least = None }) ∙ count)
        (unmarked_all digits pattern it.part.list (record { rows = old; least = None }) clean) (rest_round digits pattern it items old new count apart round formed added)
    by_least (Some low) added formed =
        let reached = (first_tells digits pattern it old count first).reached low added in
        let on : has it.rows low ≡ true = named_low (has it.rows low) refl reached.1 in
        let mark_low : (row_at new low).mark ≡ Some (record { cell = it.part.cell; kind = kinds.Sum }) =
        ap (λ (r : Row). r.mark) (new_row low None formed on) ∙ row_fails digits (columns_at pattern low) low (row_at old low) it.part (run_at low) reached.1 in
        record {
          whole = λ unmarked. absurd (none_is_some (sym (unmarked low) ∙ mark_low));
          fails = λ i mark is_first. (let here = first_here digits pattern it items old new i low mark (record { cell = it.part.cell; kind = kinds.Sum }) clean apart round is_first mark_low refl in
              let from = from_run it.part (run_at i) mark (run_mark digits (columns_at pattern i) i it.part.list (record { row = row_at old i; all = true }) ∙ clean i)
              (sym (ap (λ (r : Row). r.mark) (new_row i None formed here.names)) ∙ is_first.there) in
              let (r, is_some, below) = (first_tells digits pattern it old count first).below i (first.within i here.names) from.fails in
              let same : low ≡ r = one_number (sym added ∙ is_some) in
              let at : low ≡ i = omega (arith, same, below, here.low) in
              failure_stays digits pattern (map (λ (x : RoundItem). x.part) items) (first_run digits pattern it old).rows (Sum it.part.cell low)
              ∙ ap (λ n. Some (Sum it.part.cell n)) at ∙ sym (ap (λ (m : Mark). Some (failure_of i m)) from.is));
        }
      where
        run_at : ℕ → RowRun
        run_at i = row_step digits (columns_at pattern i) i (record { row = row_at old i; all = true }) it.part

        one_number : {a b : ℕ} → ◌≡◌ {A = Option ℕ} (Some a) (Some b) → a ≡ b
        one_number e = cc

        named_low : (b : Bool) → has it.rows low ≡ b → (run_at low).all ≡ false → b ≡ true
        named_low true e fails = refl
        named_low false e fails = absurd (true_is_false (sym (ap (λ (r : RowRun). r.all) (row_left digits (columns_at pattern low) low it.part.list (record { row = row_at old low; all = true }) (none_goes it.part.list it.rows low first.covers e))) ∙ fails))

    by_fault : (o : Option LocalFault) → it.part.fault ≡ o → RoundIs digits pattern items (formed_step digits pattern old it.part o) new
    by_fault None e = by_least (first_run digits pattern it old).least refl e
    by_fault (Some fault) e =
        let shown : (row : ℕ) × (has it.rows row ≡ true) = first.shows fault e in
        let mark_there : (row_at new shown.0).mark ≡ Some (record { cell = it.part.cell; kind = kind_of fault }) = ap (λ (r : Row). r.mark) (new_row shown.0 (Some fault) e shown.1) in
        record {
          whole = λ unmarked. absurd (none_is_some (sym (unmarked shown.0) ∙ mark_there));
          fails = λ i mark is_first. (let here = first_here digits pattern it items old new i shown.0 mark (record { cell = it.part.cell; kind = kind_of fault }) clean apart round is_first mark_there refl in
              let is : mark ≡ record { cell = it.part.cell; kind = kind_of fault } = one_mark (sym is_first.there ∙ ap (λ (r : Row). r.mark) (new_row i (Some fault) e here.names)) in
              failure_stays digits pattern (map (λ (x : RoundItem). x.part) items) old (Local it.part.cell fault)
              ∙ ap Some (sym (fault_failure it.part.cell i fault)) ∙ sym (ap (λ (m : Mark). Some (failure_of i m)) is));
        }

round_none : (digits : ℕ) (pattern : List (List ℕ)) (old new : List Row) → AreUnmarked old → IsRound digits pattern [] old new → RoundIs digits pattern [] (record { rows = old; failure = None }) new
round_none digits pattern old new clean round = record {
  whole = λ unmarked. ap (λ (rows : List Row). let state : MatrixState = record { rows = rows; failure = None } in state) (sym (ext_get_or no_row new old round.count (λ i h. same i)));
  fails = λ i mark first. absurd (none_is_some (sym (clean i) ∙ sym (ap (λ (r : Row). r.mark) (same i)) ∙ first.there));
}
  where
    same : (i : ℕ) → row_at new i ≡ row_at old i
    same i = round.others i (λ k h. absurd (omega (arith, h)))

pub round_all : (digits : ℕ) (pattern : List (List ℕ)) (items : List RoundItem) (old new : List Row) → length old ≡ length pattern → AreUnmarked old → AreItems pattern items → IsRound digits pattern items old new →
    RoundIs digits pattern items (record { rows = old; failure = None }) new
round_all digits pattern [] old new count clean apart round = round_none digits pattern old new clean round
round_all digits pattern (it ∷ items) old new count clean apart round =
    round_one digits pattern it items old new count clean apart round (λ mid n unmarked is. round_all digits pattern items mid new n unmarked (tail_items pattern it items apart) is)
