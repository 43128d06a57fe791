-- Blocks of a cell, added to one row.
use Rattle.std.proofs.Common.{◌≡◌, ◌∙◌, sym, ap, subst, ℕ, List, Bool, true, false, cond}
use Rattle.std.specs.List.{All, fold}
use Rattle.sparsity.specs.declared.rows.Row.{Row}
use Rattle.sparsity.specs.declared.rows.MarkKind.TheVariants as kinds
use Rattle.serial_sum.specs.Columns.{columns_at}
use Rattle.serial_sum.specs.Rows.{IsFor}
use Rattle.serial_sum.specs.Steps.{RowRun, row_own, IsForRow}
use Rattle.serial_sum.specs.Marks.{marked, after_run_of}
use Rattle.serial_sum.specs.Adders.{one_row_step}
use Rattle.serial_sum.specs.declared.part.Contribution.{Contribution}
use Rattle.serial_sum.proofs.Added.{one_row_told}
use Rattle.serial_sum.proofs.RowStepLaws.{part_for_row}

-- contributions that may be added to all rows may be added to this one
pub for_columns : (pattern : List (List ℕ)) (columns : List ℕ) (i : ℕ) (list : List Contribution) → columns ≡ columns_at pattern i → All (IsFor pattern) list → All (IsForRow columns i) list
for_columns pattern columns i list e given = let P : List ℕ → Type 0 = λ cs. All (IsForRow cs i) list in subst P (sym e) (part_for_row pattern i list given)

pub row_run : (digits : ℕ) (columns at : List ℕ) (i : ℕ) (list : List Contribution) (row now : Row) (all done : Bool) → columns ≡ at →
    ◌≡◌ {A = Row × Bool} (now, done) (fold (one_row_step digits columns i) (row, all) list) →
    ◌≡◌ {A = RowRun} (record { row = now; all = done }) (fold (row_own digits at i) (record { row = row; all = all }) list)
row_run digits columns at i list row now all done is e =
    ap run_of (e ∙ one_row_told digits columns i list (record { row = row; all = all })) ∙ ap (λ (cs : List ℕ). fold (row_own digits cs i) (record { row = row; all = all }) list) is
  where
    run_of : Row × Bool → RowRun
    run_of p = record { row = p.0; all = p.1 }

-- the row after a run in which all was added, or not all
pub all_added : (cell : ℕ) (now : Row) (done : Bool) (run : RowRun) → done ≡ true → ◌≡◌ {A = RowRun} (record { row = now; all = done }) run → now ≡ after_run_of cell run
all_added cell now done run e is = sym (ap (λ b. cond b now (marked cell kinds.Sum now)) e) ∙ ap (after_run_of cell) is

pub not_all_added : (cell : ℕ) (now last : Row) (done : Bool) (run : RowRun) → done ≡ false → ◌≡◌ {A = RowRun} (record { row = now; all = done }) run → last ≡ marked cell kinds.Sum now → last ≡ after_run_of cell run
not_all_added cell now last done run e is ended = ended ∙ sym (ap (λ b. cond b now (marked cell kinds.Sum now)) e) ∙ ap (after_run_of cell) is
