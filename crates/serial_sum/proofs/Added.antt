-- Lists of contributions, added one by one.
use Rattle.std.proofs.Common.{◌≡◌, refl, ℕ, List, [], ◌∷◌}
use Rattle.std.specs.Prelude.{fold}
use Rattle.serial_sum.specs.Rows.{Run, one}
use Rattle.serial_sum.specs.Steps.{RowRun, row_own}
use Rattle.serial_sum.specs.Adders.{rows_told, rows_step, row_told, one_row_step}
use Rattle.serial_sum.specs.declared.part.Contribution.{Contribution}

pub all_rows_told : (digits : ℕ) (pattern : List (List ℕ)) (list : List Contribution) (run : Run) → fold (rows_step digits pattern) (rows_told run) list ≡ rows_told (fold (one digits pattern) run list)
all_rows_told digits pattern [] run = refl
all_rows_told digits pattern (c ∷ list) run = all_rows_told digits pattern list (one digits pattern run c)

pub one_row_told : (digits : ℕ) (columns : List ℕ) (i : ℕ) (list : List Contribution) (run : RowRun) → fold (one_row_step digits columns i) (row_told run) list ≡ row_told (fold (row_own digits columns i) run list)
one_row_told digits columns i [] run = refl
one_row_told digits columns i (c ∷ list) run = one_row_told digits columns i list (row_own digits columns i run c)
