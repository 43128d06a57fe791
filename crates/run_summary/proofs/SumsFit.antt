-- The rows of a serial sum are small, so they have a summary.
use Rattle.std.proofs.Common.{◌≡◌, ◌∙◌, sym, ap, subst, refl, ℕ, ◌<◌, ◌≤◌, ℤ, pos, List, [], ◌∷◌, length, map, fold, arith, lit≤}
use Rattle.std.specs.Prelude.{Some, None, Ok, All, slice_index_or, unwrap_or, filter}
use Rattle.std.specs.declared.option.Option.{Option}
use Rattle.std.specs.List.{range_with_len, concat}
use Rattle.std.proofs.lemmas.List.{length-map, get_or-map}
use Rattle.std.proofs.lemmas.List.Elements.{All-map}
use Rattle.std.proofs.lemmas.List.FromFn.{length-map-range_with_len, get_or-map-range_with_len}
use Rattle.fem_fixed.specs.KeptSum.{added}
use Rattle.serial_sum.specs.Columns.{columns_at}
use Rattle.serial_sum.specs.Rows.{no_row, goes_to}
use Rattle.serial_sum.specs.SerialSum.{SumIs, contributions, next_sum, sum_of, sum_or_zero, sum_row, sum_rows}
use Rattle.serial_sum.specs.Parts.{CellPart}
use Rattle.serial_sum.specs.declared.part.Contribution.{Contribution}
use Rattle.serial_sum.specs.declared.part.Target.{Target}
use Rattle.serial_sum.specs.declared.part.Target.TheVariants.{Column, RightSide}
use Rattle.serial_sum.proofs.KeptSizes.{added_small}
use Rattle.sparsity.specs.declared.rows.Row.{Row}
use Rattle.matrix_market.specs.Entries.{Fills, values_of, right_sides}
use Rattle.run_summary.specs.Summary.{IsSmall, IsSummable}

-- a number that is there is small
abbrev IsSmallSum : Option ℤ → Type 0
IsSmallSum None = Unit {0}
IsSmallSum (Some sum) = IsSmall sum

small_added : (o : Option ℤ) (digits : ℕ) (entry term : ℤ) → added digits entry term ≡ o → IsSmallSum o
small_added None digits entry term e = tt
small_added (Some sum) digits entry term e = added_small digits entry term sum e

small_next : (digits : ℕ) (before : Option ℤ) (c : Contribution) → IsSmallSum before → IsSmallSum (next_sum digits before c)
small_next digits None c small = tt
small_next digits (Some sum) c small = small_added (added digits sum c.value) digits sum c.value refl

small_fold : (digits : ℕ) (list : List Contribution) (before : Option ℤ) → IsSmallSum before → IsSmallSum (fold (next_sum digits) before list)
small_fold digits [] before small = small
small_fold digits (c ∷ list) before small = small_fold digits list (next_sum digits before c) (small_next digits before c small)

small_or_zero : (o : Option ℤ) → IsSmallSum o → IsSmall (unwrap_or o (pos 0))
small_or_zero None small = lit≤ tt
small_or_zero (Some sum) small = small

small_sum : (digits : ℕ) (list : List Contribution) (row : ℕ) (target : Target) → IsSmall (sum_or_zero digits list row target)
unfolding sum_of
small_sum digits list row target =
    small_or_zero (fold (next_sum digits) (Some (pos 0)) (filter (goes_to row target) list)) (small_fold digits (filter (goes_to row target) list) (Some (pos 0)) (lit≤ tt))

small_row : (digits : ℕ) (pattern : List (List ℕ)) (list : List Contribution) (i : ℕ) → All IsSmall (sum_row digits pattern list i).values
small_row digits pattern list i =
    All-map IsSmall (λ (j : ℕ). sum_or_zero digits list i (Column j)) (columns_at pattern i)
    (λ k d h. small_sum digits list i (Column (slice_index_or (columns_at pattern i) k d)))

small_values : (digits : ℕ) (pattern : List (List ℕ)) (list : List Contribution) → All (All IsSmall) (values_of (sum_rows digits pattern list))
unfolding sum_rows
small_values digits pattern list =
    let rows = range_with_len 0 (length pattern) in
    All-map (All IsSmall) (λ (row : Row). row.values) (map (sum_row digits pattern list) rows)
    (All-map (λ (row : Row). All IsSmall row.values) (sum_row digits pattern list) rows (λ k d h. small_row digits pattern list (slice_index_or rows k d)))

small_right_sides : (digits : ℕ) (pattern : List (List ℕ)) (list : List Contribution) → All IsSmall (right_sides (sum_rows digits pattern list))
unfolding sum_rows
small_right_sides digits pattern list =
    let rows = range_with_len 0 (length pattern) in
    All-map IsSmall (λ (row : Row). row.rhs) (map (sum_row digits pattern list) rows)
    (All-map (λ (row : Row). IsSmall row.rhs) (sum_row digits pattern list) rows (λ k d h. small_sum digits list (slice_index_or rows k d) RightSide))

sum_count : (digits : ℕ) (pattern : List (List ℕ)) (list : List Contribution) → length (sum_rows digits pattern list) ≡ length pattern
unfolding sum_rows
sum_count digits pattern list = length-map-range_with_len (sum_row digits pattern list) 0 (length pattern)

sum_at : (digits : ℕ) (pattern : List (List ℕ)) (list : List Contribution) (i : ℕ) → i < length pattern → slice_index_or (sum_rows digits pattern list) i no_row ≡ sum_row digits pattern list i
unfolding sum_rows
sum_at digits pattern list i h = get_or-map-range_with_len (sum_row digits pattern list) 0 (length pattern) i i no_row h (omega arith)

sum_fills : (digits : ℕ) (pattern : List (List ℕ)) (list : List Contribution) → Fills (values_of (sum_rows digits pattern list)) pattern
sum_fills digits pattern list =
    let rows = sum_rows digits pattern list in
    let count : length rows ≡ length pattern = sum_count digits pattern list in
    record {
      rows = length-map rows (λ (row : Row). row.values) ∙ count;
      each = λ i h. ap length (get_or-map (λ (row : Row). row.values) rows i no_row [] (omega arith) ∙ ap (λ (row : Row). row.values) (sum_at digits pattern list i h))
          ∙ length-map (columns_at pattern i) (λ (j : ℕ). sum_or_zero digits list i (Column j));
    }

-- each serial sum over a pattern within its limit has a summary
pub sum_is_summable : (digits : ℕ) (pattern : List (List ℕ)) (parts : List CellPart) (rows : List Row) → SumIs digits pattern parts (Ok rows) → length (concat pattern) ≤ 33554432 →
    IsSummable pattern (values_of rows) (right_sides rows)
sum_is_summable digits pattern parts rows is few =
    let P : List Row → Type 0 = λ rows. IsSummable pattern (values_of rows) (right_sides rows) in
    let list = contributions parts in
    subst P (sym is.1) (record { fills = sum_fills digits pattern list; few = few; small = small_values digits pattern list; small_rhs = small_right_sides digits pattern list })
