-- The sums on their way over the entries of a row, and over the rows.
use Rattle.std.proofs.Common.{◌≡◌, ◌∙◌, ◌⊎◌, inl, inr, refl, sym, ap, subst, ℕ, ◌+◌, ◌*◌, ◌^◌, ◌<◌, ◌≤◌, ℤ, List, [], ◌∷◌, ◌++◌, length, map, fold, drop, arith, lit<, length-append, to_z, of_z}
use Rattle.std.specs.Prelude.{All, slice_index_or, unsigned_abs}
use Rattle.std.specs.Int.{w128}
use Rattle.std.specs.List.{concat}
use Rattle.std.proofs.lemmas.Int.{to_z-of_z}
use Rattle.std.proofs.lemmas.List.{drop_more, drop_all, get_or-map, length-map}
use Rattle.std.proofs.lemmas.List.Elements.{All-head, All-same}
use Rattle.std.proofs.lemmas.List.Sums.{fold-append}
use Rattle.fem_fixed.proofs.Sizes.{size_fits}
use Rattle.sparsity.specs.declared.rows.Row.{Row}
use Rattle.matrix_market.specs.Entries.{Triple, Fills, row_entries, entries_from, entries_of, values_of, right_sides}
use Rattle.run_summary.specs.Summary.{IsSmall, diagonal_sum, matrix_sum, vector_sum}
use Rattle.run_summary.specs.Steps.{no_sum, with_value, no_sums, with_entry, IsWithin, AreWithin}
use Rattle.run_summary.specs.declared.weighted.WeightedSum.{WeightedSum}
use Rattle.run_summary.specs.declared.sums.MatrixSums.{MatrixSums}
use Rattle.run_summary.proofs.Folds.{whole_vector, whole_matrix, whole_diagonal}

-- a small number is kept whole
pub small_read : (value : ℤ) → IsSmall value → to_z w128 (of_z w128 value) ≡ value
small_read value small = to_z-of_z w128 value (size_fits value (2 ^ 80) small (lit< tt))

pub small_is_read : (value : ℤ) → IsSmall value → IsSmall (to_z w128 (of_z w128 value))
small_is_read value small = subst IsSmall (sym (small_read value small)) small

-- an entry more of a row
pub next_entry : (row column : ℕ) (value : ℤ) (columns columns_left : List ℕ) (values values_left : List ℤ) (before after whole : MatrixSums) →
    columns ≡ column ∷ columns_left → values ≡ value ∷ values_left → IsSmall value → after ≡ with_entry before (row, column, to_z w128 (of_z w128 value)) →
    fold with_entry before (row_entries row columns values) ≡ whole → fold with_entry after (row_entries row columns_left values_left) ≡ whole
next_entry row column value columns columns_left values values_left before after whole c v small step so_far =
    ap (λ sums. fold with_entry sums (row_entries row columns_left values_left)) (step ∙ ap (λ z. with_entry before (row, column, z)) (small_read value small)) ∙
    sym (λ i. fold with_entry before (row_entries row (c i) (v i))) ∙ so_far

-- and there is room for those that are left
pub next_count : (column : ℕ) (columns columns_left : List ℕ) (entry : Triple) (before after : MatrixSums) (most : ℕ) → columns ≡ column ∷ columns_left → after ≡ with_entry before entry →
    before.weighted.count + length columns ≤ most → after.weighted.count + length columns_left ≤ most
next_count column columns columns_left entry before after most c step few =
    let count : after.weighted.count ≡ before.weighted.count + 1 = ap (λ (sums : MatrixSums). sums.weighted.count) step in
    let long : length columns ≡ length (column ∷ columns_left) = ap length c in
    omega arith

-- the first of small values
pub first_small : (values left : List ℤ) (value : ℤ) → values ≡ value ∷ left → All IsSmall values → IsSmall value
first_small values left value e small = All-head IsSmall value left (All-same IsSmall (value ∷ left) values (sym e) small)

-- a row ends where its columns or its values end
pub row_entries-end : (row : ℕ) (columns : List ℕ) (values : List ℤ) → (columns ≡ []) ⊎ (values ≡ []) → row_entries row columns values ≡ []
row_entries-end row columns values (inl none) = ap (λ left. row_entries row left values) none
row_entries-end row [] values (inr none) = refl
row_entries-end row (column ∷ columns) values (inr none) = ap (row_entries row (column ∷ columns)) none

-- nothing is left of a row
pub row_end : (entries : List (ℕ × ℕ × ℤ)) (sums whole : MatrixSums) → entries ≡ [] → fold with_entry sums entries ≡ whole → sums ≡ whole
row_end entries sums whole none all = sym (ap (fold with_entry sums) none) ∙ all

-- the columns of a row are the first of those that are left
columns_left : (pattern : List (List ℕ)) (i : ℕ) (columns : List ℕ) → i < length pattern → columns ≡ slice_index_or pattern i [] → drop i pattern ≡ columns ∷ drop (i + 1) pattern
columns_left pattern i columns h e = drop_more pattern i [] h ∙ ap (λ row. row ∷ drop (i + 1) pattern) (sym e)

pub row_of : {X : Type 0} (part : Row → X) (rows : List Row) (i : ℕ) (row : Row) → i < length rows → row ≡ slice_index_or rows i row → slice_index_or (map part rows) i (part row) ≡ part row
row_of part rows i row h e = get_or-map part rows i row (part row) h ∙ ap part (sym e)

row_left : {X : Type 0} (part : Row → X) (rows : List Row) (i : ℕ) (row : Row) → i < length rows → row ≡ slice_index_or rows i row →
    drop i (map part rows) ≡ part row ∷ drop (i + 1) (map part rows)
row_left part rows i row h e =
    let count : length (map part rows) ≡ length rows = length-map rows part in
    drop_more (map part rows) i (part row) (omega arith) ∙ ap (λ x. x ∷ drop (i + 1) (map part rows)) (row_of part rows i row h e)

pub row_is_there : (pattern : List (List ℕ)) (rows : List Row) (i : ℕ) → Fills (values_of rows) pattern → i < length pattern → i < length rows
row_is_there pattern rows i fills h = let all = fills.rows in omega (arith, length-map rows (λ (row : Row). row.values))

-- the right side of a row is small
pub small_rhs : (rows : List Row) (i : ℕ) (row : Row) → i < length rows → row ≡ slice_index_or rows i row → All IsSmall (right_sides rows) → IsSmall row.rhs
small_rhs rows i row h e small =
    let count : length (right_sides rows) ≡ length rows = length-map rows (λ (row : Row). row.rhs) in
    subst IsSmall (row_of (λ (row : Row). row.rhs) rows i row h e) (small i row.rhs (omega arith))

-- a row more
pub next_row : (pattern : List (List ℕ)) (rows : List Row) (i : ℕ) (columns : List ℕ) (values : List ℤ) (row : Row) (before after whole : MatrixSums) →
    i < length pattern → i < length rows → columns ≡ slice_index_or pattern i [] → row ≡ slice_index_or rows i row → values ≡ row.values →
    after ≡ fold with_entry before (row_entries i columns values) → fold with_entry before (entries_from i (drop i pattern) (drop i (values_of rows))) ≡ whole →
    fold with_entry after (entries_from (i + 1) (drop (i + 1) pattern) (drop (i + 1) (values_of rows))) ≡ whole
next_row pattern rows i columns values row before after whole h k c e v step so_far =
    let left = entries_from (i + 1) (drop (i + 1) pattern) (drop (i + 1) (values_of rows)) in
    let first = columns_left pattern i columns h c in
    let second = row_left (λ (row : Row). row.values) rows i row k e in
    ap (λ sums. fold with_entry sums left) (step ∙ ap (λ vs. fold with_entry before (row_entries i columns vs)) v)
    ∙ sym (fold-append with_entry before (row_entries i columns row.values) left) ∙ sym (λ j. fold with_entry before (entries_from i (first j) (second j))) ∙ so_far

-- a right side more
pub next_rhs : (rows : List Row) (i : ℕ) (row : Row) (before after whole : WeightedSum) → i < length rows → row ≡ slice_index_or rows i row → IsSmall row.rhs →
    after ≡ with_value before (to_z w128 (of_z w128 row.rhs)) → fold with_value before (drop i (right_sides rows)) ≡ whole → fold with_value after (drop (i + 1) (right_sides rows)) ≡ whole
next_rhs rows i row before after whole h e small step so_far =
    ap (λ sum. fold with_value sum (drop (i + 1) (right_sides rows))) (step ∙ ap (with_value before) (small_read row.rhs small))
    ∙ sym (ap (fold with_value before) (row_left (λ (row : Row). row.rhs) rows i row h e)) ∙ so_far

-- and as many entries more as the row has columns, at most
pub next_few : (pattern : List (List ℕ)) (i : ℕ) (columns : List ℕ) (before after most : ℕ) → i < length pattern → columns ≡ slice_index_or pattern i [] →
    after ≤ before + length columns → before + length (concat (drop i pattern)) ≤ most → after + length (concat (drop (i + 1) pattern)) ≤ most
next_few pattern i columns before after most h e grows few =
    let parts : length (concat (drop i pattern)) ≡ length (columns ++ concat (drop (i + 1) pattern)) = ap (λ rows. length (concat rows)) (columns_left pattern i columns h e) in
    omega (arith, parts, length-append columns (concat (drop (i + 1) pattern)))

-- nothing is left of the rows
rows_end : (pattern : List (List ℕ)) (values : List (List ℤ)) (i : ℕ) (sums whole : MatrixSums) → length pattern ≤ i →
    fold with_entry sums (entries_from i (drop i pattern) values) ≡ whole → sums ≡ whole
rows_end pattern values i sums whole h all = sym (ap (λ rows. fold with_entry sums (entries_from i rows values)) (drop_all i pattern h)) ∙ all

rhs_end : (values : List ℤ) (i : ℕ) (sum whole : WeightedSum) → length values ≤ i → fold with_value sum (drop i values) ≡ whole → sum ≡ whole
rhs_end values i sum whole h all = sym (ap (fold with_value sum) (drop_all i values h)) ∙ all

sum_read : (sum : ℤ) (count : ℕ) → unsigned_abs sum ≤ 2 ^ 83 * count → count ≤ 2 ^ 32 → to_z w128 (of_z w128 sum) ≡ sum
sum_read sum count within few = to_z-of_z w128 sum (size_fits sum (2 ^ 83 * 2 ^ 32) (omega arith) (lit< tt))

pub diagonal_end : (pattern : List (List ℕ)) (values left : List (List ℤ)) (i : ℕ) (sums : MatrixSums) → length pattern ≤ i → AreWithin sums → sums.weighted.count ≤ 2 ^ 32 →
    fold with_entry sums (entries_from i (drop i pattern) left) ≡ fold with_entry no_sums (entries_of pattern values) → to_z w128 (of_z w128 sums.diagonal) ≡ diagonal_sum pattern values
diagonal_end pattern values left i sums h within few all =
    let size = within.diagonal in
    sum_read sums.diagonal sums.weighted.count (omega arith) few
    ∙ ap (λ (s : MatrixSums). s.diagonal) (rows_end pattern left i sums (fold with_entry no_sums (entries_of pattern values)) h all) ∙ whole_diagonal pattern values

pub matrix_end : (pattern : List (List ℕ)) (values left : List (List ℤ)) (i : ℕ) (sums : MatrixSums) → length pattern ≤ i → AreWithin sums → sums.weighted.count ≤ 2 ^ 32 →
    fold with_entry sums (entries_from i (drop i pattern) left) ≡ fold with_entry no_sums (entries_of pattern values) → to_z w128 (of_z w128 sums.weighted.sum) ≡ matrix_sum pattern values
matrix_end pattern values left i sums h within few all =
    sum_read sums.weighted.sum sums.weighted.count within.weighted.size few
    ∙ ap (λ (s : MatrixSums). s.weighted.sum) (rows_end pattern left i sums (fold with_entry no_sums (entries_of pattern values)) h all) ∙ whole_matrix pattern values

pub vector_end : (values : List ℤ) (i : ℕ) (sum : WeightedSum) → length values ≤ i → IsWithin sum → sum.count ≤ 2 ^ 32 → fold with_value sum (drop i values) ≡ fold with_value no_sum values →
    to_z w128 (of_z w128 sum.sum) ≡ vector_sum values
vector_end values i sum h within few all =
    sum_read sum.sum sum.count within.size few ∙ ap (λ (s : WeightedSum). s.sum) (rhs_end values i sum (fold with_value no_sum values) h all) ∙ whole_vector values

-- there are as many right sides as rows of the pattern
pub rhs_count : (pattern : List (List ℕ)) (rows : List Row) → Fills (values_of rows) pattern → length (right_sides rows) ≡ length pattern
rhs_count pattern rows fills = let all = fills.rows in omega (arith, length-map rows (λ (row : Row). row.values), length-map rows (λ (row : Row). row.rhs))
