-- Rows with their numbers.
use Rattle.std.proofs.Common.{◌≡◌, ◌<◌, ◌+◌, ◌++◌, ℕ, zero, suc, List, [], ◌∷◌, length, map, take, refl, sym, ap, ap₂, ◌∙◌, subst, arith, slice_index_or}
use Rattle.std.specs.Prelude.{slice_set}
use Rattle.std.specs.List.{range_with_len}
use Rattle.std.proofs.lemmas.List.{length-append, map-append, map-set, take_more}
use Rattle.std.proofs.Math.Seq.{map-set_same}
use Rattle.std.proofs.Math.ListN.{length-set}
use Rattle.std.proofs.lemmas.List.FromFn.{map-range_with_len_more}
use Rattle.sparsity.specs.declared.rows.Row.{Row}
use Rattle.sparsity.specs.Rows.{rows_in, AreNumbered, zero_row}

pub rows_length : (rows : List (ℕ × Row)) → length (rows_in rows) ≡ length rows
unfolding rows_in
rows_length [] = refl
rows_length (x ∷ xs) = ap (λ n. suc n) (rows_length xs)

-- the row at a place, whatever stands for a row that isn't there
pub row_there : (rows : List (ℕ × Row)) (i : ℕ) (entry : ℕ × Row) → i < length rows → entry ≡ slice_index_or rows i entry → entry.1 ≡ slice_index_or (rows_in rows) i entry.1
unfolding rows_in
row_there rows i entry inside e = ap (λ (x : ℕ × Row). x.1) e ∙ read rows i entry inside
  where
    read : (rows : List (ℕ × Row)) (i : ℕ) (entry : ℕ × Row) → i < length rows → (slice_index_or rows i entry).1 ≡ slice_index_or (map (λ (x : ℕ × Row). x.1) rows) i entry.1
    read [] i entry h = refl
    read (x ∷ xs) zero entry h = refl
    read (x ∷ xs) (suc i) entry h = read xs i entry (omega (arith, h))

-- a row is written
pub row_written : (rows : List (ℕ × Row)) (i : ℕ) (number : ℕ) (row : Row) → rows_in (slice_set rows i (number, row)) ≡ slice_set (rows_in rows) i row
unfolding rows_in
row_written rows i number row = map-set (λ (x : ℕ × Row). x.1) rows i (number, row)

pub numbers_stay : (rows : List (ℕ × Row)) (i : ℕ) (entry : ℕ × Row) (row : Row) → entry ≡ slice_index_or rows i entry → AreNumbered rows → AreNumbered (slice_set rows i (entry.0, row))
numbers_stay rows i entry row e h =
    map-set_same (λ (x : ℕ × Row). x.0) rows i (entry.0, row) entry (ap (λ (x : ℕ × Row). x.0) e) ∙ h ∙ ap (range_with_len 0) (sym (length-set rows i (entry.0, row)))

-- a row more
pub numbers_more : (rows : List (ℕ × Row)) (i : ℕ) (row : Row) → length rows ≡ i → AreNumbered rows → AreNumbered (rows ++ (i, row) ∷ [])
numbers_more rows i row count h =
    let total : length (rows ++ (i, row) ∷ []) ≡ length rows + 1 = length-append rows ((i, row) ∷ []) in
    map-append (λ (x : ℕ × Row). x.0) rows ((i, row) ∷ [])
    ∙ ap (λ ns. ns ++ i ∷ []) h
    ∙ sym (ap (range_with_len 0) total ∙ more (length rows) i count)
  where
    same : (ns : List ℕ) → map (λ n. n) ns ≡ ns
    same [] = refl
    same (n ∷ ns) = ap (λ ms. n ∷ ms) (same ns)

    more : (n i : ℕ) → n ≡ i → range_with_len 0 (n + 1) ≡ range_with_len 0 n ++ i ∷ []
    more n i e = sym (same (range_with_len 0 (n + 1))) ∙ map-range_with_len_more (λ n. n) 0 n i (omega (arith, e)) ∙ ap (λ ns. ns ++ i ∷ []) (same (range_with_len 0 n))

pub rows_more : (rows : List (ℕ × Row)) (pattern : List (List ℕ)) (columns : List ℕ) (i : ℕ) (row : Row) → i < length pattern → columns ≡ slice_index_or pattern i [] → row ≡ zero_row columns →
    rows_in rows ≡ map zero_row (take i pattern) → rows_in (rows ++ (i, row) ∷ []) ≡ map zero_row (take (i + 1) pattern)
unfolding rows_in
rows_more rows pattern columns i row inside at is h =
    map-append (λ (x : ℕ × Row). x.1) rows ((i, row) ∷ [])
    ∙ ap₂ (λ (a : List Row) (b : Row). a ++ b ∷ []) h (is ∙ ap zero_row at)
    ∙ sym (ap (map zero_row) (take_more pattern i [] inside) ∙ map-append zero_row (take i pattern) (slice_index_or pattern i [] ∷ []))

-- zero rows so far
pub record Zeros (numbered : List (ℕ × Row)) (pattern : List (List ℕ)) (i : ℕ) : Type 0 where
  pub count : length numbered ≡ i
  pub numbers : AreNumbered numbered
  pub rows : rows_in numbered ≡ map zero_row (take i pattern)

pub zeros_none : (rows : List (ℕ × Row)) (pattern : List (List ℕ)) → rows ≡ [] → Zeros rows pattern 0
unfolding rows_in
zeros_none rows pattern e = let P : List (ℕ × Row) → Type 0 = λ xs. Zeros xs pattern 0 in subst P (sym e) (record { count = refl; numbers = refl; rows = refl })

pub zeros_more : (rows after : List (ℕ × Row)) (pattern : List (List ℕ)) (columns : List ℕ) (i : ℕ) (row : Row) → i < length pattern → columns ≡ slice_index_or pattern i [] → row ≡ zero_row columns →
    after ≡ rows ++ (i, row) ∷ [] → Zeros rows pattern i → Zeros after pattern (i + 1)
zeros_more rows after pattern columns i row inside at is pushed h =
    let P : List (ℕ × Row) → Type 0 = λ xs. Zeros xs pattern (i + 1) in
    let total : length (rows ++ (i, row) ∷ []) ≡ length rows + 1 = length-append rows ((i, row) ∷ []) in
    subst P (sym pushed) (record { count = total ∙ ap (λ n. n + 1) h.count; numbers = numbers_more rows i row h.count h.numbers; rows = rows_more rows pattern columns i row inside at is h.rows })
