-- The rows in pieces are all rows.
use Rattle.std.proofs.Common.{◌≡◌, ◌≤◌, ◌<◌, ◌+◌, ◌-◌, ◌*◌, ◌/◌, ◌++◌, ⊎_elim, ℕ, zero, suc, List, [], ◌∷◌, length, map, refl, sym, ap, ap₂, ◌∙◌, arith, min, subst, append-nil}
use Rattle.std.specs.Prelude.{sum}
use Rattle.std.specs.List.{range_with_len, concat, flat_map}
use Rattle.std.proofs.lemmas.Bool.{cases_lt}
use Rattle.std.proofs.lemmas.List.{length-append, map-append}
use Rattle.std.proofs.lemmas.List.Concat.{flat_map-append}
use Rattle.std.proofs.lemmas.List.Folds.{concat-append}
use Rattle.std.proofs.lemmas.List.Sums.{sum_by-cons}
use Rattle.std.proofs.lemmas.List.FromFn.{map-range_with_len_more}
use Rattle.sparsity.specs.Coupled.{row_of, rows_of}
use Rattle.sparsity.specs.Pieces.{piece_of, pieces_in}
use Rattle.sparsity.proofs.Listing.{total_more}

pub map_same : {X : Type 0} (xs : List X) → map (λ x. x) xs ≡ xs
map_same [] = refl
map_same (x ∷ xs) = ap (λ ys. x ∷ ys) (map_same xs)

range_append : (a m n : ℕ) → range_with_len a m ++ range_with_len (a + m) n ≡ range_with_len a (m + n)
range_append a zero n = let e : a + 0 ≡ a = omega arith in let f : 0 + n ≡ n = omega arith in rw (e, f) refl
range_append a (suc m) n =
    let e : a + suc m ≡ (a + 1) + m = omega arith in
    let f : suc m + n ≡ suc (m + n) = omega arith in
    rw (e, f) (ap (λ xs. a ∷ xs) (range_append (a + 1) m n))

-- the rows of the first k pieces
abbrev AreFirst : ℕ → List (List ℕ) → ℕ → Type 0
AreFirst size lists k = flat_map (λ piece. piece) (map (piece_of size lists) (range_with_len 0 k)) ≡ map (row_of size lists) (range_with_len 0 (min size (k * 1024)))

next_rows : (f : ℕ → List ℕ) (size k : ℕ) →
    map f (range_with_len 0 (min size (k * 1024))) ++ map f (range_with_len (k * 1024) (min 1024 (size - k * 1024))) ≡ map f (range_with_len 0 (min size ((k + 1) * 1024)))
next_rows f size k = ⊎_elim
    (λ (low : k * 1024 < size).
    let first : min size (k * 1024) ≡ k * 1024 = omega (arith, low) in
    let start : k * 1024 ≡ 0 + k * 1024 = omega arith in
    let both : k * 1024 + min 1024 (size - k * 1024) ≡ min size ((k + 1) * 1024) = omega (arith, low) in
    sym (map-append f (range_with_len 0 (min size (k * 1024))) (range_with_len (k * 1024) (min 1024 (size - k * 1024))))
    ∙ ap (map f) (ap (λ n. range_with_len 0 n ++ range_with_len (k * 1024) (min 1024 (size - k * 1024))) first
    ∙ ap (λ n. range_with_len 0 (k * 1024) ++ range_with_len n (min 1024 (size - k * 1024))) start ∙ range_append 0 (k * 1024) (min 1024 (size - k * 1024)) ∙ ap (range_with_len 0) both))
    (λ (high : size ≤ k * 1024).
    let none : min 1024 (size - k * 1024) ≡ 0 = omega (arith, high) in
    let same : min size (k * 1024) ≡ min size ((k + 1) * 1024) = omega (arith, high) in
    ap (λ n. map f (range_with_len 0 (min size (k * 1024))) ++ map f (range_with_len (k * 1024) n)) none ∙ append-nil (map f (range_with_len 0 (min size (k * 1024)))) ∙ ap (λ n. map f (range_with_len 0 n)) same)
    (cases_lt (k * 1024) size)

first_more : (size : ℕ) (lists : List (List ℕ)) (k : ℕ) → AreFirst size lists k → AreFirst size lists (k + 1)
unfolding piece_of
first_more size lists k h =
    ap (flat_map (λ piece. piece)) (map-range_with_len_more (piece_of size lists) 0 k k (omega arith))
    ∙ flat_map-append (λ piece. piece) (map (piece_of size lists) (range_with_len 0 k)) (piece_of size lists k ∷ [])
    ∙ ap (λ rows. rows ++ (piece_of size lists k ++ [])) h
    ∙ ap (λ rows. map (row_of size lists) (range_with_len 0 (min size (k * 1024))) ++ rows) (append-nil (piece_of size lists k))
    ∙ next_rows (row_of size lists) size k

pieces_upto : (size : ℕ) (lists : List (List ℕ)) (k : ℕ) → AreFirst size lists k
pieces_upto size lists zero = let e : min size (0 * 1024) ≡ 0 = omega arith in ap (λ n. map (row_of size lists) (range_with_len 0 n)) (sym e)
pieces_upto size lists (suc k) =
    let P : ℕ → Type 0 = AreFirst size lists in
    let e : k + 1 ≡ suc k = omega arith in
    subst P e (first_more size lists k (pieces_upto size lists k))

pub pieces_join : (size : ℕ) (lists : List (List ℕ)) → flat_map (λ piece. piece) (map (piece_of size lists) (range_with_len 0 (pieces_in size))) ≡ rows_of (record { size = size; lists = lists })
unfolding rows_of
pieces_join size lists =
    let all : min size ((size / 1024 + 1) * 1024) ≡ size = omega arith in
    pieces_upto size lists (pieces_in size) ∙ ap (λ n. map (row_of size lists) (range_with_len 0 n)) all

pub joined_rows : (size : ℕ) (lists : List (List ℕ)) (pieces : List (List (List ℕ))) → map (λ piece. piece) pieces ≡ map (piece_of size lists) (range_with_len 0 (pieces_in size)) →
    flat_map (λ piece. piece) pieces ≡ rows_of (record { size = size; lists = lists })
joined_rows size lists pieces e = ap (flat_map (λ piece. piece)) (sym (map_same pieces) ∙ e) ∙ pieces_join size lists

sum-cons : (x : ℕ) (xs : List ℕ) → sum (x ∷ xs) ≡ x + sum xs
sum-cons x xs = sum_by-cons (λ n. n) x xs

-- the lengths of the pieces are together that of all
lengths_add : {N : Type 0} (piece : N → List (List ℕ)) (ns : List N) → sum (map (λ p. length (concat (piece p))) ns) ≡ length (concat (flat_map (λ xs. xs) (map piece ns)))
lengths_add piece [] = refl
lengths_add piece (n ∷ ns) =
    let rest = lengths_add piece ns in
    let whole = ap length (concat-append (piece n) (flat_map (λ xs. xs) (map piece ns))) ∙ length-append (concat (piece n)) (concat (flat_map (λ xs. xs) (map piece ns))) in
    sum-cons (length (concat (piece n))) (map (λ p. length (concat (piece p))) ns) ∙ ap (λ m. length (concat (piece n)) + m) rest ∙ sym whole

pub counts_add : (size : ℕ) (lists : List (List ℕ)) (counts : List ℕ) → map (λ count. count) counts ≡ map (λ p. length (concat (piece_of size lists p))) (range_with_len 0 (pieces_in size)) →
    sum counts ≡ length (concat (rows_of (record { size = size; lists = lists })))
counts_add size lists counts e =
    ap sum (sym (map_same counts) ∙ e) ∙ lengths_add (piece_of size lists) (range_with_len 0 (pieces_in size)) ∙ ap (λ rows. length (concat rows)) (pieces_join size lists)

-- one row more of a piece
pub row_more : (f : ℕ → List ℕ) (first i : ℕ) → first ≤ i → map f (range_with_len first (i + 1 - first)) ≡ map f (range_with_len first (i - first)) ++ f i ∷ []
row_more f first i low =
    let e : i + 1 - first ≡ (i - first) + 1 = omega (arith, low) in
    rw e (map-range_with_len_more f first (i - first) i (omega (arith, low)))

-- a piece is done
pub piece_done : (size : ℕ) (lists : List (List ℕ)) (p first n : ℕ) → first ≡ p * 1024 → n ≡ min 1024 (size - p * 1024) → map (row_of size lists) (range_with_len first n) ≡ piece_of size lists p
unfolding piece_of
piece_done size lists p first n e f = ap₂ (λ a m. map (row_of size lists) (range_with_len a m)) e f

-- the count after a row more
pub count_more : (f : ℕ → List ℕ) (first i count more : ℕ) → first ≤ i → count ≡ length (concat (map f (range_with_len first (i - first)))) → more ≡ length (f i) →
    count + more ≡ length (concat (map f (range_with_len first (i + 1 - first))))
count_more f first i count more low e h =
    ap₂ (λ a b. a + b) e h ∙ sym (ap (λ rows. length (concat rows)) (row_more f first i low) ∙ total_more (map f (range_with_len first (i - first))) (f i))

small_step : (k size count more : ℕ) → count ≤ k * size → more ≤ size → count + more ≤ (k + 1) * size
small_step k size count more h small = grind (arith, h, small)

pub small_more : (first i size count more : ℕ) → first ≤ i → count ≤ (i - first) * size → more ≤ size → count + more ≤ (i + 1 - first) * size
small_more first i size count more low h small =
    let e : i + 1 - first ≡ (i - first) + 1 = omega (arith, low) in
    rw e (small_step (i - first) size count more h small)
