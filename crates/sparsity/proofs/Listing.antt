-- All rows, and a place in one.
use Rattle.std.proofs.Common.{◌≡◌, ◌≤◌, ◌<◌, ◌+◌, ◌^◌, ◌++◌, ◌⊎◌, ◌↔◌, inl, inr, ⊎_elim, ℕ, Bool, false, IsTrue, ◌==◌, List, [], ◌∷◌, length, map, refl, sym, ap, ap₂, ◌∙◌, subst, arith, slice_index_or}
use Rattle.std.specs.Prelude.{All, Ok, Err, IfOk, MatchResult, MatchOption}
use Rattle.std.specs.declared.option.Option.{Option}
use Rattle.std.specs.declared.result.Result.{Result}
use Rattle.std.specs.Result.{result_ok}
use Rattle.std.specs.List.{AllZip, Contains, range_with_len, concat}
use Rattle.std.specs.Ordering.{nat_cmp}
use Rattle.std.specs.List.Sorted.{IsStrictlyIncreasing, IsBinarySearchResult}
use Rattle.std.proofs.lemmas.Bool.{cases_lt}
use Rattle.std.proofs.lemmas.List.{length-append}
use Rattle.std.proofs.lemmas.List.Elements.{All-map, All-filter, All-from_get_or}
use Rattle.std.proofs.lemmas.List.Folds.{list_any_none}
use Rattle.std.proofs.lemmas.List.FromFn.{length-range_with_len, length-map-range_with_len, get_or-range_with_len}
use Rattle.std.proofs.lemmas.List.Kept.{AllPairs-from_increasing, IsStrictlyIncreasing-filter}
use Rattle.std.proofs.lemmas.List.Sorted.{searched}
use Rattle.sparsity.specs.Coupled.{CoupledDofs, has, is_coupled, row_of, rows_of, pairs_of, IsPattern}

-- things that were made one by one
each_is : {X A : Type 0} (E : Type 0) (g : X → A) (f : ℕ → A) (ns : List ℕ) (ys : List X) → AllZip (λ n (x : Result X E). IfOk x (λ y. g y ≡ f n)) ns (map Ok ys) → map g ys ≡ map f ns
each_is E g f [] [] h = refl
each_is E g f [] (y ∷ ys) h = absurd h
each_is E g f (n ∷ ns) [] h = absurd h
each_is E g f (n ∷ ns) (y ∷ ys) h = ap₂ (λ a b. a ∷ b) h.0 (each_is E g f ns ys h.1)

pub all_made : {X E V A : Type 0} (g : X → A) (items : V → List X) (f : ℕ → A) (ns : List ℕ) (xs : List (Result X E)) (r : Result V E) → AllZip (λ n x. IfOk x (λ y. g y ≡ f n)) ns xs →
    MatchResult r (λ v. (ys : List X) × (xs ≡ map Ok ys) × (items v ≡ ys)) (λ e. Contains xs (Err e)) → IfOk r (λ v. map g (items v) ≡ map f ns)
all_made {E = E} g items f ns xs (Err e) each made = tt
all_made {E = E} g items f ns xs (Ok v) each made =
    ap (map g) made.2 ∙ each_is E g f ns made.0 (subst (AllZip (λ n x. IfOk x (λ y. g y ≡ f n)) ns) made.1 each)

-- the rows keep what the pattern promises
range_increasing : (n : ℕ) → IsStrictlyIncreasing (range_with_len 0 n)
range_increasing n k h =
    let len = length-range_with_len 0 n in
    let low : k < n = omega (arith, h, len) in
    let high : k + 1 < n = omega (arith, h, len) in
    let a = get_or-range_with_len 0 n k 0 low in
    let b = get_or-range_with_len 0 n (k + 1) 0 high in
    omega (arith, a, b)

pub row_rising : (size : ℕ) (lists : List (List ℕ)) (i : ℕ) → IsStrictlyIncreasing (row_of size lists i)
unfolding row_of
row_rising size lists i = IsStrictlyIncreasing-filter (is_coupled lists i) (range_with_len 0 size) (range_increasing size)

pub rows_rising : (couplings : CoupledDofs) → All IsStrictlyIncreasing (rows_of couplings)
unfolding rows_of
rows_rising couplings = All-map IsStrictlyIncreasing (row_of couplings.size couplings.lists) (range_with_len 0 couplings.size) (λ k d lt. row_rising couplings.size couplings.lists _)

pub rows_count : (couplings : CoupledDofs) → length (rows_of couplings) ≡ couplings.size
unfolding rows_of
rows_count couplings = length-map-range_with_len (row_of couplings.size couplings.lists) 0 couplings.size

-- the numbers of all lists after a list more
pub total_more : (rows : List (List ℕ)) (row : List ℕ) → length (concat (rows ++ row ∷ [])) ≡ length (concat rows) + length row
total_more [] row = length-append row [] ∙ omega arith
total_more (x ∷ xs) row = length-append x (concat (xs ++ row ∷ [])) ∙ omega (arith, total_more xs row, length-append x (concat xs))

-- places
rises : (xs : List ℕ) → IsStrictlyIncreasing xs → (i j : ℕ) → i ≤ j → j < length xs → slice_index_or xs i 0 ≤ slice_index_or xs j 0
rises xs h i j low high = ⊎_elim
    (λ (less : i < j). omega (arith, AllPairs-from_increasing xs h i j 0 less high))
    (λ (more : j ≤ i). let e : i ≡ j = omega (arith, low, more) in omega (arith, ap (λ n. slice_index_or xs n 0) e))
    (cases_lt i j)

not_at : (x j : ℕ) → (x < j) ⊎ (j < x) → (x == j) ≡ false
not_at x j (inl h) = grind (arith, h)
not_at x j (inr h) = grind (arith, h)

none_at : (xs : List ℕ) (j : ℕ) → ((k : ℕ) → k < length xs → (slice_index_or xs k 0 == j) ≡ false) → has xs j ≡ false
unfolding has
none_at xs j h = list_any_none (λ x. x == j) xs (All-from_get_or (λ x. (x == j) ≡ false) xs 0 h)

pub placed : (xs : List ℕ) (j : ℕ) (r : Result ℕ ℕ) (o : Option ℕ) → IsStrictlyIncreasing xs → IsBinarySearchResult (λ y. nat_cmp y j) xs r → o ≡ result_ok r →
    MatchOption o (has xs j ≡ false) (λ p. (p < length xs) × (slice_index_or xs p 0 ≡ j))
placed xs j (Ok p) o h found e = rw e (searched xs j (Ok p) found (rises xs h))
placed xs j (Err p) o h found e =
    let parts = searched xs j (Err p) found (rises xs h) in
    rw e (none_at xs j (λ k lt. ⊎_elim (λ (low : k < p). not_at (slice_index_or xs k 0) j (inl (parts.1 k low))) (λ (high : p ≤ k). not_at (slice_index_or xs k 0) j (inr (parts.2 k high lt))) (cases_lt k p)))

range_below : (n : ℕ) → All (λ j. j < n) (range_with_len 0 n)
range_below n k d inside =
    let low : k < n = omega (arith, inside, length-range_with_len 0 n) in
    let at = get_or-range_with_len 0 n k d low in omega (arith, at, low)

row_within : (size : ℕ) (lists : List (List ℕ)) (i : ℕ) → All (λ j. j < size) (row_of size lists i)
unfolding row_of
row_within size lists i = All-filter (is_coupled lists i) (λ j. j < size) (range_with_len 0 size) (range_below size)

rows_within : (couplings : CoupledDofs) → All (All (λ j. j < couplings.size)) (rows_of couplings)
unfolding rows_of
rows_within couplings = All-map (All (λ j. j < couplings.size)) (row_of couplings.size couplings.lists) (range_with_len 0 couplings.size) (λ k d lt. row_within couplings.size couplings.lists _)

no_test : (above : Bool) → IsTrue above → above ≡ false → ⊥
no_test above h e = grind (arith, h, e)

-- what a test that there are more pairs than the limit says where it fails
pub not_above : (above : Bool) (pairs : ℕ) → (IsTrue above ↔ (33554432 < pairs)) → above ≡ false → pairs ≤ 33554432
not_above above pairs h e = ⊎_elim (λ (more : 33554432 < pairs). absurd (no_test above (h.1 more) e)) (λ (few : pairs ≤ 33554432). few) (cases_lt 33554432 pairs)

-- what the finished pattern keeps
pub pattern_keeps : (couplings : CoupledDofs) (rows : List (List ℕ)) → rows ≡ rows_of couplings → couplings.size < 2 ^ 32 → pairs_of couplings ≤ 33554432 → IsPattern rows
pattern_keeps couplings rows e fits few =
    let count = rows_count couplings in
    let P : ℕ → Type 0 = λ n. All (All (λ j. j < n)) (rows_of couplings) in
    let kept : IsPattern (rows_of couplings) = record {
      rising = rows_rising couplings;
      square = subst P (sym count) (rows_within couplings);
      few = few;
      size = omega (arith, fits, count);
    } in
    subst IsPattern (sym e) kept
