-- How many pairs there are at most.
use Rattle.std.proofs.Common.{◌≡◌, ◌≤◌, ◌<◌, ◌+◌, ◌*◌, inl, inr, ℕ, zero, suc, Bool, true, false, ◌||◌, ◌&&◌, ◌==◌, cond, List, [], ◌∷◌, length, map, refl, ap, ◌∙◌, arith}
use Rattle.std.specs.Prelude.{filter}
use Rattle.std.specs.List.{range_with_len, concat, sum_by}
use Rattle.std.proofs.Math.Nat.{mul-le-mul}
use Rattle.std.proofs.lemmas.Bool.{cases_Bool, eqb-true}
use Rattle.std.proofs.lemmas.List.{length-append}
use Rattle.std.proofs.lemmas.List.Sums.{sum_by-cons}
use Rattle.std.proofs.lemmas.List.FromFn.{length-range_with_len}
use Rattle.sparsity.specs.Coupled.{has, share_list, is_coupled, row_of, rows_of, pairs_of, squares_of}

-- what passes one of two tests
two_tests : (a b c : ℕ → Bool) (xs : List ℕ) → ((j : ℕ) → a j ≡ (b j || c j)) → length (filter a xs) ≤ length (filter b xs) + length (filter c xs)
two_tests a b c [] h = omega arith
two_tests a b c (x ∷ xs) h =
    let rest = two_tests a b c xs h in
    elim (cases_Bool (b x)) [
      | inl t ↦ (let at : a x ≡ true = h x ∙ ap (λ v. v || c x) t in
          elim (cases_Bool (c x)) [ inl u ↦ rw (at, t, u) (omega (arith, rest)) | inr u ↦ rw (at, t, u) (omega (arith, rest)) ])
      | inr t ↦ (let at : a x ≡ c x = h x ∙ ap (λ v. v || c x) t in
          elim (cases_Bool (c x)) [ inl u ↦ rw (at, t, u) (omega (arith, rest)) | inr u ↦ rw (at, t, u) (omega (arith, rest)) ])
    ]

none_pass : (p : ℕ → Bool) (xs : List ℕ) → ((j : ℕ) → p j ≡ false) → length (filter p xs) ≡ 0
none_pass p [] h = refl
none_pass p (x ∷ xs) h = rw (h x) (none_pass p xs h)

same_pass : (p q : ℕ → Bool) (xs : List ℕ) → ((j : ℕ) → p j ≡ q j) → filter p xs ≡ filter q xs
same_pass p q [] h = refl
same_pass p q (x ∷ xs) h = let at = h x in rw at (ap (λ ys. cond (q x) (x ∷ ys) ys) (same_pass p q xs h))

apart : (x a : ℕ) → x < a → (x == a) ≡ false
apart x a h = grind (arith, h)

below_range : (x a n : ℕ) → x < a → length (filter (λ j. x == j) (range_with_len a n)) ≡ 0
below_range x a zero h = refl
below_range x a (suc n) h = rw (apart x a h) (below_range x (a + 1) n (omega (arith, h)))

at_most_once : (x a n : ℕ) → length (filter (λ j. x == j) (range_with_len a n)) ≤ 1
at_most_once x a zero = omega arith
at_most_once x a (suc n) = elim (cases_Bool (x == a)) [
  | inl t ↦ rw t (omega (arith, below_range x (a + 1) n (omega (arith, eqb-true x a t))))
  | inr t ↦ rw t (at_most_once x (a + 1) n)
]

-- a list has no more different numbers than its length
few : (list : List ℕ) (n : ℕ) → length (filter (has list) (range_with_len 0 n)) ≤ length list
unfolding has
few [] n = omega (arith, none_pass (λ j. false) (range_with_len 0 n) (λ j. refl))
few (x ∷ xs) n =
    omega (arith, two_tests (has (x ∷ xs)) (λ j. x == j) (has xs) (range_with_len 0 n) (λ j. refl), at_most_once x 0 n, few xs n)

-- the columns of a row through one list
through : List ℕ → ℕ → ℕ → ℕ
through list size i = length (filter (λ j. has list i && has list j) (range_with_len 0 size))

through_at : (list : List ℕ) (size i : ℕ) → through list size i ≤ cond (has list i) (length list) 0
unfolding through
through_at list size i = elim (cases_Bool (has list i)) [
  | inl t ↦ rw t (few list size)
  | inr t ↦ rw t (omega (arith, none_pass (λ j. false) (range_with_len 0 size) (λ j. refl)))
]

sum_grows : (m l here rest : ℕ) → here ≤ l → rest ≤ m * l → here + rest ≤ suc m * l
sum_grows m l here rest a b = grind (arith, a, b)

through_all : (list : List ℕ) (size : ℕ) (ns : List ℕ) → sum_by (through list size) ns ≤ length (filter (has list) ns) * length list
through_all list size [] = omega arith
through_all list size (i ∷ ns) =
    let here = through_at list size i in
    let rest = through_all list size ns in
    rw (sum_by-cons (through list size) i ns) (elim (cases_Bool (has list i)) [
      | inl t ↦ (let one = rw t at here in rw t (sum_grows (length (filter (has list) ns)) (length list) (through list size i) (sum_by (through list size) ns) one rest))
      | inr t ↦ (let one = rw t at here in rw t (let all : through list size i + sum_by (through list size) ns ≤ length (filter (has list) ns) * length list = omega (arith, one, rest) in all))
    ])

regrouped : (a b c : Bool) → (a || (b || c)) ≡ ((a || c) || b)
regrouped a b c = grind arith

row_more_list : (size : ℕ) (list : List ℕ) (lists : List (List ℕ)) (i : ℕ) → length (row_of size (list ∷ lists) i) ≤ length (row_of size lists i) + through list size i
unfolding row_of through is_coupled
row_more_list size list lists i =
    two_tests (is_coupled (list ∷ lists) i) (is_coupled lists i) (λ j. has list i && has list j) (range_with_len 0 size) (λ j. regrouped (i == j) (has list i && has list j) (share_list lists i j))

rows_more_list : (size : ℕ) (list : List ℕ) (lists : List (List ℕ)) (ns : List ℕ) →
    length (concat (map (row_of size (list ∷ lists)) ns)) ≤ length (concat (map (row_of size lists) ns)) + sum_by (through list size) ns
rows_more_list size list lists [] = omega arith
rows_more_list size list lists (i ∷ ns) =
    let here = row_more_list size list lists i in
    let rest = rows_more_list size list lists ns in
    let a : length (concat (map (row_of size (list ∷ lists)) (i ∷ ns))) ≡ length (row_of size (list ∷ lists) i) + length (concat (map (row_of size (list ∷ lists)) ns)) =
    length-append (row_of size (list ∷ lists) i) (concat (map (row_of size (list ∷ lists)) ns)) in
    let b : length (concat (map (row_of size lists) (i ∷ ns))) ≡ length (row_of size lists i) + length (concat (map (row_of size lists) ns)) =
    length-append (row_of size lists i) (concat (map (row_of size lists) ns)) in
    let c : sum_by (through list size) (i ∷ ns) ≡ through list size i + sum_by (through list size) ns = sum_by-cons (through list size) i ns in
    omega (arith, here, rest, a, b, c)

alone : (size i : ℕ) → length (row_of size [] i) ≤ 1
unfolding row_of is_coupled
alone size i = rw (same_pass (λ j. (i == j) || false) (λ j. i == j) (range_with_len 0 size) (λ j. or_none (i == j))) (at_most_once i 0 size)
  where
    or_none : (b : Bool) → (b || false) ≡ b
    or_none b = grind arith

rows_alone : (size : ℕ) (ns : List ℕ) → length (concat (map (row_of size []) ns)) ≤ length ns
rows_alone size [] = omega arith
rows_alone size (i ∷ ns) =
    let both : length (concat (map (row_of size []) (i ∷ ns))) ≡ length (row_of size [] i) + length (concat (map (row_of size []) ns)) = length-append (row_of size [] i) (concat (map (row_of size []) ns)) in
    omega (arith, rows_alone size ns, alone size i, both)

rows_bound : (size : ℕ) (lists : List (List ℕ)) → length (concat (map (row_of size lists) (range_with_len 0 size))) ≤ size + squares_of lists
rows_bound size [] = omega (arith, rows_alone size (range_with_len 0 size), length-range_with_len 0 size)
rows_bound size (list ∷ lists) =
    let same : length list ≤ length list = omega arith in
    let square : length (filter (has list) (range_with_len 0 size)) * length list ≤ length list * length list = mul-le-mul (few list size) same in
    let total : squares_of (list ∷ lists) ≡ length list * length list + squares_of lists = sum_by-cons (λ (l : List ℕ). length l * length l) list lists in
    omega (arith, rows_bound size lists, rows_more_list size list lists (range_with_len 0 size), through_all list size (range_with_len 0 size), square, total)

pub pairs_bound : (size : ℕ) (lists : List (List ℕ)) → pairs_of (record { size = size; lists = lists }) ≤ size + squares_of lists
unfolding rows_of
pairs_bound size lists = rows_bound size lists

filter_most : (p : ℕ → Bool) (xs : List ℕ) → length (filter p xs) ≤ length xs
filter_most p [] = omega arith
filter_most p (x ∷ xs) = elim (cases_Bool (p x)) [
  | inl t ↦ rw t (omega (arith, filter_most p xs))
  | inr t ↦ rw t (omega (arith, filter_most p xs))
]

pub row_most : (size : ℕ) (lists : List (List ℕ)) (i : ℕ) → length (row_of size lists i) ≤ size
unfolding row_of
row_most size lists i = omega (arith, filter_most (is_coupled lists i) (range_with_len 0 size), length-range_with_len 0 size)
