-- Ranks in place of rows: which cells conflict stays.
use Rattle.std.proofs.Common.{◌≡◌, inl, inr, ℕ, ◌+◌, ◌<◌, ◌≤◌, List, [], ◌∷◌, ◌++◌, length, Bool, true, cond, ◌||◌, ◌&&◌, ◌==◌, take, map, zero, suc, refl, sym, ◌∙◌, ap, arith, slice_index}
use Rattle.std.specs.Prelude.{not, nat_lt, filter}
use Rattle.std.specs.List.{list_any}
use Rattle.std.specs.List.Sorted.{IsPermutation}
use Rattle.std.proofs.lemmas.Bool.{cases_lt, cases_order, lt-ltb, le-ltb, eq-eqb, eqb-true, or_cases, or_left, or_right, ne_eqb}
use Rattle.std.proofs.lemmas.List.{take_more, map-append, length-map}
use Rattle.std.proofs.lemmas.List.Sorted.{list_any-IsPermutation}
use Rattle.std.proofs.Math.ListN.{get_or-map}
use Rattle.conflict_coloring.specs.Conflict.{rows_of, has, share, conflict}
use Rattle.conflict_coloring.specs.Ranks.{entries_of, rank_in, ranked_by}
use Rattle.conflict_coloring.proofs.Picks.{any_map}
use Rattle.conflict_coloring.proofs.RowTables.{is_entry}

-- ---- loops

pub ranks_more : (numbers rows : List ℕ) (i : ℕ) → i < length rows → map (rank_in numbers) (take (i + 1) rows) ≡ map (rank_in numbers) (take i rows) ++ rank_in numbers (slice_index rows i) ∷ []
ranks_more numbers rows i lt = ap (map (rank_in numbers)) (take_more rows i 0 lt) ∙ map-append (rank_in numbers) (take i rows) (slice_index rows i ∷ [])

pub ranked_more : (numbers : List ℕ) (cells : List (List ℕ)) (i : ℕ) → i < length cells → ranked_by numbers (take (i + 1) cells) ≡ ranked_by numbers (take i cells) ++ map (rank_in numbers) (rows_of cells i) ∷ []
ranked_more numbers cells i lt = ap (ranked_by numbers) (take_more cells i [] lt) ∙ map-append (map (rank_in numbers)) (take i cells) (rows_of cells i ∷ [])

rank_yes : (e : ℕ) (xs : List ℕ) (x : ℕ) → e < x → rank_in (e ∷ xs) x ≡ 1 + rank_in xs x
rank_yes e xs x lt =
    let h : filter (λ n. nat_lt n x) (e ∷ xs) ≡ e ∷ filter (λ n. nat_lt n x) xs = ap (λ b. cond b (e ∷ filter (λ n. nat_lt n x) xs) (filter (λ n. nat_lt n x) xs)) (lt-ltb e x lt) in
    let l = ap length h in
    omega arith

rank_no : (e : ℕ) (xs : List ℕ) (x : ℕ) → x ≤ e → rank_in (e ∷ xs) x ≡ rank_in xs x
rank_no e xs x le = ap (λ b. length (cond b (e ∷ filter (λ n. nat_lt n x) xs) (filter (λ n. nat_lt n x) xs))) (le-ltb e x le)

-- how many of some rising numbers are below a row
pub count_split : (row : ℕ) (xs : List ℕ) (i : ℕ) → i ≤ length xs → ((k : ℕ) → k < i → slice_index xs k < row) → ((k : ℕ) → i ≤ k → k < length xs → row ≤ slice_index xs k) → rank_in xs row ≡ i
count_split row [] zero le low high = refl
count_split row [] (suc i) le low high = absurd (omega arith)
count_split row (x ∷ xs) zero le low high =
    rank_no x xs row (high 0 (omega arith) (omega arith)) ∙ count_split row xs zero (omega arith) (λ k lt. absurd (omega arith)) (λ k _ lt. high (suc k) (omega arith) (omega arith))
count_split row (x ∷ xs) (suc i) le low high =
    let here = rank_yes x xs row (low 0 (omega arith)) in
    let rest = count_split row xs i (omega arith) (λ k lt. low (suc k) (omega arith)) (λ k ge lt. high (suc k) (omega arith) (omega arith)) in
    omega arith

-- ---- ranks tell rows apart

rank_below : (xs : List ℕ) (x y : ℕ) → x ≤ y → rank_in xs x ≤ rank_in xs y
rank_below [] x y le = omega arith
rank_below (e ∷ xs) x y le =
    let rest = rank_below xs x y le in
    elim (cases_lt e x) [
      | inl lt ↦ (let a = rank_yes e xs x lt in
          let b = rank_yes e xs y (omega arith) in
          omega arith)
      | inr ge ↦ (let a = rank_no e xs x ge in
          elim (cases_lt e y) [
            | inl lt ↦ (let b = rank_yes e xs y lt in omega arith)
            | inr past ↦ (let b = rank_no e xs y past in omega arith)
          ])
    ]

rank_less : (xs : List ℕ) (x y : ℕ) → has xs x ≡ true → x < y → rank_in xs x < rank_in xs y
rank_less [] x y h lt = absurd (cc)
rank_less (e ∷ xs) x y h lt = elim (or_cases (e == x) (has xs x) h) [
  | inl here ↦ (let same : e ≡ x = eqb-true e x here in
      let a = rank_no e xs x (omega arith) in
      let b = rank_yes e xs y (omega arith) in
      let rest = rank_below xs x y (omega arith) in
      omega arith)
  | inr there ↦ (let rest = rank_less xs x y there lt in
      elim (cases_lt e x) [
        | inl low ↦ (let a = rank_yes e xs x low in
            let b = rank_yes e xs y (omega arith) in
            omega arith)
        | inr ge ↦ (let a = rank_no e xs x ge in
            elim (cases_lt e y) [
              | inl mid ↦ (let b = rank_yes e xs y mid in omega arith)
              | inr past ↦ (let b = rank_no e xs y past in omega arith)
            ])
      ])
]

same_rank : (xs : List ℕ) (x y : ℕ) → has xs x ≡ true → has xs y ≡ true → (rank_in xs y == rank_in xs x) ≡ (y == x)
same_rank xs x y in_x in_y = elim (cases_order x y) [
  | inl e ↦ eq-eqb (rank_in xs y) (rank_in xs x) (ap (rank_in xs) (sym e)) ∙ sym (eq-eqb y x (sym e))
  | inr o ↦ elim o [
    | inl lt ↦ (let less = rank_less xs x y in_x lt in ne_eqb (rank_in xs y) (rank_in xs x) (λ e. omega arith) ∙ sym (ne_eqb y x (λ e. omega arith)))
    | inr gt ↦ (let less = rank_less xs y x in_y gt in ne_eqb (rank_in xs y) (rank_in xs x) (λ e. omega arith) ∙ sym (ne_eqb y x (λ e. omega arith)))
  ]
]

-- tests that agree on the elements of a list
agree_on : (p q : ℕ → Bool) (xs : List ℕ) → ((x : ℕ) → has xs x ≡ true → p x ≡ q x) → list_any p xs ≡ list_any q xs
agree_on p q [] h = refl
agree_on p q (x ∷ xs) h =
    let here = h x (or_left (x == x) (has xs x) (eq-eqb x x refl)) in
    let rest = agree_on p q xs (λ y m. h y (or_right (x == y) (has xs y) m)) in
    ap (λ b. b || list_any p xs) here ∙ ap (λ b. q x || b) rest

has_rank : (numbers ys : List ℕ) (x : ℕ) → has numbers x ≡ true → ((y : ℕ) → has ys y ≡ true → has numbers y ≡ true) → has (map (rank_in numbers) ys) (rank_in numbers x) ≡ has ys x
has_rank numbers ys x in_x in_ys =
    any_map (rank_in numbers) (λ r. r == rank_in numbers x) ys ∙ agree_on (λ y. rank_in numbers y == rank_in numbers x) (λ y. y == x) ys (λ y m. same_rank numbers x y in_x (in_ys y m))

share_rank : (numbers xs ys : List ℕ) → ((x : ℕ) → has xs x ≡ true → has numbers x ≡ true) → ((y : ℕ) → has ys y ≡ true → has numbers y ≡ true) → share (map (rank_in numbers) xs) (map (rank_in numbers) ys) ≡ share xs ys
share_rank numbers xs ys in_xs in_ys =
    any_map (rank_in numbers) (has (map (rank_in numbers) ys)) xs ∙ agree_on (λ x. has (map (rank_in numbers) ys) (rank_in numbers x)) (has ys) xs (λ x m. has_rank numbers ys x (in_xs x m) in_ys)

-- ranks among numbers that have all rows keep which cells conflict
pub ranked_conflict : (cells : List (List ℕ)) (numbers : List ℕ) (a b : ℕ) → IsPermutation (entries_of cells) numbers → conflict (ranked_by numbers cells) a b ≡ conflict cells a b
unfolding conflict
ranked_conflict cells numbers a b same =
    let member : (c r : ℕ) → has (rows_of cells c) r ≡ true → has numbers r ≡ true = λ c r h. sym (list_any-IsPermutation (λ y. y == r) (entries_of cells) numbers same) ∙ is_entry cells c r h in
    let left : rows_of (ranked_by numbers cells) a ≡ map (rank_in numbers) (rows_of cells a) = get_or-map (map (rank_in numbers)) cells a [] in
    let right : rows_of (ranked_by numbers cells) b ≡ map (rank_in numbers) (rows_of cells b) = get_or-map (map (rank_in numbers)) cells b [] in
    ap (λ xs. not (a == b) && share xs (rows_of (ranked_by numbers cells) b)) left ∙ ap (λ ys. not (a == b) && share (map (rank_in numbers) (rows_of cells a)) ys) right
    ∙ ap (λ s. not (a == b) && s) (share_rank numbers (rows_of cells a) (rows_of cells b) (member a) (member b))

pub length_ranked : (cells : List (List ℕ)) (numbers : List ℕ) → length (ranked_by numbers cells) ≡ length cells
length_ranked cells numbers = length-map cells (map (rank_in numbers))
