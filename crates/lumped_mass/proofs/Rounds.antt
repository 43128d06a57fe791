-- A round of the cells of a colour adds what they give.
use Rattle.std.proofs.Common.{◌≡◌, ◌≢◌, ◌∙◌, sym, ap, subst, refl, ℕ, zero, suc, ◌+◌, ◌<◌, ◌≤◌, ◌^◌, ◌==◌, ℤ, pos, ◌+ℤ◌, cond, inl, inr, List, [], ◌∷◌, ◌++◌, length, map, get_or, arith}
use Rattle.std.specs.Prelude.{slice_index, slice_index_or}
use Rattle.std.specs.Int.{w128, int_wrap}
use Rattle.std.specs.List.{All, Contains, range_with_len}
use Rattle.std.proofs.lemmas.Bool.{cases_lt, ne_eqb}
use Rattle.std.proofs.lemmas.Int.{int_wrap-add_left}
use Rattle.std.proofs.lemmas.List.{get_or_default}
use Rattle.std.proofs.lemmas.List.FromFn.{fill_by_all, length-map-range_with_len, get_or-map-range_with_len}
use mathlib.Core.Option.{some}
use lib.ListN.{get_elem?}
use Rattle.hanging_refine.specs.Refined.{RefinedMesh}
use Rattle.dof_numbers.specs.Dofs.{Numbering}
use Rattle.colored_copier.specs.Plans.{In, Rise, row_number}
use Rattle.colored_copier.specs.Conditions.{Suits, Worked}
use Rattle.lumped_mass.specs.Masses.{total, sum_at, cell_mass, cell_dofs, cell_shares, mass_of}
use Rattle.lumped_mass.specs.Rows.{HaveFourEach, AreRising, AreApart}
use Rattle.lumped_mass.specs.Sums.{sums_of}
use Rattle.lumped_mass.proofs.Members.{within, there, read, in_contains, contains_in, in_or_not, rises, rises_pairs, range_pairs, in_range}
use Rattle.lumped_mass.proofs.Totals.{total_append_map, total_none, total_only, zero_right}
use Rattle.lumped_mass.proofs.Pipeline.{map_map}

-- a dof that no vertex has gets nothing
no_share : (dofs : List ℕ) (shares : List ℤ) (dof : ℕ) → ((v : ℕ) → v < 4 → slice_index dofs v ≢ dof) → sum_at dofs shares dof ≡ pos 0
unfolding sum_at
no_share dofs shares dof other =
    total_none (λ v. cond (slice_index dofs v == dof) (slice_index_or shares v (pos 0)) (pos 0)) (range_with_len 0 4) (λ k d inside.
    let at : get_or (range_with_len 0 4) k d ≡ k = number k d inside in
    let P : ℕ → Type 0 = λ v. cond (slice_index dofs v == dof) (slice_index_or shares v (pos 0)) (pos 0) ≡ pos 0 in
    subst P (sym at) (ap (λ b. cond b (slice_index_or shares k (pos 0)) (pos 0)) (ne_eqb (slice_index dofs k) dof (other k inside))))
  where
    number : (k d : ℕ) → k < 4 → get_or (range_with_len 0 4) k d ≡ k
    number k d inside = get_or-map-range_with_len (λ v. v) 0 4 k k d inside (omega arith)

-- some item names the row, or none does
data Naming (rows : ℕ → List ℕ) (m r : ℕ) : Type 0 where
  named_by : (n : ℕ) → n < m → In r (rows n) → Naming rows m r
  unnamed : ((n : ℕ) → n < m → In r (rows n) → ⊥) → Naming rows m r

naming : (rows : ℕ → List ℕ) (m r : ℕ) → Naming rows m r
naming rows zero r = unnamed (λ n lt h. absurd (omega (arith, lt)))
naming rows (suc m) r = elim (naming rows m r) [
  | named_by n lt h ↦ named_by n (omega (arith, lt)) h
  | unnamed none ↦ elim (in_or_not (rows m) r) [
    | inl h ↦ named_by m (omega arith) h
    | inr off ↦ unnamed (λ n lt h. elim (cases_lt n m) [
      | inl low ↦ none n low h
      | inr high ↦ (let e : n ≡ m = omega (arith, lt, high) in let P : ℕ → Type 0 = λ i. In r (rows i) in off (subst P e h))
    ])
  ]
]

-- the sums of so many cells, by dof
abbrev entry : RefinedMesh → Numbering → List ℕ → ℕ → ℕ × ℤ
entry forest dofs cells dof = (dof, int_wrap w128 (mass_of forest dofs cells dof))

pub sums_length : (forest : RefinedMesh) (dofs : Numbering) (cells : List ℕ) → length (sums_of forest dofs cells) ≡ dofs.size
unfolding sums_of
sums_length forest dofs cells = length-map-range_with_len (entry forest dofs cells) 0 dofs.size

sum_there : (forest : RefinedMesh) (dofs : Numbering) (cells : List ℕ) (k : ℕ) → k < dofs.size → get_elem? (sums_of forest dofs cells) k ≡ some (entry forest dofs cells k)
unfolding sums_of
sum_there forest dofs cells k low =
    there (map (entry forest dofs cells) (range_with_len 0 dofs.size)) k (0, pos 0) (omega (arith, low, length-map-range_with_len (entry forest dofs cells) 0 dofs.size))
    ∙ ap some (get_or-map-range_with_len (entry forest dofs cells) 0 dofs.size k k (0, pos 0) low (omega arith))

same_numbers : (xs : List ℕ) → map (λ x. x) xs ≡ xs
same_numbers [] = refl
same_numbers (x ∷ xs) = ap (λ ys. x ∷ ys) (same_numbers xs)

sum_numbers : (forest : RefinedMesh) (dofs : Numbering) (cells : List ℕ) → map row_number (sums_of forest dofs cells) ≡ range_with_len 0 dofs.size
unfolding sums_of
sum_numbers forest dofs cells = map_map row_number (entry forest dofs cells) (range_with_len 0 dofs.size) ∙ same_numbers (range_with_len 0 dofs.size)

module _ {J : Type 0} (count : J → ℕ) (rows_of : J → ℕ → List ℕ) (job : J) (forest : RefinedMesh) (dofs : Numbering) (rows : List (List ℕ)) (cells : List ℕ) (all : ℕ)
    (as_many : count job ≡ length cells) (rows_are : (n : ℕ) → rows_of job n ≡ slice_index_or rows (slice_index cells n) [])
    (inside : All (λ cell. cell < all) cells) (rising : AreRising dofs.cells rows all) (have : HaveFourEach all dofs) (apart : AreApart rows cells) where
  cell_there : (n : ℕ) → n < count job → slice_index cells n < all
  cell_there n lt = inside n 0 (omega (arith, lt, as_many))

  row_contains : (n r : ℕ) → In r (rows_of job n) → Contains (slice_index_or rows (slice_index cells n) []) r
  row_contains n r h = let P : List ℕ → Type 0 = In r in in_contains (slice_index_or rows (slice_index cells n) []) r (subst P (rows_are n) h)

  -- a dof of a cell's vertex is among its rows
  vertex_in : (n v : ℕ) → n < count job → v < 4 → In (slice_index (cell_dofs dofs (slice_index cells n)) v) (rows_of job n)
  vertex_in n v lt low =
      let P : List ℕ → Type 0 = In (slice_index (cell_dofs dofs (slice_index cells n)) v) in
      let cell : ℕ = slice_index cells n in
      let four : length (cell_dofs dofs cell) ≡ 4 = have.four cell [] (omega (arith, cell_there n lt, have.as_many)) in
      let at : Contains (cell_dofs dofs cell) (slice_index (cell_dofs dofs cell) v) = (v, omega (arith, low, four), get_or_default (cell_dofs dofs cell) v (slice_index (cell_dofs dofs cell) v) 0 (omega (arith, low, four))) in
      subst P (sym (rows_are n)) (contains_in (slice_index_or rows cell []) (slice_index (cell_dofs dofs cell) v) (((rising.each cell (cell_there n lt)).same (slice_index (cell_dofs dofs cell) v)).1 at))

  row_below : (n r : ℕ) → n < count job → In r (rows_of job n) → r < dofs.size
  row_below n r lt h = by_vertex (((rising.each (slice_index cells n) (cell_there n lt)).same r).0 (row_contains n r h))
    where
      by_vertex : Contains (cell_dofs dofs (slice_index cells n)) r → r < dofs.size
      by_vertex (v, low, at) =
          let cell : ℕ = slice_index cells n in
          let four : length (cell_dofs dofs cell) ≡ 4 = have.four cell [] (omega (arith, cell_there n lt, have.as_many)) in
          let P : ℕ → Type 0 = λ x. x < dofs.size in
          subst P (get_or_default (cell_dofs dofs cell) v 0 r low ∙ at) (have.below cell v (cell_there n lt) (omega (arith, low, four)))

  one_item : (m n r : ℕ) → m < count job → n < count job → In r (rows_of job m) → In r (rows_of job n) → m ≡ n
  one_item m n r lm ln a b = apart m n r (omega (arith, lm, as_many)) (omega (arith, ln, as_many)) (row_contains m r a) (row_contains n r b)

  -- an item gives nothing to a row that isn't its own
  nothing : (n r : ℕ) → n < count job → (In r (rows_of job n) → ⊥) → cell_mass forest dofs r (slice_index cells n) ≡ pos 0
  unfolding cell_mass
  nothing n r lt off =
      no_share (cell_dofs dofs (slice_index cells n)) (cell_shares forest (slice_index cells n)) r (λ v low e. let P : ℕ → Type 0 = λ x. In x (rows_of job n) in off (subst P e (vertex_in n v lt low)))

  -- the sum of what the items give to a row
  of_one : (n r : ℕ) → n < count job → In r (rows_of job n) → total (map (cell_mass forest dofs r) cells) ≡ cell_mass forest dofs r (slice_index cells n)
  of_one n r lt h =
      let here : n < length cells = omega (arith, lt, as_many) in
      let P : ℕ → Type 0 = λ c. cell_mass forest dofs r c ≡ pos 0 in
      total_only (cell_mass forest dofs r) cells n (slice_index cells n) here (get_or_default cells n 0 (slice_index cells n) here) (λ j d low other.
      let job_low : j < count job = omega (arith, low, as_many) in
      subst P (get_or_default cells j 0 d low) (nothing j r job_low (λ g. other (one_item j n r job_low lt g h))))

  of_none : (r : ℕ) → ((n : ℕ) → n < count job → In r (rows_of job n) → ⊥) → total (map (cell_mass forest dofs r) cells) ≡ pos 0
  of_none r off =
      let P : ℕ → Type 0 = λ c. cell_mass forest dofs r c ≡ pos 0 in
      total_none (cell_mass forest dofs r) cells (λ j d low. let job_low : j < count job = omega (arith, low, as_many) in subst P (get_or_default cells j 0 d low) (nothing j r job_low (off j job_low)))

  -- the rows suit the round
  pub suits : (fits : J → ℕ → ℤ → Type 0) (before : List ℕ) (sums : List (ℕ × ℤ)) → ((row : ℕ) (x : ℤ) → fits job row x) → length cells ≤ 2 ^ 32 → sums ≡ sums_of forest dofs before → Suits count rows_of fits job sums
  suits fits before sums fit few are =
      let numbers : map row_number sums ≡ range_with_len 0 dofs.size = ap (λ l. map row_number l) are ∙ sum_numbers forest dofs before in
      record {
        few = omega (arith, as_many, few);
        rise = (let P : List ℕ → Type 0 = Rise in subst P (sym numbers) (rises_pairs (range_with_len 0 dofs.size) (range_pairs dofs.size)));
        items_rise = λ n lt. (let P : List ℕ → Type 0 = Rise in subst P (sym (rows_are n)) (rises (slice_index_or rows (slice_index cells n) []) (rising.each (slice_index cells n) (cell_there n lt)).rises));
        among = λ n r lt h. (let P : List ℕ → Type 0 = In r in subst P (sym numbers) (in_range dofs.size r (row_below n r lt h)));
        once = λ m n r lm ln a b. one_item m n r lm ln a b;
        fit = λ k r x e. fit r x;
      }

  module _ (row_step : J → ℤ → ℕ → ℕ → ℤ) (before : List ℕ) (old new : List (ℕ × ℤ))
      (steps_are : (x : ℤ) (n r : ℕ) → row_step job x n r ≡ int_wrap w128 (x +ℤ cell_mass forest dofs r (slice_index cells n)))
      (are : old ≡ sums_of forest dofs before) (worked : Worked count rows_of row_step job old new) where
    old_there : (k : ℕ) → k < dofs.size → get_elem? old k ≡ some (entry forest dofs before k)
    old_there k low = ap (λ (l : List (ℕ × ℤ)). get_elem? l k) are ∙ sum_there forest dofs before k low

    both : (r : ℕ) → mass_of forest dofs (before ++ cells) r ≡ mass_of forest dofs before r +ℤ total (map (cell_mass forest dofs r) cells)
    unfolding mass_of
    both r = total_append_map (cell_mass forest dofs r) before cells

    entry_is : (k : ℕ) → k < dofs.size → get_elem? new k ≡ some (entry forest dofs (before ++ cells) k)
    entry_is k low = elim (naming (rows_of job) (count job) k) [
      | named_by n lt h ↦ worked.named n k k (int_wrap w128 (mass_of forest dofs before k)) lt h (old_there k low)
          ∙ ap (λ (x : ℤ). some (k, x)) (steps_are (int_wrap w128 (mass_of forest dofs before k)) n k
          ∙ int_wrap-add_left w128 (mass_of forest dofs before k) (cell_mass forest dofs k (slice_index cells n))
          ∙ ap (int_wrap w128) (ap (λ s. mass_of forest dofs before k +ℤ s) (sym (of_one n k lt h)) ∙ sym (both k)))
      | unnamed off ↦ worked.others k k (int_wrap w128 (mass_of forest dofs before k)) (old_there k low) off
          ∙ ap (λ (x : ℤ). some (k, int_wrap w128 x)) (sym (zero_right (mass_of forest dofs before k)) ∙ ap (λ s. mass_of forest dofs before k +ℤ s) (sym (of_none k off)) ∙ sym (both k))
    ]

    new_length : length new ≡ dofs.size
    new_length = worked.as_many ∙ ap length are ∙ sums_length forest dofs before

    -- the sums of the cells before and those of the round
    pub added : new ≡ sums_of forest dofs (before ++ cells)
    unfolding sums_of
    added = fill_by_all (entry forest dofs (before ++ cells)) new dofs.size (0, pos 0) new_length (λ k low. read new k (0, pos 0) (entry forest dofs (before ++ cells) k) (entry_is k low))
