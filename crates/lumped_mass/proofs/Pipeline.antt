-- The sums of a pipeline: after cell after cell they are those of the cells so far.
use Rattle.std.proofs.Common.{◌≡◌, ◌≢◌, ◌∙◌, sym, ap, subst, refl, ℕ, zero, suc, ◌+◌, ◌<◌, ◌≤◌, ◌==◌, ℤ, pos, ◌+ℤ◌, cond, inl, inr, List, [], ◌∷◌, length, map, replicate, get_or, set, arith, lit<}
use Rattle.std.specs.Prelude.{slice_index, slice_index_or}
use Rattle.std.specs.Int.{w128, int_wrap}
use Rattle.std.specs.List.{range_with_len}
use Rattle.std.proofs.lemmas.Bool.{cases_eq, eq-eqb, ne_eqb}
use Rattle.std.proofs.lemmas.Int.{ints, int_wrap-add_left, int_wrap_fits, fits_signed_from_abs}
use Rattle.std.proofs.lemmas.List.{length-set, get_or-set_same, get_or-set_other, length-replicate, get_or-replicate}
use Rattle.std.proofs.lemmas.List.FromFn.{fill_by_all, length-map-range_with_len, get_or-map-range_with_len}
use Rattle.hanging_refine.specs.Refined.{RefinedMesh}
use Rattle.dof_numbers.specs.Dofs.{Numbering}
use Rattle.ordered_pipeline.specs.Fold.{fold}
use Rattle.lumped_mass.specs.Masses.{total, sum_at, cell_mass, cell_dofs, cell_shares, mass_of, masses}
use Rattle.lumped_mass.specs.Rows.{HaveFourEach}
use Rattle.lumped_mass.specs.Sums.{with_share, with_shares}
use Rattle.lumped_mass.proofs.Totals.{total_range_more, zero_right}

-- so many sums, modulo 2^128
abbrev wrapped : (ℕ → ℤ) → ℕ → List ℤ
wrapped f size = map (λ dof. int_wrap w128 (f dof)) (range_with_len 0 size)

wrapped_at : (f : ℕ → ℤ) (size k : ℕ) → k < size → get_or (wrapped f size) k (pos 0) ≡ int_wrap w128 (f k)
wrapped_at f size k h = get_or-map-range_with_len (λ dof. int_wrap w128 (f dof)) 0 size k k (pos 0) h (omega arith)

wrapped_length : (f : ℕ → ℤ) (size : ℕ) → length (wrapped f size) ≡ size
wrapped_length f size = length-map-range_with_len (λ dof. int_wrap w128 (f dof)) 0 size

-- equal sums
pub wrapped_same : (f g : ℕ → ℤ) (size : ℕ) → ((k : ℕ) → k < size → f k ≡ g k) → wrapped f size ≡ wrapped g size
wrapped_same f g size h =
    fill_by_all (λ dof. int_wrap w128 (g dof)) (wrapped f size) size (pos 0) (wrapped_length f size) (λ k low. wrapped_at f size k low ∙ ap (int_wrap w128) (h k low))

-- a share more
one_share : (f : ℕ → ℤ) (size dof : ℕ) (share : ℤ) → dof < size → with_share (wrapped f size) dof share ≡ wrapped (λ k. f k +ℤ cond (dof == k) share (pos 0)) size
one_share f size dof share low =
    fill_by_all (λ k. int_wrap w128 (f k +ℤ cond (dof == k) share (pos 0))) (with_share (wrapped f size) dof share) size (pos 0) (length-set (wrapped f size) dof value ∙ wrapped_length f size) (λ k inside. elim (cases_eq dof k) [
      | inl same ↦ at_dof k same
      | inr other ↦ elsewhere k inside other
    ])
  where
    value : ℤ
    value = int_wrap w128 (slice_index_or (wrapped f size) dof (pos 0) +ℤ share)

    value_is : value ≡ int_wrap w128 (f dof +ℤ share)
    value_is = ap (λ s. int_wrap w128 (s +ℤ share)) (wrapped_at f size dof low) ∙ int_wrap-add_left w128 (f dof) share

    at_dof : (k : ℕ) → dof ≡ k → get_or (set (wrapped f size) dof value) k (pos 0) ≡ int_wrap w128 (f k +ℤ cond (dof == k) share (pos 0))
    at_dof k same =
        let P : ℕ → Type 0 = λ k. get_or (set (wrapped f size) dof value) k (pos 0) ≡ int_wrap w128 (f k +ℤ cond (dof == k) share (pos 0)) in
        subst P same (get_or-set_same (wrapped f size) dof value (pos 0) (omega (arith, low, wrapped_length f size)) ∙ value_is ∙ ap (λ b. int_wrap w128 (f dof +ℤ cond b share (pos 0))) (sym (eq-eqb dof dof refl)))

    elsewhere : (k : ℕ) → k < size → (dof ≡ k → ⊥) → get_or (set (wrapped f size) dof value) k (pos 0) ≡ int_wrap w128 (f k +ℤ cond (dof == k) share (pos 0))
    elsewhere k inside other =
        get_or-set_other (wrapped f size) dof k value (pos 0) (λ e. other (sym e)) ∙ wrapped_at f size k inside ∙ ap (int_wrap w128) (sym (zero_right (f k)))
        ∙ ap (λ b. int_wrap w128 (f k +ℤ cond b share (pos 0))) (sym (ne_eqb dof k other))

grouped : (s a b c d : ℤ) → s +ℤ a +ℤ b +ℤ c +ℤ d ≡ s +ℤ (a +ℤ (b +ℤ (c +ℤ (d +ℤ pos 0))))
grouped s a b c d = omega (arith, ints)

-- the shares of all four vertices
four_shares : (f : ℕ → ℤ) (size : ℕ) (dofs : List ℕ) (shares : List ℤ) → ((v : ℕ) → v < 4 → slice_index dofs v < size) → with_shares dofs shares (wrapped f size) 4 ≡ wrapped (λ k. f k +ℤ sum_at dofs shares k) size
unfolding sum_at
four_shares f size dofs shares below =
    ap (λ s. with_share (with_share (with_share s (d 1) (x 1)) (d 2) (x 2)) (d 3) (x 3)) (one_share f size (d 0) (x 0) (below 0 (omega arith)))
    ∙ ap (λ s. with_share (with_share s (d 2) (x 2)) (d 3) (x 3)) (one_share f1 size (d 1) (x 1) (below 1 (omega arith)))
    ∙ ap (λ s. with_share s (d 3) (x 3)) (one_share f2 size (d 2) (x 2) (below 2 (omega arith)))
    ∙ one_share f3 size (d 3) (x 3) (below 3 (omega arith))
    ∙ wrapped_same (λ k. f3 k +ℤ cond (d 3 == k) (x 3) (pos 0)) (λ k. f k +ℤ sum_at dofs shares k) size (λ k low. grouped (f k) (cond (d 0 == k) (x 0) (pos 0)) (cond (d 1 == k) (x 1) (pos 0)) (cond (d 2 == k) (x 2) (pos 0)) (cond (d 3 == k) (x 3) (pos 0)))
  where
    d : ℕ → ℕ
    d v = slice_index dofs v

    x : ℕ → ℤ
    x v = slice_index_or shares v (pos 0)

    f1 : ℕ → ℤ
    f1 k = f k +ℤ cond (d 0 == k) (x 0) (pos 0)

    f2 : ℕ → ℤ
    f2 k = f1 k +ℤ cond (d 1 == k) (x 1) (pos 0)

    f3 : ℕ → ℤ
    f3 k = f2 k +ℤ cond (d 2 == k) (x 2) (pos 0)

pub map_map : {A B C : Type 0} (f : B → C) (g : A → B) (xs : List A) → map f (map g xs) ≡ map (λ x. f (g x)) xs
map_map f g [] = refl
map_map f g (x ∷ xs) = ap (λ ys. f (g x) ∷ ys) (map_map f g xs)

pub zero_fits : pos 0 ≡ int_wrap w128 (pos 0)
zero_fits = sym (int_wrap_fits w128 (pos 0) (fits_signed_from_abs w128 (pos 0) (lit< tt)))

-- the first n cells
first_cells : (forest : RefinedMesh) (dofs : Numbering) → ℕ → ℕ → ℤ
first_cells forest dofs n dof = mass_of forest dofs (range_with_len 0 n) dof

none_yet : (forest : RefinedMesh) (dofs : Numbering) → replicate dofs.size (pos 0) ≡ wrapped (first_cells forest dofs 0) dofs.size
unfolding first_cells mass_of
none_yet forest dofs =
    fill_by_all (λ dof. int_wrap w128 (pos 0)) (replicate dofs.size (pos 0)) dofs.size (pos 0) (length-replicate dofs.size (pos 0)) (λ k low. get_or-replicate dofs.size k (pos 0) (pos 0) low ∙ zero_fits)

one_more : (forest : RefinedMesh) (dofs : Numbering) (n dof : ℕ) → first_cells forest dofs n dof +ℤ sum_at (cell_dofs dofs n) (cell_shares forest n) dof ≡ first_cells forest dofs (suc n) dof
unfolding first_cells mass_of cell_mass
one_more forest dofs n dof =
    let next : n + 1 ≡ suc n = omega arith in sym (total_range_more (cell_mass forest dofs dof) n) ∙ ap (λ m. total (map (cell_mass forest dofs dof) (range_with_len 0 m))) next

module _ {J : Type 0} (step : J → List ℤ → ℕ → List ℤ) (job : J) (forest : RefinedMesh) (dofs : Numbering) (count : ℕ)
    (step_is : (sums : List ℤ) (cell : ℕ) → step job sums cell ≡ with_shares (cell_dofs dofs cell) (cell_shares forest cell) sums 4) (have : HaveFourEach count dofs) where
  so_far : (n : ℕ) → n ≤ count → fold step job (replicate dofs.size (pos 0)) n ≡ wrapped (first_cells forest dofs n) dofs.size
  so_far zero h = none_yet forest dofs
  so_far (suc n) h =
      step_is (fold step job (replicate dofs.size (pos 0)) n) n
      ∙ ap (λ s. with_shares (cell_dofs dofs n) (cell_shares forest n) s 4) (so_far n (omega (arith, h)))
      ∙ four_shares (first_cells forest dofs n) dofs.size (cell_dofs dofs n) (cell_shares forest n) (λ v low. have.below n v (omega (arith, h)) low)
      ∙ wrapped_same (λ dof. first_cells forest dofs n dof +ℤ sum_at (cell_dofs dofs n) (cell_shares forest n) dof) (first_cells forest dofs (suc n)) dofs.size (λ dof low. one_more forest dofs n dof)

  -- and after all of them
  pub all_cells : count ≡ length forest.cells → fold step job (replicate dofs.size (pos 0)) count ≡ map (int_wrap w128) (masses forest dofs)
  unfolding first_cells masses
  all_cells e =
      so_far count (omega arith) ∙ ap (λ n. wrapped (λ dof. mass_of forest dofs (range_with_len 0 n) dof) dofs.size) e
      ∙ sym (map_map (int_wrap w128) (mass_of forest dofs (range_with_len 0 (length forest.cells))) (range_with_len 0 dofs.size))

  -- from sums of zero
  pub finish : (start state : List ℤ) → count ≡ length forest.cells → start ≡ replicate dofs.size (pos 0) → state ≡ fold step job start count → state ≡ map (int_wrap w128) (masses forest dofs)
  finish start state e zeros is = is ∙ ap (λ s. fold step job s count) zeros ∙ all_cells e
