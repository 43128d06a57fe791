-- Colour after colour.
use Rattle.std.proofs.Common.{◌≡◌, ◌≢◌, ◌∙◌, sym, ap, subst, refl, ℕ, zero, suc, ◌+◌, ◌-◌, ◌<◌, ◌≤◌, ◌==◌, Bool, true, false, ℤ, pos, inl, inr, List, [], ◌∷◌, ◌++◌, length, map, get_or, take, drop, arith}
use Rattle.std.specs.Prelude.{not, ◌&&◌, slice_index, slice_index_or}
use Rattle.std.specs.Int.{w128, int_wrap}
use Rattle.std.specs.List.{All, AllPairs, Contains, list_any, range_with_len}
use Rattle.std.proofs.lemmas.Bool.{cases_lt, eq-eqb, eqb-true, ne_eqb}
use Rattle.std.proofs.lemmas.List.{get_or_default, take_all}
use Rattle.std.proofs.lemmas.List.Elements.{All-filter, filter_passes}
use Rattle.std.proofs.lemmas.List.Folds.{list_any_at}
use Rattle.std.proofs.lemmas.List.FromFn.{length-range_with_len, get_or-range_with_len}
use Rattle.std.proofs.lemmas.List.Kept.{AllPairs-filter}
use Rattle.conflict_coloring.specs.Conflict.{conflict, rows_of, has, share}
use Rattle.conflict_coloring.specs.Coloring.{Coloring, IsColoring, color_count}
use Rattle.conflict_coloring.specs.Colours.{coloured}
use Rattle.conflict_coloring.specs.Cut.{part}
use Rattle.hanging_refine.specs.Refined.{RefinedMesh}
use Rattle.dof_numbers.specs.Dofs.{Numbering}
use Rattle.lumped_mass.specs.Masses.{total, cell_mass, mass_of, masses}
use Rattle.lumped_mass.specs.Rows.{AreApart}
use Rattle.lumped_mass.specs.Sums.{sums_of}
use Rattle.lumped_mass.proofs.Members.{range_pairs}
use Rattle.lumped_mass.proofs.Totals.{total_order}
use Rattle.lumped_mass.proofs.Pipeline.{map_map, wrapped_same, zero_fits}

true_is_false : true ≡ false → ⊥
true_is_false e = cc

right_false : (x y : Bool) → x ≡ false → (not x && y) ≡ false → y ≡ false
right_false true y e h = cc
right_false false y e h = h

-- lists that share no number
unshared : (xs ys : List ℕ) (n : ℕ) → share xs ys ≡ false → Contains xs n → Contains ys n → ⊥
unshared xs ys n off (i, low, at) (j, here, there) =
    let on : has ys (get_or xs i n) ≡ true = list_any_at (λ y. y == get_or xs i n) ys j n here (eq-eqb (get_or ys j n) (get_or xs i n) (there ∙ sym at)) in
    true_is_false (sym (list_any_at (has ys) xs i n low on) ∙ off)

apart_cells : (cells : List (List ℕ)) (a b n : ℕ) → a ≢ b → conflict cells a b ≡ false → Contains (rows_of cells a) n → Contains (rows_of cells b) n → ⊥
unfolding conflict
apart_cells cells a b n other off = unshared (rows_of cells a) (rows_of cells b) n (right_false (a == b) (share (rows_of cells a) (rows_of cells b)) (ne_eqb a b other) off)

range_below : (n : ℕ) → All (λ x. x < n) (range_with_len 0 n)
range_below n k d inside =
    let low : k < n = omega (arith, inside, length-range_with_len 0 n) in
    omega (arith, low, get_or-range_with_len 0 n k d low)

-- the cells of a colour
module _ (rows : List (List ℕ)) (c : Coloring) (k : ℕ) (is : IsColoring rows c) where
  pub color_below : All (λ cell. cell < length rows) (coloured c.colors k)
  color_below i d h =
      let low = All-filter (λ e. slice_index c.colors e == k) (λ e. e < length c.colors) (range_with_len 0 (length c.colors)) (range_below (length c.colors)) i d h in
      omega (arith, low, is.colours.one_each)

  one_color : All (λ cell. (slice_index c.colors cell == k) ≡ true) (coloured c.colors k)
  one_color = filter_passes (λ e. slice_index c.colors e == k) (range_with_len 0 (length c.colors))

  rising : AllPairs (λ x y. x < y) (coloured c.colors k)
  rising = AllPairs-filter (λ x y. x < y) (λ e. slice_index c.colors e == k) (range_with_len 0 (length c.colors)) (range_pairs (length c.colors))

  not_two : (i j n : ℕ) → i < j → j < length (coloured c.colors k) → Contains (rows_of rows (slice_index (coloured c.colors k) i)) n → Contains (rows_of rows (slice_index (coloured c.colors k) j)) n → ⊥
  not_two i j n lt here a b =
      let low : i < length (coloured c.colors k) = omega (arith, lt, here) in
      let less = rising i j 0 lt here in
      apart_cells rows (slice_index (coloured c.colors k) i) (slice_index (coloured c.colors k) j) n (λ e. omega (arith, e, less))
      (is.apart (slice_index (coloured c.colors k) i) (slice_index (coloured c.colors k) j) (color_below i 0 low) (color_below j 0 here)
      (eqb-true (slice_index c.colors (slice_index (coloured c.colors k) i)) k (one_color i 0 low) ∙ sym (eqb-true (slice_index c.colors (slice_index (coloured c.colors k) j)) k (one_color j 0 here))))
      a b

  pub color_apart : AreApart rows (coloured c.colors k)
  color_apart i j n low here a b = elim (cases_lt i j) [
    | inl lt ↦ absurd (not_two i j n lt here a b)
    | inr ge ↦ elim (cases_lt j i) [
      | inl lt ↦ absurd (not_two j i n lt low b a)
      | inr le ↦ omega (arith, ge, le)
    ]
  ]

-- the same of cells that are those of colour k
pub cells_there : (rows : List (List ℕ)) (c : Coloring) (k count : ℕ) (cells : List ℕ) → IsColoring rows c → cells ≡ coloured c.colors k → length rows ≡ count → All (λ cell. cell < count) cells
cells_there rows c k count cells is are as_many =
    let P : List ℕ → Type 0 = All (λ cell. cell < count) in
    let Q : ℕ → Type 0 = λ n. All (λ cell. cell < n) (coloured c.colors k) in
    subst P (sym are) (subst Q as_many (color_below rows c k is))

pub cells_apart : (rows : List (List ℕ)) (c : Coloring) (k : ℕ) (cells : List ℕ) → IsColoring rows c → cells ≡ coloured c.colors k → AreApart rows cells
cells_apart rows c k cells is are = let P : List ℕ → Type 0 = AreApart rows in subst P (sym are) (color_apart rows c k is)

-- before the first colour
abbrev pub all_with : ℤ → ℕ → ℕ × ℤ
all_with x dof = (dof, x)

pub none_before : (forest : RefinedMesh) (dofs : Numbering) (order : List ℕ) (start : ℕ) → start ≡ 0 → map (all_with (pos 0)) (range_with_len 0 dofs.size) ≡ sums_of forest dofs (take start order)
unfolding sums_of mass_of
none_before forest dofs order start first =
    let P : ℕ → Type 0 = λ n. map (all_with (pos 0)) (range_with_len 0 dofs.size) ≡ map (λ dof. all_with (int_wrap w128 (total (map (cell_mass forest dofs dof) (take n order)))) dof) (range_with_len 0 dofs.size) in
    subst P (sym first) (ap (λ (x : ℤ). map (all_with x) (range_with_len 0 dofs.size)) zero_fits)

-- the cells of one colour more
take_nil : (n : ℕ) → take {A = ℕ} n [] ≡ []
take_nil zero = refl
take_nil (suc n) = refl

take_part : (xs : List ℕ) (a n m : ℕ) → a + n ≡ m → take a xs ++ take n (drop a xs) ≡ take m xs
take_part xs zero n m e = let same : n ≡ m = omega (arith, e) in ap (λ k. take k xs) same
take_part [] (suc a) n m e = take_nil n ∙ sym (take_nil m)
take_part (x ∷ xs) (suc a) n zero e = absurd (omega (arith, e))
take_part (x ∷ xs) (suc a) n (suc m) e = ap (λ ys. x ∷ ys) (take_part xs a n m (omega (arith, e)))

pub parts_join : (order : List ℕ) (a b : ℕ) → a ≤ b → take a order ++ part order a b ≡ take b order
parts_join order a b h = take_part order a (b - a) b (omega (arith, h))

-- behind the last
module _ (forest : RefinedMesh) (dofs : Numbering) (rows : List (List ℕ)) (c : Coloring) (is : IsColoring rows c) (count : length rows ≡ length forest.cells) where
  any_order : (dof : ℕ) → mass_of forest dofs c.order dof ≡ mass_of forest dofs (range_with_len 0 (length forest.cells)) dof
  unfolding mass_of
  any_order dof =
      total_order (cell_mass forest dofs dof) (length rows) c.order is.once.within is.once.each is.once.once ∙ ap (λ n. total (map (cell_mass forest dofs dof) (range_with_len 0 n))) count

  pub whole : (end : ℕ) → end ≡ length c.order → map (λ entry. entry.1) (sums_of forest dofs (take end c.order)) ≡ map (int_wrap w128) (masses forest dofs)
  unfolding sums_of masses
  whole end last =
      ap (λ cells. map (λ (entry : ℕ × ℤ). entry.1) (sums_of forest dofs cells)) (take_all end c.order (omega (arith, last)))
      ∙ map_map (λ (entry : ℕ × ℤ). entry.1) (λ dof. (dof, int_wrap w128 (mass_of forest dofs c.order dof))) (range_with_len 0 dofs.size)
      ∙ wrapped_same (mass_of forest dofs c.order) (mass_of forest dofs (range_with_len 0 (length forest.cells))) dofs.size (λ k low. any_order k)
      ∙ sym (map_map (int_wrap w128) (mass_of forest dofs (range_with_len 0 (length forest.cells))) (range_with_len 0 dofs.size))
