-- Marks of numbered rows.
use Rattle.std.proofs.Common.{◌≡◌, ◌∙◌, sym, ap, ℕ, zero, suc, ◌<◌, ◌≤◌, inl, inr, List, [], ◌∷◌, length, map, arith, slice_index_or, None, Some}
use Rattle.std.proofs.lemmas.Bool.{cases_lt}
use Rattle.std.proofs.lemmas.List.{get_or_past, length-map}
use Rattle.sparsity.specs.Rows.{rows_in}
use Rattle.sparsity.specs.declared.rows.Row.{Row}
use Rattle.sparsity.specs.declared.rows.Mark.{Mark}
use Rattle.serial_sum.specs.Rows.{row_at, no_row, AreUnmarked}

row_there : (numbered : List (ℕ × Row)) (k : ℕ) (e : ℕ × Row) → k < length numbered → e ≡ slice_index_or numbered k e → row_at (map (λ (x : ℕ × Row). x.1) numbered) k ≡ e.1
row_there [] k e h is = absurd (omega (arith, h))
row_there (x ∷ xs) zero e h is = ap (λ (y : ℕ × Row). y.1) (sym is)
row_there (x ∷ xs) (suc k) e h is = row_there xs k e (omega (arith, h)) is

pub held_there : (numbered : List (ℕ × Row)) (rows : List Row) (k : ℕ) (e : ℕ × Row) → rows_in numbered ≡ rows → k < length numbered → e ≡ slice_index_or numbered k e → row_at rows k ≡ e.1
unfolding rows_in
held_there numbered rows k e is h at = ap (λ (l : List Row). row_at l k) (sym is) ∙ row_there numbered k e h at

pub held_count : (numbered : List (ℕ × Row)) (rows : List Row) → rows_in numbered ≡ rows → length rows ≡ length numbered
unfolding rows_in
held_count numbered rows is = ap length (sym is) ∙ length-map numbered (λ (x : ℕ × Row). x.1)

-- the first n rows have no mark
abbrev pub ClearBelow : List Row → ℕ → Type 0
ClearBelow rows n = (k : ℕ) → k < n → (row_at rows k).mark ≡ None

pub all_clear : (rows : List Row) (n : ℕ) → length rows ≤ n → ClearBelow rows n → AreUnmarked rows
all_clear rows n all clear i = elim (cases_lt i n) [
  | inl lt ↦ clear i lt
  | inr ge ↦ ap (λ (r : Row). r.mark) (get_or_past rows i no_row (omega (arith, all, ge)))
]

pub one_clear : (rows : List Row) (n next : ℕ) (row : Row) → next ≡ suc n → ClearBelow rows n → row_at rows n ≡ row → row.mark ≡ None → ClearBelow rows next
one_clear rows n next row is clear at none k h = elim (cases_lt k n) [
  | inl lt ↦ clear k lt
  | inr ge ↦ (let same : k ≡ n = omega (arith, is, h, ge) in ap (λ (j : ℕ). (row_at rows j).mark) same ∙ ap (λ (r : Row). r.mark) at ∙ none)
]

pub is_marked : (rows : List Row) (k : ℕ) (row : Row) (mark : Mark) → row_at rows k ≡ row → row.mark ≡ Some mark → AreUnmarked rows → ⊥
is_marked rows k row mark at some clear = no mark (sym some ∙ ap (λ (r : Row). r.mark) (sym at) ∙ clear k)
  where
    no : (m : Mark) → Some m ≡ None → ⊥
    no m e = cc
