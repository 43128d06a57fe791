-- The ten entries of a cell's matrix on and above its diagonal, by rows, and what a point adds to them.
use Rattle.std.specs.Prelude.{ℕ, ◌^◌, ◌≤◌, ◌<◌, List, [], ◌∷◌, map, ℤ, unsigned_abs}
use Rattle.fixed_q1.specs.declared.evaluation.Evaluation.{Evaluation}
use Rattle.fixed_q1.specs.CellForm.{total}
use Rattle.fixed_q1.specs.Evaluation.{number_at, kept_diffusion}

abbrev pub ten_parts : ℤ → Evaluation → List ℤ
ten_parts diffusion e =
    kept_diffusion diffusion 0 0 e ∷ kept_diffusion diffusion 0 1 e ∷ kept_diffusion diffusion 0 2 e ∷ kept_diffusion diffusion 0 3 e
    ∷ kept_diffusion diffusion 1 1 e ∷ kept_diffusion diffusion 1 2 e ∷ kept_diffusion diffusion 1 3 e
    ∷ kept_diffusion diffusion 2 2 e ∷ kept_diffusion diffusion 2 3 e ∷ kept_diffusion diffusion 3 3 e ∷ []

abbrev pub entry_at : List Evaluation → ℤ → ℕ → ℕ → ℤ
entry_at evaluations diffusion i j = total (map (kept_diffusion diffusion i j) evaluations)

abbrev pub ten_entries : List Evaluation → ℤ → List ℤ
ten_entries es diffusion =
    entry_at es diffusion 0 0 ∷ entry_at es diffusion 0 1 ∷ entry_at es diffusion 0 2 ∷ entry_at es diffusion 0 3
    ∷ entry_at es diffusion 1 1 ∷ entry_at es diffusion 1 2 ∷ entry_at es diffusion 1 3
    ∷ entry_at es diffusion 2 2 ∷ entry_at es diffusion 2 3 ∷ entry_at es diffusion 3 3 ∷ []

-- ten numbers whose sums of four fit 64 bits
abbrev pub AreSmall : List ℤ → Type 0
AreSmall numbers = (k : ℕ) → k < 10 → unsigned_abs (number_at numbers k) ≤ 2 ^ 51
