-- How the refinement steps are held.
use Rattle.std.specs.Prelude.{ℕ, List, map, Vec}

-- the lists of cell numbers
abbrev pub steps_in : {A : Type 0} → List (Vec ℕ A) → List (List ℕ)
steps_in {A = A} steps = map (λ (cells : Vec ℕ A). cells.items) steps
