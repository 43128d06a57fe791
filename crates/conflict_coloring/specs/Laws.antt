-- Laws of the definitions.
use Rattle.std.specs.Prelude.{ℕ, ◌≡◌, List}
use Rattle.conflict_coloring.specs.Coloring.{Coloring, IsColoring}

-- cells have one colouring at most
abbrev pub HaveOneColoring : Type 0
HaveOneColoring = (cells : List (List ℕ)) (a b : Coloring) → IsColoring cells a → IsColoring cells b → a ≡ b

-- cells have a colouring
abbrev pub HaveAColoring : Type 0
HaveAColoring = (cells : List (List ℕ)) → (coloring : Coloring) × IsColoring cells coloring
