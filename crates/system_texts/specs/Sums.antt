-- The sums of a system, in the order of a mode.
use Rattle.std.specs.Prelude.{◌≡◌, ℕ, List, map, Some, None, Ok, Err}
use Rattle.std.specs.declared.option.Option.{Option}
use Rattle.std.specs.declared.result.Result.{Result}
use Rattle.conflict_coloring.specs.Coloring.{Coloring, IsColoring}
use Rattle.serial_sum.specs.SerialSum.{SumIs}
use Rattle.serial_sum.specs.Steps.{FaultIs}
use Rattle.serial_sum.specs.declared.sum.AssembleFault.{AssembleFault}
use Rattle.sparsity.specs.declared.rows.Row.{Row}
use Rattle.mesh_loop.specs.Setup.{MeshProblem, cells_of, pattern_of, written_rows}
use Rattle.mesh_loop.specs.Sum.{parts_of}
use Rattle.run_words.specs.declared.options.SystemMode.{SystemMode}
use Rattle.run_words.specs.declared.options.SystemMode.TheVariants as modes
use Rattle.diagnostics.specs.declared.refusal.Refusal.{Refusal}
use Rattle.system_texts.specs.Endings.{of_sum}
use Rattle.diagnostics.specs.Stages.{Says}

-- a colouring of the cells, in which cells that write one row conflict
abbrev pub IsColoringOf : MeshProblem → Coloring → Type 0
IsColoringOf s = IsColoring (map (written_rows s) (cells_of s))

-- the order in which a mode adds the cells: as they come, or colour by colour
abbrev pub IsOrderOf : SystemMode → MeshProblem → List ℕ → Type 0
IsOrderOf modes.Serial s order = order ≡ cells_of s
IsOrderOf modes.Ordered s order = order ≡ cells_of s
IsOrderOf modes.Colored s order = (c : Coloring) × IsColoringOf s c × (order ≡ c.order)
IsOrderOf modes.Pattern s order = ⊥
IsOrderOf modes.Colors s order = ⊥

-- the rows of the sum in this order, or how it fails first
abbrev pub SummedIn : List ℕ → ℕ → MeshProblem → Result (List Row) Refusal → Type 0
SummedIn order digits s (Ok rows) = SumIs digits (pattern_of s) (parts_of s order) (Ok rows)
SummedIn order digits s (Err refusal) = Says of_sum (FaultIs digits (pattern_of s) (parts_of s order)) refusal

-- the same in the order of a mode
abbrev pub SummedBy : SystemMode → ℕ → MeshProblem → Result (List Row) Refusal → Type 0
SummedBy mode digits s outcome = (order : List ℕ) × IsOrderOf mode s order × SummedIn order digits s outcome

-- the modes that have no sums
abbrev pub HasNoSums : SystemMode → Type 0
HasNoSums modes.Serial = ⊥
HasNoSums modes.Ordered = ⊥
HasNoSums modes.Colored = ⊥
HasNoSums modes.Pattern = Unit {0}
HasNoSums modes.Colors = Unit {0}

-- the rows of the sums, where the mode has sums
abbrev pub Summed : SystemMode → ℕ → MeshProblem → Result (Option (List Row)) Refusal → Type 0
Summed mode digits s (Ok (Some rows)) = SummedBy mode digits s (Ok rows)
Summed mode digits s (Ok None) = HasNoSums mode
Summed mode digits s (Err refusal) = SummedBy mode digits s (Err refusal)

-- these are sums of the system, with some number of digits
abbrev pub IsOfSums : SystemMode → MeshProblem → Option (List Row) → Type 0
IsOfSums mode s rows = (digits : ℕ) × Summed mode digits s (Ok rows)
