-- Colourings of the cells of a system.
use Rattle.std.proofs.Common.{◌≡◌, ◌∙◌, ap, sym, refl, subst, ℕ, zero, suc, ◌+◌, ◌<◌, List, [], ◌∷◌, map, length, arith}
use Rattle.std.specs.List.{range_with_len}
use Rattle.std.proofs.lemmas.List.FromFn.{length-range_with_len, length-map-range_with_len}
use Rattle.std.proofs.lemmas.Grind.{common_steps}
use Rattle.conflict_coloring.specs.Coloring.{Coloring, IsColoring}
use Rattle.mesh_loop.specs.Setup.{MeshProblem, cells_of, written_rows}
use Rattle.system_texts.specs.Sums.{IsColoringOf}

cells_many : (s : MeshProblem) → length (map (written_rows s) (cells_of s)) ≡ length s.given.forest.cells
cells_many s = length-map-range_with_len (written_rows s) 0 (length s.given.forest.cells)

pub cells_count : (s : MeshProblem) → length (cells_of s) ≡ length s.given.forest.cells
cells_count s = length-range_with_len 0 (length s.given.forest.cells)

pub zones_of_cells : (s : MeshProblem) (c : Coloring) → IsColoringOf s c → length c.zones ≡ length s.given.forest.cells
zones_of_cells s c is = is.zones.one_each ∙ cells_many s

pub colors_of_cells : (s : MeshProblem) (c : Coloring) → IsColoringOf s c → length c.colors ≡ length s.given.forest.cells
colors_of_cells s c is = is.colours.one_each ∙ cells_many s

pub some_start : (s : MeshProblem) (c : Coloring) → IsColoringOf s c → 0 < length c.starts
some_start s c is = (let e = is.starts.one_more in grind (arith, common_steps))
