use Rattle.std.proofs.Common.{◌≡◌, map}
use Rattle.std.specs.List.{range_with_len}
use Rattle.cell_blocks.specs.Blocks.{cell_subdomain}
use Rattle.mesh_loop.specs.Parts.{shown}
use Rattle.mesh_loop.proofs.visited.subdomains_by_cell.Given as goal

abbrev pub invariant-loop-cell : goal.invariant-loop-cell
invariant-loop-cell l = l.list.items ≡ map (cell_subdomain (shown l.source).given) (range_with_len 0 l.cell)
