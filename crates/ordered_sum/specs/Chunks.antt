-- Cells in chunks: the items of a pipeline.
use Rattle.std.specs.Prelude.{◌≡◌, ℕ, ◌*◌, List, length, map, fold, take, drop}
use Rattle.std.specs.Int.{div_ceil}
use Rattle.std.specs.declared.result.Result.{Result}
use Rattle.cell_blocks.specs.Blocks.{cell_blocks}
use Rattle.fixed_q1.specs.declared.fault.LocalFault.{LocalFault}
use Rattle.cell_blocks.specs.LocalBlocks.{LocalBlock}
use Rattle.serial_sum.specs.Steps.{step_of}
use Rattle.serial_sum.specs.declared.sum.MatrixState.{MatrixState}
use Rattle.mesh_loop.specs.Setup.{MeshProblem, cells_of, pattern_of}
use Rattle.mesh_loop.specs.Sum.{parts_of}

-- how many chunks of at most `chunk` cells all cells make
abbrev pub chunks_of : MeshProblem → ℕ → ℕ
chunks_of s chunk = div_ceil (length s.given.forest.cells) chunk

-- the cells of chunk k: at most `chunk`, behind those of the chunks before it
unfoldable pub chunk_cells : MeshProblem → ℕ → ℕ → List ℕ
chunk_cells s chunk k = take chunk (drop (k * chunk) (cells_of s))

-- the blocks of these cells, or the fault of each that has one
abbrev pub blocks_of : MeshProblem → List ℕ → List (Result (List LocalBlock) LocalFault)
blocks_of s cells = map (cell_blocks s.flags s.given) cells

-- the first copies stand for the blocks of these cells
abbrev pub StandFor : MeshProblem → List ℕ → List (Result (List LocalBlock) LocalFault) → Type 0
StandFor s cells copies = take (length cells) copies ≡ blocks_of s cells

-- the state after the parts of these cells, one after another
abbrev pub state_after : ℕ → MeshProblem → MatrixState → List ℕ → MatrixState
state_after digits s state cells = fold (step_of digits (pattern_of s)) state (parts_of s cells)
