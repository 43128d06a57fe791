-- The block of a local system: its numbers that are used.
use Rattle.std.specs.Prelude.{◌≤◌, map, take}
use Rattle.cell_blocks.specs.LocalBlocks.{LocalBlock, IsBlock}
use Rattle.cell_blocks.specs.declared.local.LocalSystem.{LocalSystem}

abbrev pub block_in : LocalSystem → LocalBlock
block_in system =
    record { dofs = take system.used system.dofs; form = record { matrix = map (take system.used) (take system.used system.matrix); load = take system.used system.load } }

-- within its room, and a block
pub record IsWhole (system : LocalSystem) : Type 0 where
  pub within : system.used ≤ 18
  pub block : IsBlock (block_in system)
