-- Local systems in the room of a copy object.
use Rattle.std.specs.Prelude.{◌≤◌, List, All, map, take, Ok, Err}
use Rattle.std.specs.declared.option.Option.{Option}
use Rattle.std.specs.declared.option.Option.TheVariants.{Some, None}
use Rattle.std.specs.declared.result.Result.{Result}
use Rattle.fixed_q1.specs.declared.fault.LocalFault.{LocalFault}
use Rattle.cell_blocks.specs.declared.local.LocalSystem.{LocalSystem}
use Rattle.cell_blocks.specs.declared.systems.Systems.{Systems}
use Rattle.cell_blocks.specs.LocalBlocks.{LocalBlock}
use Rattle.cell_blocks.specs.Lending.{block_in, IsWhole}

abbrev pub in_use : Systems → List LocalSystem
in_use systems = take systems.used systems.list.items

abbrev pub stored : Systems → List LocalBlock
stored systems = map block_in (in_use systems)

-- the local systems in use are whole
pub record IsStore (systems : Systems) : Type 0 where
  pub few : systems.used ≤ 9
  pub whole : All IsWhole (in_use systems)

-- the blocks, or the fault
abbrev pub seen_copy : Option LocalFault → Systems → Result (List LocalBlock) LocalFault
seen_copy None systems = Ok (stored systems)
seen_copy (Some fault) systems = Err fault
