-- How the room of a copy object is filled, one visit after another.
use Rattle.std.specs.Prelude.{◌≡◌, ℕ, List, All, take, Ok, Err}
use Rattle.std.specs.declared.option.Option.{Option}
use Rattle.std.specs.declared.option.Option.TheVariants.{Some, None}
use Rattle.std.specs.declared.result.Result.{Result}
use Rattle.fixed_q1.specs.declared.fault.LocalFault.{LocalFault}
use Rattle.mesh_visits.specs.declared.visit.Visit.{Visit}
use Rattle.cell_blocks.specs.declared.local.LocalSystem.{LocalSystem}
use Rattle.cell_blocks.specs.declared.systems.Systems.{Systems}
use Rattle.cell_blocks.specs.LocalBlocks.{LocalBlock}
use Rattle.cell_blocks.specs.Lending.{block_in, IsWhole}
use Rattle.cell_blocks.specs.Blocks.{Given, blocks_of}
use Rattle.cell_blocks.specs.Stored.{in_use, stored, IsStore}

-- a block stands in a local system, or it has this fault
abbrev pub IsMade : {A : Type 0} → Result LocalBlock LocalFault → LocalSystem → Result A LocalFault → Type 0
IsMade wanted system (Ok done) = (wanted ≡ Ok (block_in system)) × IsWhole system
IsMade wanted system (Err fault) = wanted ≡ Err fault

-- the blocks stand there, or there is this fault
abbrev pub AreBlocksMade : Result (List LocalBlock) LocalFault → Systems → Option LocalFault → Type 0
AreBlocksMade wanted systems None = (wanted ≡ Ok (stored systems)) × IsStore systems
AreBlocksMade wanted systems (Some fault) = (wanted ≡ Err fault) × IsStore systems

-- the blocks of the first visits stand there
pub record IsFilled (given : Given) (cell : ℕ) (visits : List Visit) (count : ℕ) (systems : Systems) : Type 0 where
  pub used : systems.used ≡ count
  pub whole : All IsWhole (in_use systems)
  pub made : blocks_of given cell (take count visits) ≡ Ok (stored systems)
