-- What a copy object shows.
use Rattle.std.specs.Prelude.{List, [], Ok, Err}
use Rattle.std.specs.declared.option.Option.{Option}
use Rattle.std.specs.declared.option.Option.TheVariants.{Some, None}
use Rattle.std.specs.declared.result.Result.{Result}
use Rattle.fixed_q1.specs.declared.fault.LocalFault.{LocalFault}
use Rattle.cell_blocks.specs.LocalBlocks.{LocalBlock}

abbrev pub fault_in : Result (List LocalBlock) LocalFault → Option LocalFault
fault_in (Ok blocks) = None
fault_in (Err fault) = Some fault

-- the blocks; none after a fault
abbrev pub blocks_in : Result (List LocalBlock) LocalFault → List LocalBlock
blocks_in (Ok blocks) = blocks
blocks_in (Err fault) = []
