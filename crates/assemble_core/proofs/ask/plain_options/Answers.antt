use Rattle.std.proofs.Common.{map, refl}
use Rattle.std.specs.Prelude.{string_bytes}
use Rattle.assemble_core.specs.Modes.{plain_modes}
use Rattle.assemble_core.proofs.Asking.{none_refused}
use Rattle.assemble_core.proofs.ask.plain_options.Goals as goal

pub returns-in-None-clause-refused : goal.returns-in-None-clause-refused
returns-in-None-clause-refused c = (none_refused plain_modes (map string_bytes c.args.words.now) c.in-None.ensures.none, refl)
