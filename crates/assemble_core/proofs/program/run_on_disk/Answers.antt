use Rattle.std.proofs.Common.{map}
use Rattle.std.specs.Prelude.{string_bytes}
use Rattle.assemble_core.proofs.Statuses.{any_run_has_status}
use Rattle.assemble_core.proofs.program.run_on_disk.Goals as goal

pub returns : goal.returns
returns g c = any_run_has_status (map string_bytes c.args.words.now) _ _ c.run_chosen.result c.run_chosen.ensures
