use Rattle.std.proofs.Common.{map}
use Rattle.run_words.specs.Choice.{seen}
use Rattle.run_outputs.specs.Targets.{seen_target}
use Rattle.run_targets.proofs.Systems.{sums_texts}
use Rattle.run_targets.proofs.system.finish.Goals as goal

pub returns-in-Ok-clause-ok : goal.returns-in-Ok-clause-ok
returns-in-Ok-clause-ok c =
    sums_texts c.args.mode (seen c.args.options.now) c.args.setup.now c.args.rows (map seen_target c.in-Ok.targets.items) c.requires.sums c.in-Ok.ensures
