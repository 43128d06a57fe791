use Rattle.run_words.specs.Choice.{seen}
use Rattle.diagnostics.proofs.StageLaws.{ends_first}
use Rattle.system_texts.specs.Sums.{Summed}
use Rattle.system_texts.specs.Texts.{TextsOf}
use Rattle.run_targets.proofs.system.plain_texts.Goals as goal

pub returns-in-Err-clause-ends : goal.returns-in-Err-clause-ends
returns-in-Err-clause-ends g c =
    ends_first (Summed c.args.mode (seen c.args.options.now).digits c.args.setup.now) (TextsOf c.args.mode (seen c.args.options.now).output c.args.setup.now) c.in-Err.ending c.in-Err.ensures.refused
