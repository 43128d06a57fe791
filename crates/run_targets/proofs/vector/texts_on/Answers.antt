use Rattle.std.proofs.Common.{map}
use Rattle.run_words.specs.Choice.{seen}
use Rattle.run_outputs.specs.Targets.{seen_target}
use Rattle.run_words.specs.declared.options.SystemMode.TheVariants as systems
use Rattle.diagnostics.proofs.StageLaws.{ends_first}
use Rattle.system_setup.specs.SetUp.{SetUpOn}
use Rattle.system_texts.specs.Texts.{SystemTexts}
use Rattle.run_targets.specs.Defines.{scheme_of}
use Rattle.run_targets.proofs.Steps.{next_goes, next_ends}
use Rattle.run_targets.proofs.vector.texts_on.Goals as goal

pub returns-in-Err-clause-ends : goal.returns-in-Err-clause-ends
returns-in-Err-clause-ends g c =
    ends_first (SetUpOn (scheme_of (seen c.args.options.now)) c.args.ids.now c.args.problem c.args.forest) (SystemTexts systems.Serial (seen c.args.options.now)) c.in-Err.ending c.in-Err.ensures.ends

pub returns-in-Ok-clause-ok : goal.returns-in-Ok-clause-ok
returns-in-Ok-clause-ok g c =
    next_goes (SetUpOn (scheme_of (seen c.args.options.now)) c.args.ids.now c.args.problem c.args.forest) (SystemTexts systems.Serial (seen c.args.options.now)) (λ targets. map seen_target targets.items) c.in-Ok.setup
    c.plain_texts.result c.in-Ok.ensures.ok c.plain_texts.ensures.ok

pub returns-in-Ok-clause-ends : goal.returns-in-Ok-clause-ends
returns-in-Ok-clause-ends g c =
    next_ends (SetUpOn (scheme_of (seen c.args.options.now)) c.args.ids.now c.args.problem c.args.forest) (SystemTexts systems.Serial (seen c.args.options.now)) c.in-Ok.setup c.plain_texts.result c.in-Ok.ensures.ok
    c.plain_texts.ensures.ends
