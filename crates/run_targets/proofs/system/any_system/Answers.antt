use Rattle.std.proofs.Common.{map}
use Rattle.run_words.specs.Choice.{seen}
use Rattle.run_outputs.specs.Targets.{seen_target}
use Rattle.run_targets.proofs.Systems.{set_up_ends, texts_made, texts_end}
use Rattle.run_targets.proofs.system.any_system.Goals as goal

pub returns-in-Err-clause-ends : goal.returns-in-Err-clause-ends
returns-in-Err-clause-ends g c = set_up_ends c.args.mode (seen c.args.options.now) c.args.read c.in-Err.ending c.in-Err.ensures.ends

pub returns-in-Ok-clause-ok : goal.returns-in-Ok-clause-ok
returns-in-Ok-clause-ok g c =
    texts_made c.args.mode (seen c.args.options.now) c.args.read c.in-Ok.setup (λ targets. map seen_target targets.items) c.any_texts.result c.in-Ok.ensures.ok c.any_texts.ensures.ok

pub returns-in-Ok-clause-ends : goal.returns-in-Ok-clause-ends
returns-in-Ok-clause-ends g c = texts_end c.args.mode (seen c.args.options.now) c.args.read c.in-Ok.setup c.any_texts.result c.in-Ok.ensures.ok c.any_texts.ensures.ends
