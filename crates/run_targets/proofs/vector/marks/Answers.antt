use Rattle.std.proofs.Common.{map}
use Rattle.run_words.specs.Choice.{seen}
use Rattle.run_outputs.specs.Targets.{seen_target}
use Rattle.vector_texts.specs.Marks.{MarksTexts}
use Rattle.system_setup.specs.SetUp.{ForestOf}
use Rattle.diagnostics.proofs.StageLaws.{ends_first}
use Rattle.run_targets.proofs.Steps.{next_goes, next_ends}
use Rattle.run_targets.proofs.vector.marks.Goals as goal

pub returns-in-Err-clause-ends : goal.returns-in-Err-clause-ends
returns-in-Err-clause-ends g c =
    ends_first (ForestOf c.args.read.0 c.args.read.1) (MarksTexts (seen c.args.options.now).output c.args.count c.args.values.now) c.in-Err.ending c.in-Err.ensures.refused

pub returns-clause-ok : goal.returns-clause-ok
returns-clause-ok g c =
    next_goes (ForestOf c.args.read.0 c.args.read.1) (MarksTexts (seen c.args.options.now).output c.args.count c.args.values.now) (λ targets. map seen_target targets.items) c.in-Ok.made.1 c.marks_on.result c.in-Ok.ensures.ok
    c.marks_on.ensures.ok

pub returns-clause-ends : goal.returns-clause-ends
returns-clause-ends g c =
    next_ends (ForestOf c.args.read.0 c.args.read.1) (MarksTexts (seen c.args.options.now).output c.args.count c.args.values.now) c.in-Ok.made.1 c.marks_on.result c.in-Ok.ensures.ok c.marks_on.ensures.ends
