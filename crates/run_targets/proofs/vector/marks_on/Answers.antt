use Rattle.std.proofs.Common.{map}
use Rattle.run_words.specs.Choice.{seen}
use Rattle.run_outputs.specs.Targets.{seen_target}
use Rattle.diagnostics.proofs.StageLaws.{ends_first}
use Rattle.diagnostics.specs.Stages.{goes}
use Rattle.vector_texts.specs.Marks.{MarkedOn, MarksText}
use Rattle.run_targets.proofs.vector.marks_on.Goals as goal

pub returns-in-Err-clause-ends : goal.returns-in-Err-clause-ends
returns-in-Err-clause-ends g c =
    ends_first (MarkedOn c.args.count c.args.values.now c.args.forest.now) (MarksText (seen c.args.options.now).output) c.in-Err.ending c.in-Err.ensures.ends

pub returns-clause-ok : goal.returns-clause-ok
returns-clause-ok g c = goes (c.in-Ok.marks.etas.items, c.in-Ok.marks.cells.items) c.in-Ok.ensures.ok c.in_ok-targets.ensures
