use Rattle.std.proofs.Common.{take}
use Rattle.batch_run.specs.Output.{IsOutputOf}
use Rattle.batch_run.proofs.text.text_of.Given as goal

abbrev pub invariant-loop-job : goal.invariant-loop-job
invariant-loop-job l = IsOutputOf (take l.job l.fn.answers) l.text.items
