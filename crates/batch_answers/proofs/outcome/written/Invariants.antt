use Rattle.std.proofs.Common.{◌≡◌, map, take}
use Rattle.run_outputs.specs.Targets.{seen_target}
use Rattle.batch_answers.specs.Outcome.{text_of}
use Rattle.batch_answers.proofs.outcome.written.Given as goal

-- the texts before this one stand there
abbrev pub invariant-loop-target : goal.invariant-loop-target
invariant-loop-target l = l.text.items ≡ text_of (map seen_target (take l.target-index l.targets))
