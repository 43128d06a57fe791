use Rattle.diagnostics.proofs.StageLaws.{ends_first, ends_next}
use Rattle.diagnostics.specs.Stages.{goes}
use Rattle.system_setup.specs.SetUp.{CoarseOf, RefinedFrom}
use Rattle.system_setup.proofs.steps.refined_mesh.Goals as goal

pub returns-in-Err-clause-refused : goal.returns-in-Err-clause-refused
returns-in-Err-clause-refused c =
    ends_first (CoarseOf c.args.parts.points c.args.parts.quads c.args.parts.lines) (λ mesh. RefinedFrom mesh c.args.problem.now) c.in-Err.ending c.in-Err.ensures.refused

pub returns-in-Ok-refined-clause-ok : goal.returns-in-Ok-refined-clause-ok
returns-in-Ok-refined-clause-ok c = goes c.in-Ok.made.1 c.in-Ok.ensures.ok c.in-Ok-refined.ensures.ok

pub returns-in-Err-refined-clause-refused : goal.returns-in-Err-refined-clause-refused
returns-in-Err-refined-clause-refused c =
    ends_next (CoarseOf c.args.parts.points c.args.parts.quads c.args.parts.lines) (λ mesh. RefinedFrom mesh c.args.problem.now) c.in-Ok.made.1 c.in-Err-refined.ending c.in-Ok.ensures.ok
    c.in-Err-refined.ensures.refused
