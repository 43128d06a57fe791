use Rattle.std.proofs.Common.{◌∙◌}
use Rattle.run_texts.proofs.Sources.{drawn_ok, drawn_mesh_ends, drawn_problem_ends}
use Rattle.run_texts.proofs.source.drawn.Goals as goal

pub returns-in-Err-clause-ends : goal.returns-in-Err-clause-ends
returns-in-Err-clause-ends c = drawn_mesh_ends c.args.n c.args.seed c.as_slice.result.now c.in-Err.ending (c.as_slice.ensures.value ∙ c.in_ok-drawn.ensures.mesh) c.in-Err.ensures.refused

pub returns-in-Ok-problem_of-clause-ok : goal.returns-in-Ok-problem_of-clause-ok
returns-in-Ok-problem_of-clause-ok c =
    drawn_ok c.args.n c.args.seed c.as_slice.result.now c.as_slice-2.result.now c.in-Ok.parts c.in-Ok-problem_of.problem (c.as_slice.ensures.value ∙ c.in_ok-drawn.ensures.mesh)
    (c.as_slice-2.ensures.value ∙ c.in_ok-drawn.ensures.problem) c.in-Ok.ensures.ok c.in-Ok-problem_of.ensures.ok

pub returns-clause-ends : goal.returns-clause-ends
returns-clause-ends c =
    drawn_problem_ends c.args.n c.args.seed c.as_slice.result.now c.as_slice-2.result.now c.in-Ok.parts c.in-Err-problem_of.ending (c.as_slice.ensures.value ∙ c.in_ok-drawn.ensures.mesh)
    (c.as_slice-2.ensures.value ∙ c.in_ok-drawn.ensures.problem) c.in-Ok.ensures.ok c.in-Err-problem_of.ensures.refused
