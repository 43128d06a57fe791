use Rattle.std.proofs.Common.{subst, sym, ℕ, ◌<◌, List, length, arith}
use Rattle.hanging_refine.specs.Refined.{RefinedMesh}
use Rattle.hanging_refine.specs.Refinement.{IsRefinedBy, IsRefusal}
use Rattle.constrained_mesh.specs.Steps.{StopsAt}
use Rattle.constrained_mesh.proofs.StepLaws.{step_more, step_refused}
use Rattle.constrained_mesh.proofs.refinement.refine_by_steps.Goals as goal

pub returns-in-Err-clause-fault : goal.returns-in-Err-clause-fault
returns-in-Err-clause-fault c = λ known.
    let within : c.loop-step.step < length c.args.problem.now.steps = let h = c.steps-step-end.ensures.value in let t = c.loop-step-test.true in omega (arith, h, t) in
    let P : List ℕ → Type 0 = λ asked. IsRefusal c.loop-step.forest asked c.in-Err.fault in
    step_refused c.args.problem.now.steps c.loop-step.step c.args.forest.now c.loop-step.forest c.in-Err.fault within c.loop-step.invariant (subst P c.asked.ensures (c.in-Err.ensures.fault known))

pub returns-in-Err-clause-stopped : goal.returns-in-Err-clause-stopped
returns-in-Err-clause-stopped c =
    let within : c.loop-step.step < length c.args.problem.now.steps = let h = c.steps-step-end.ensures.value in let t = c.loop-step-test.true in omega (arith, h, t) in
    let P : List ℕ → Type 0 = λ asked. IsRefusal c.loop-step.forest asked c.in-Err.fault in
    let M : RefinedMesh → Type 0 = λ mesh. StopsAt c.args.problem.now.steps c.args.forest.now mesh c.in-Err.fault c.loop-step.step in (
      c.loop-step.step,
      subst M (sym c.in-Err.ensures.same) (record {
        within = within;
        before = c.loop-step.invariant;
        refused = λ known. subst P c.asked.ensures (c.in-Err.ensures.fault known);
      }),
    )

pub loop-step-preserved : goal.loop-step-preserved
loop-step-preserved c =
    let within : c.loop-step.step < length c.args.problem.now.steps = let h = c.steps-step-end.ensures.value in let t = c.loop-step-test.true in omega (arith, h, t) in
    let P : List ℕ → Type 0 = λ asked. IsRefinedBy c.loop-step.forest asked c.refine.new.self c.in-Ok.field-0 in
    step_more c.args.problem.now.steps c.loop-step.step c.in-Ok.field-0 c.args.forest.now c.loop-step.forest c.refine.new.self within c.loop-step.invariant (subst P c.asked.ensures c.in-Ok.ensures.ok)
