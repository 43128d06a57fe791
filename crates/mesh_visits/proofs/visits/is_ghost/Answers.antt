use Rattle.std.proofs.Common.{◌∙◌, sym, arith, below_more}
use Rattle.mesh_visits.specs.Steps.{leads_to_own}
use Rattle.mesh_visits.proofs.Choosing.{some_face, no_face}
use Rattle.mesh_visits.proofs.visits.is_ghost.Goals as goal

pub returns-then-meets_own : goal.returns-then-meets_own
returns-then-meets_own c =
    sym (some_face (leads_to_own c.args.run.now) c.args.forest.now c.args.cell c.loop-face.face (omega arith) (sym c.meets_own.ensures ∙ c.if-meets_own.true))

pub loop-face-preserved : goal.loop-face-preserved
loop-face-preserved c = below_more _ _ c.loop-face.invariant (sym c.meets_own.ensures ∙ c.if-meets_own.false)

pub returns : goal.returns
returns c =
    sym (no_face (leads_to_own c.args.run.now) c.args.forest.now c.args.cell (λ f h. c.loop-face.invariant f (omega arith)))
