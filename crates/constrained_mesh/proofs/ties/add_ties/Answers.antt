use Rattle.std.proofs.Common.{◌≡◌, ◌∙◌, refl, subst, Ok, Err, arith}
use Rattle.std.specs.Prelude.{ℤ}
use Rattle.std.proofs.lemmas.Int.{to_z-of_z, fits_signed_from_abs}
use Rattle.constrained_mesh.specs.Nodes.{dof_told}
use Rattle.constrained_mesh.specs.Ties.{with_tie}
use Rattle.constrained_mesh.proofs.TieLaws.{tie_of, no_ties, tie_more, tie_fault}
use Rattle.constrained_mesh.proofs.ties.add_ties.Goals as goal
use mir.Syntax.{w64}

pub loop-k-init : goal.loop-k-init
loop-k-init c = record { size = refl; so_far = no_ties (dof_told c.args.nodes.now.ids.now c.args.nodes.now.dofs.now) c.args.lines.now }

pub returns-in-Err-clause-fault : goal.returns-in-Err-clause-fault
returns-in-Err-clause-fault c = λ known.
    let told = dof_told c.args.nodes.now.ids.now c.args.nodes.now.dofs.now in
    let small = c.tie-node.ensures.within.small in
    let P : ℤ → Type 0 = λ z. with_tie told c.loop-k.lines (tie_of c.tie-node.result.0 c.tie-node.result.1.now z) ≡ Err c.in-Err.fault in
    tie_fault told c.args.lines.now c.loop-k.lines c.args.problem.now.ties c.loop-k.k _ c.in-Err.fault c.tie-node.ensures.value c.loop-k.invariant.so_far
    (subst P (to_z-of_z w64 c.tie-node.result.2 (fits_signed_from_abs w64 c.tie-node.result.2 (omega (arith, small)))) (c.in-Err.ensures.fault known))

pub loop-k-preserved : goal.loop-k-preserved
loop-k-preserved c =
    let told = dof_told c.args.nodes.now.ids.now c.args.nodes.now.dofs.now in
    let small = c.tie-node.ensures.within.small in
    let P : ℤ → Type 0 = λ z. with_tie told c.loop-k.lines (tie_of c.tie-node.result.0 c.tie-node.result.1.now z) ≡ Ok c.add_tie.new.lines in
    record {
      size = c.in-Ok.ensures.size ∙ c.loop-k.invariant.size;
      so_far = tie_more told c.args.lines.now c.loop-k.lines c.add_tie.new.lines c.args.problem.now.ties c.loop-k.k _ c.tie-node.ensures.value c.loop-k.invariant.so_far
          (subst P (to_z-of_z w64 c.tie-node.result.2 (fits_signed_from_abs w64 c.tie-node.result.2 (omega (arith, small)))) c.in-Ok.ensures.ok);
    }
