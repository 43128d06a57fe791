use Rattle.std.proofs.Common.{◌≡◌, ◌∙◌, ap, length, slice_set, slice_index_or, arith}
use Rattle.std.specs.Prelude.{None}
use Rattle.constrained_mesh.specs.Dirichlet.{line_on}
use Rattle.std.proofs.lemmas.List.{length-set, get_or_default}
use Rattle.constrained_mesh.proofs.LineLaws.{value_more}
use Rattle.constrained_mesh.proofs.dirichlet.dirichlet_lines.Goals as goal

pub loop-dof-preserved : goal.loop-dof-preserved
loop-dof-preserved c =
    let e : c.add_value.new.lines ≡ slice_set c.loop-dof.lines c.loop-dof.dof (line_on c.args.problem.now (slice_index_or c.in_ok-ids.ids.items c.loop-dof.dof None)) =
    c.in_ok-add_value.ensures ∙ ap (λ id. slice_set c.loop-dof.lines c.loop-dof.dof (line_on c.args.problem.now id)) (c.index.ensures ∙ get_or_default c.in_ok-ids.ids.items c.loop-dof.dof _ None (let h = c.in_ok-ids.ensures.size in let t = c.loop-dof-test.true in let z = c.size-dof-end.ensures in omega (arith, h, t, z))) in
    record {
      size = ap length e ∙ length-set c.loop-dof.lines c.loop-dof.dof _ ∙ c.loop-dof.invariant.size;
      held = value_more c.args.dofs.now.degree c.args.forest.now c.args.problem.now c.in_ok-ids.ids.items c.loop-dof.lines c.add_value.new.lines c.loop-dof.dof c.in_ok-ids.ensures.ids (let h = c.in_ok-ids.ensures.size in let t = c.loop-dof-test.true in let z = c.size-dof-end.ensures in omega (arith, h, t, z)) (let h = c.loop-dof.invariant.size in let t = c.loop-dof-test.true in let z = c.size-dof-end.ensures in omega (arith, h, t, z)) e c.loop-dof.invariant.held;
    }
