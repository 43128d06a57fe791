use Rattle.std.proofs.Common.{length, slice_index}
use Rattle.std.proofs.lemmas.List.{get_or_default}
use Rattle.affine_constraints.specs.Lines.{lines_in}
use Rattle.mesh_loop.proofs.MasterSteps.{no_masters, none_below, masters_more, masters_below_more}
use Rattle.mesh_loop.proofs.masters.push_masters.Goals as goal

pub loop-dof-init : goal.loop-dof-init
loop-dof-init c = record {
  value = no_masters (lines_in c.args.closed.now) c.args.list.now.items;
  below = none_below (lines_in c.args.closed.now) (length c.args.closed.now);
}

pub loop-dof-preserved : goal.loop-dof-preserved
loop-dof-preserved c =
    let dof = slice_index c.args.dofs.now c.loop-dof.dof-index in
    let at = get_or_default c.args.dofs.now c.loop-dof.dof-index 0 dof c.loop-dof-test.true in
    record {
      value = masters_more (lines_in c.args.closed.now) c.args.dofs.now c.loop-dof.dof-index dof c.args.list.now.items c.loop-dof.list.items c.push_line.new.list.items c.loop-dof-test.true at c.loop-dof.invariant.value c.in_ok-push_line.ensures.value;
      below = masters_below_more (lines_in c.args.closed.now) (length c.args.closed.now) c.args.dofs.now c.loop-dof.dof-index dof c.loop-dof-test.true at c.loop-dof.invariant.below c.in_ok-push_line.ensures.below;
    }
