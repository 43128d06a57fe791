use Rattle.std.proofs.Common.{pos, get_or}
use Rattle.affine_constraints.specs.declared.term.Term.{Term}
use Rattle.affine_constraints.specs.Lines.{lines_in}
use Rattle.block_sums.specs.Contributions.{master_terms}
use Rattle.block_sums.proofs.Runs.{none_adds, lists_step}
use Rattle.block_sums.proofs.Splits.{all_inside}
use Rattle.block_sums.proofs.Values.{same_term}
use Rattle.block_sums.proofs.walk.add_masters.Goals as goal

pub loop-master-init : goal.loop-master-init
loop-master-init g c = none_adds c.requires.fits

pub add_wanted_master-told-requires-clause-given : goal.add_wanted_master-told-requires-clause-given
add_wanted_master-told-requires-clause-given g c =
    let none : Term = record { dof = 0; weight = pos 0 } in
    let x : Term = get_or c.args.terms.now c.loop-master.master-index none in
    all_inside (g.A.Adder.may_add c.args.adder.now) (master_terms (lines_in c.args.closed.now) c.args.block.now c.args.i) c.args.terms.now c.loop-master.master-index x c.loop-master-test.true
    (same_term c.args.terms.now c.loop-master.master-index none x c.loop-master-test.true) c.requires.given

pub loop-master-preserved : goal.loop-master-preserved
loop-master-preserved g c =
    let none : Term = record { dof = 0; weight = pos 0 } in
    let x : Term = get_or c.args.terms.now c.loop-master.master-index none in
    lists_step (master_terms (lines_in c.args.closed.now) c.args.block.now c.args.i) c.args.terms.now c.loop-master.master-index x c.loop-master-test.true
    (same_term c.args.terms.now c.loop-master.master-index none x c.loop-master-test.true) c.loop-master.invariant c.add_wanted_master-told.ensures
