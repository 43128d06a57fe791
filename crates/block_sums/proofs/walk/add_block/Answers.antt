use Rattle.std.proofs.Common.{◌≡◌, ◌<◌, ap, length, arith}
use Rattle.std.specs.List.{flat_map, range_with_len}
use Rattle.affine_constraints.specs.Lines.{lines_in}
use Rattle.block_sums.specs.Contributions.{row_terms, contributions}
use Rattle.block_sums.proofs.Runs.{none_adds, range_step, same_adds}
use Rattle.block_sums.proofs.Splits.{all_number}
use Rattle.block_sums.proofs.walk.add_block.Goals as goal

pub loop-i-init : goal.loop-i-init
loop-i-init g c = none_adds c.requires.fits

pub add_row-told-requires-clause-given : goal.add_row-told-requires-clause-given
unfolding contributions
add_row-told-requires-clause-given g c =
    let inside : c.loop-i.i < length c.args.block.now.dofs = omega (arith, c.loop-i-test.true, ap length c.dofs-i-end.ensures) in
    all_number (g.A.Adder.may_add c.args.adder.now) (row_terms (lines_in c.args.closed.now) c.args.block.now) (length c.args.block.now.dofs) c.loop-i.i inside c.requires.given

pub loop-i-preserved : goal.loop-i-preserved
loop-i-preserved g c = range_step (row_terms (lines_in c.args.closed.now) c.args.block.now) c.loop-i.i c.loop-i.invariant c.add_row-told.ensures

pub returns : goal.returns
unfolding contributions
returns g c =
    let all : c.loop-i.i ≡ length c.args.block.now.dofs = omega (arith, ap length c.dofs-i-end.ensures) in
    same_adds (ap (λ n. flat_map (row_terms (lines_in c.args.closed.now) c.args.block.now) (range_with_len 0 n)) all) c.loop-i.invariant
