use Rattle.std.proofs.Common.{◌≡◌, ◌∙◌, ◌<◌, ap, length, take, arith}
use Rattle.std.specs.List.{All, flat_map}
use Rattle.affine_constraints.specs.Lines.{lines_in}
use Rattle.cell_blocks.specs.LocalBlocks.{LocalBlock}
use Rattle.cell_blocks.specs.Visited.{blocks_in}
use Rattle.block_sums.specs.Contributions.{contributions}
use Rattle.block_sums.proofs.Runs.{none_adds, lists_step, same_adds}
use Rattle.block_sums.proofs.Splits.{all_inside}
use Rattle.block_sums.proofs.CellSteps.{at_block, whole}
use Rattle.block_sums.proofs.cells.add_blocks.Goals as goal

pub loop-k-init : goal.loop-k-init
loop-k-init g c = none_adds c.requires.fits

pub add_block-told-requires-clause-dofs : goal.add_block-told-requires-clause-dofs
add_block-told-requires-clause-dofs g c =
    let inside : c.loop-k.k < length (blocks_in c.args.copy.now) = omega (arith, c.loop-k-test.true, c.blocks-k-end.ensures.count) in
    at_block (λ (block : LocalBlock). All (λ dof. dof < length c.args.closed.now) block.dofs) (blocks_in c.args.copy.now) c.loop-k.k c.block.result c.requires.dofs inside c.block.ensures

pub add_block-told-requires-clause-given : goal.add_block-told-requires-clause-given
add_block-told-requires-clause-given g c =
    let inside : c.loop-k.k < length (blocks_in c.args.copy.now) = omega (arith, c.loop-k-test.true, c.blocks-k-end.ensures.count) in
    all_inside (g.A.Adder.may_add c.args.adder.now) (contributions (lines_in c.args.closed.now)) (blocks_in c.args.copy.now) c.loop-k.k c.block.result inside c.block.ensures c.requires.given

pub loop-k-preserved : goal.loop-k-preserved
loop-k-preserved g c =
    let inside : c.loop-k.k < length (blocks_in c.args.copy.now) = omega (arith, c.loop-k-test.true, c.blocks-k-end.ensures.count) in
    lists_step (contributions (lines_in c.args.closed.now)) (blocks_in c.args.copy.now) c.loop-k.k c.block.result inside c.block.ensures c.loop-k.invariant c.add_block-told.ensures

pub returns : goal.returns
returns g c =
    let all : c.loop-k.k ≡ length (blocks_in c.args.copy.now) = omega (arith, c.loop-k-test.false, c.loop-k.auto.k-end, c.blocks-k-end.ensures.count) in
    same_adds (ap (flat_map (contributions (lines_in c.args.closed.now))) (ap (λ n. take n (blocks_in c.args.copy.now)) all ∙ whole (blocks_in c.args.copy.now))) c.loop-k.invariant
