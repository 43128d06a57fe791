use Rattle.std.proofs.Common.{◌≤◌, ◌^◌, arith, length}
use Rattle.mesh_loop.proofs.Covered.{within_limits}
use Rattle.mesh_loop.proofs.setup.Setup.is_within_limits.Goals as goal

pub returns : goal.returns
returns c =
    let few : length c.self.inside.forest.cells ≤ 2 ^ 20 = omega (arith, c.cells-cells.ensures.count, c.cells-cells.ensures.small) in
    within_limits _ c.args.self.now c.self.view_is c.self.invariant.matched c.self.invariant.cells c.size-size.ensures.forms few
