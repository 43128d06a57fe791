use Rattle.std.proofs.Common.{ap, length, arith}
use Rattle.compressed_lists.proofs.Cutting.{cut_length}
use Rattle.compressed_lists.proofs.lists.Lists.len.Goals as goal

pub returns : goal.returns
returns g c =
    let count = cut_length c.self.inside.items.items 0 c.self.inside.ends.items in
    let view = ap length c.self.view_is in
    omega (arith, c.len.ensures, count, view, c.self.inside.ends.ok)
