use Rattle.sparsity.proofs.Having.{row_is}
use Rattle.sparsity.proofs.gather.gather_row.Goals as goal

pub returns : goal.returns
returns c =
    row_is c.args.size c.args.i c.args.lists.now c.sort_unique.new.row.items c.gather.new.row.items c.requires.row c.requires.within c.sort_unique.ensures.rises c.sort_unique.ensures.same c.in_ok-gather.ensures
