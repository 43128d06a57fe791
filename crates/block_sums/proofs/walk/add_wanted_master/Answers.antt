use Rattle.affine_constraints.specs.Lines.{lines_in}
use Rattle.block_sums.specs.Contributions.{master_terms}
use Rattle.block_sums.proofs.Runs.{none_wanted}
use Rattle.block_sums.proofs.Allowed.{master_rows}
use Rattle.block_sums.proofs.walk.add_wanted_master.Goals as goal

pub returns-then-not-wants : goal.returns-then-not-wants
returns-then-not-wants g c =
    none_wanted c.args.master.dof (master_terms (lines_in c.args.closed.now) c.args.block.now c.args.i c.args.master) c.if-not-wants.ensures.others
    (master_rows (lines_in c.args.closed.now) c.args.block.now c.args.i c.args.master) c.requires.fits
