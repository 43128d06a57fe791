use Rattle.std.specs.Prelude.{unsigned_abs}
use Rattle.block_sums.specs.Contributions.{own_terms}
use Rattle.block_sums.proofs.Runs.{none_wanted}
use Rattle.block_sums.proofs.Allowed.{own_rows}
use Rattle.block_sums.proofs.walk.add_wanted_own.Goals as goal

pub returns-then-not-wants : goal.returns-then-not-wants
returns-then-not-wants g c =
    none_wanted c.args.dof (own_terms c.args.dof (unsigned_abs c.args.diagonal) c.args.constant) c.if-not-wants.ensures.others
    (own_rows c.args.dof (unsigned_abs c.args.diagonal) c.args.constant) c.requires.fits
