use Rattle.std.proofs.Common.{FitsSigned, lit<, ◌^◌}
use Rattle.std.specs.Int.{w128}
use Rattle.std.proofs.lemmas.Int.{to_z-of_z}
use Rattle.fem_fixed.proofs.Sizes.{size_fits}
use Rattle.serial_sum.specs.declared.part.Target.TheVariants.{RightSide}
use Rattle.serial_sum.proofs.adding.add_right_side.Goals as goal

pub add_to-sum-requires-clause-entry : goal.add_to-sum-requires-clause-entry
add_to-sum-requires-clause-entry c =
    let fits : FitsSigned w128 c.args.row.now.rhs = size_fits c.args.row.now.rhs (2 ^ 80) (c.requires.fits.small RightSide) (lit< tt) in
    rw to_z-of_z (c.requires.fits.small RightSide)
