use Rattle.serial_sum.proofs.Fitting.{part_fits}
use Rattle.serial_sum.proofs.laws.a_row_fits_after_a_part.Goals as goal

pub returns : goal.returns
returns c = λ digits columns i row part given fits. part_fits digits columns i row part fits
