use Rattle.serial_sum.proofs.Fitting.{step_fits}
use Rattle.serial_sum.proofs.laws.rows_fit_after_a_step.Goals as goal

pub returns : goal.returns
returns c = λ digits pattern state part given fits. step_fits digits pattern state.rows state.failure part fits
