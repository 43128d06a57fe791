use Rattle.serial_sum.proofs.RoundLaws.{round_all}
use Rattle.serial_sum.proofs.laws.rounds_do_the_steps.Goals as goal

pub returns : goal.returns
returns c = λ digits pattern items old new count clean apart round. round_all digits pattern items old new count clean apart round
