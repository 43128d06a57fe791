use Rattle.fixed_q2.proofs.Turned.{form_turned}
use Rattle.fixed_q2.proofs.laws.normal_has_no_sign.Goals as goal

pub returns : goal.returns
returns c here there p q a b gamma = form_turned here there p q a b gamma
