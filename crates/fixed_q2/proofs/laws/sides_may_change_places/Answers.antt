use Rattle.fixed_q2.proofs.Exchanged.{form_exchanged}
use Rattle.fixed_q2.proofs.laws.sides_may_change_places.Goals as goal

pub returns : goal.returns
returns c = λ here there p q ends gamma. form_exchanged here there p q ends gamma
