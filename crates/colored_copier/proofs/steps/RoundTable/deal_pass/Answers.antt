use Rattle.std.proofs.Common.{arith}
use Rattle.colored_copier.proofs.Ends.{deals}
use Rattle.colored_copier.proofs.steps.RoundTable.deal_pass.Goals as goal

pub split_seat-requires : goal.split_seat-requires
split_seat-requires g c = (c.requires.dealer.0, omega (arith, c.args.self.now.one_word), deals _ _ _ _ _ _ _ c.requires.dealer.1 c.requires.dealer.2 c.requires.dealer.3)
