use Rattle.std.proofs.Common.{arith}
use Rattle.colored_copier.proofs.Ends.{joins}
use Rattle.colored_copier.proofs.steps.RoundTable.join_pass.Goals as goal

pub join_seat-requires : goal.join_seat-requires
join_seat-requires g c = (c.requires.tables.0, c.requires.tables.1, c.requires.free.2, omega (arith, c.args.self.now.one_word), joins _ _ _ _ _ _ _ _ _ c.requires.free.0 c.requires.free.1 c.requires.overs.0 c.requires.overs.1)
