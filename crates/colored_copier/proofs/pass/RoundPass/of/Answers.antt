use Rattle.std.proofs.Common.{subst, sym, ap}
use Rattle.colored_copier.specs.Phases.{NotOver}
use Rattle.colored_copier.proofs.Ties.{fresh_tie}
use Rattle.colored_copier.proofs.pass.RoundPass.of.Goals as goal

pub invariant_of-result : goal.invariant_of-result
invariant_of-result g c = (fresh_tie g.J.RowJob.rows_of g.J.RowJob.row_step c.args.seat.me c.requires.0 c.args.seat.me.0.number c.requires.1, subst NotOver (sym (ap (λ m. m.0.phase) c.requires.1)) tt)
