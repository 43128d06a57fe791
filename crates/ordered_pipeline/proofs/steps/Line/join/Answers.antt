use Rattle.std.proofs.Common.{arith}
use Rattle.ordered_pipeline.proofs.Ends.{joins}
use Rattle.ordered_pipeline.proofs.steps.Line.join.Goals as goal

pub join_seat-requires : goal.join_seat-requires
join_seat-requires g c =
    let line = c.args.self.now in
    let other = c.requires.other in
    (c.requires.seat.0, other.0, other.2, omega (arith, line.sized.0), joins _ _ _ _ _ _ (omega (arith, line.few.2, line.sized.2)) _ _ _ _ _ c.requires.seat.1 other.1)
