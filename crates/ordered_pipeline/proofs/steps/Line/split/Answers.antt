use Rattle.std.proofs.Common.{arith}
use Rattle.ordered_pipeline.proofs.Ends.{splits}
use Rattle.ordered_pipeline.proofs.steps.Line.split.Goals as goal

pub split_seat-requires : goal.split_seat-requires
split_seat-requires g c =
    let line = c.args.self.now in
    (c.requires.0, omega (arith, line.sized.0), splits _ _ _ _ _ _ (omega (arith, line.few.2, line.sized.2)) _ _ c.requires.1.0 c.requires.1.2 c.requires.1.1)
