use Rattle.std.proofs.Common.{take, ◌+◌, arith}
use Rattle.std.proofs.lemmas.Grind.{common_steps}
use Rattle.fem_text.proofs.Pieces.{consumed_next}
use Rattle.fem_text.proofs.streams.read_up_to.Goals as goal

pub returns-then-is_err-clause-most : goal.returns-then-is_err-clause-most
returns-then-is_err-clause-most g c =
    consumed_next _ _ _ c.loop-bytes.bytes.items (take c.in-Ok-read.count c.read.new.buf) (c.args.limit + 1)
    (grind (arith, common_steps)) c.loop-bytes.invariant.2 c.in-Ok-read.ensures.bytes.0
