use Rattle.std.proofs.Common.{ap, refl}
use Rattle.std.specs.List.{slice_get}
use Rattle.fem_text.specs.LineSteps.{line_seen}
use Rattle.matrix_market.proofs.banner.read_end.Goals as goal

pub returns-in-Some-clause-err : goal.returns-in-Some-clause-err
returns-in-Some-clause-err c =
    record { extra = line_seen c.in-Some.line; first = ap (λ lines. slice_get lines 0) c.in-Some.ensures.ahead; kind_is = refl; line_is = refl }
