use Rattle.std.proofs.Common.{ap, to_z, FitsSigned}
use Rattle.std.specs.Int.{w64}
use Rattle.std.proofs.lemmas.Int.{to_z-of_z}
use Rattle.fixed_q2.proofs.NoSource.{no_load}
use Rattle.fixed_q2.proofs.sums.load_of.Goals as goal

pub returns-then-source-eq0 : goal.returns-then-source-eq0
returns-then-source-eq0 c =
    let fits : FitsSigned w64 c.args.source = c.ranges.source in
    let zero = ap (to_z w64) c.if-source-eq0.true in
    no_load c.args.source c.args.samples.now (simp to_z-of_z at zero)
