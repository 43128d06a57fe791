use Rattle.std.proofs.Common.{ap, to_z, FitsSigned}
use Rattle.std.specs.Int.{w128}
use Rattle.std.proofs.lemmas.Int.{to_z-of_z}
use Rattle.fixed_q1.proofs.TenEntries.{no_load}
use Rattle.fixed_q1.proofs.sums.load_of.Goals as goal

pub returns-then-source-eq0 : goal.returns-then-source-eq0
returns-then-source-eq0 c =
    let fits : FitsSigned w128 c.args.source = c.ranges.source in
    let zero = ap (to_z w128) c.if-source-eq0.true in
    no_load c.args.source c.args.evaluations.now (simp to_z-of_z at zero)
