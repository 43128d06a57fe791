use Rattle.std.proofs.Common.{subst}
use Rattle.system_texts.specs.Sums.{IsOfSums}
use Rattle.system_texts.proofs.Small.{sums_are_small}
use Rattle.system_texts.proofs.targets.make_targets.Goals as goal

pub sum_targets-requires : goal.sum_targets-requires
sum_targets-requires c = sums_are_small c.args.mode c.args.setup.now c.in-Some.rows (subst (IsOfSums c.args.mode c.args.setup.now) c.in-Some.is c.requires.sums) c.requires.few
