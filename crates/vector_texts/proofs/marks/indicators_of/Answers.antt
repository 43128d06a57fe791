use Rattle.std.proofs.Common.{refl, length, arith}
use Rattle.vector_texts.proofs.Chain.{few_etas}
use Rattle.vector_texts.proofs.marks.indicators_of.Goals as goal

pub returns-in-Ok-clause-few : goal.returns-in-Ok-clause-few
returns-in-Ok-clause-few g c =
    few_etas c.args.forest.now c.args.dofs.now c.args.x.now c.in-Ok.etas.items (length c.args.forest.now.cells) refl (omega arith) c.in-Ok.ensures.ok
