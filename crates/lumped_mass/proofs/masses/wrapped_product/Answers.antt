use Rattle.std.specs.Int.{w128}
use Rattle.std.proofs.lemmas.Int.{wrapping_mul_is}
use Rattle.lumped_mass.proofs.masses.wrapped_product.Goals as goal

pub returns : goal.returns
returns c = wrapping_mul_is w128 c.args.a c.args.b c.ranges.a c.ranges.b
