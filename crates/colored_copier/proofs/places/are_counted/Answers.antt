use Rattle.std.proofs.Common.{◌-◌, length, arith}
use Rattle.colored_copier.proofs.Search.{ends_at}
use Rattle.colored_copier.proofs.places.are_counted.Goals as goal

pub returns : goal.returns
returns g c = λ e. ends_at c.args.rows.now (length c.args.rows.now - 1) _ c.requires (omega (arith, c.if-rows-eq0.false)) c.index-rows-rows.is (grind (arith, e))
