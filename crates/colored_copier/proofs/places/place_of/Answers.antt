use Rattle.colored_copier.proofs.Search.{never_missed, rises_by, hit}
use Rattle.colored_copier.proofs.places.place_of.Goals as goal

pub unreachable-requires : goal.unreachable-requires
unreachable-requires c = never_missed c.args.numbers.now c.args.row c.in-Err.field-0 c.requires.1 (c.in-Err.ensures.position (rises_by c.args.numbers.now c.args.row c.requires.0))

pub returns : goal.returns
returns c = hit c.args.numbers.now c.args.row c.in-Ok.place c.in-Ok.ensures.bound c.in-Ok.ensures.ok
