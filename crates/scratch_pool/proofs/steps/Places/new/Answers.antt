use Rattle.std.proofs.Common.{arith}
use Rattle.scratch_pool.proofs.Moves.{starts}
use Rattle.scratch_pool.proofs.steps.Places.new.Goals as goal

pub new-requires : goal.new-requires
new-requires g c =
    let had = c.requires in
    starts c.args.seats _ c.len-count.result c.args.objects.items had.objects.0 had.objects.1 (omega (arith, c.len-count.ensures)) (omega (arith, c.len-count.ensures, had.count.1)) c.all_home-bits.ensures
