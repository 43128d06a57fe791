use Rattle.std.proofs.Common.{arith, ◌∙◌, ap, length}
use Rattle.colored_copier.proofs.Popped.{idle_count, idle_are}
use Rattle.colored_copier.proofs.crew.Crew.new.Goals as goal

pub invariant_of-result : goal.invariant_of-result
invariant_of-result g c = (
  omega (arith, c.requires.copies.0, c.len-workers.ensures),
  omega (arith, c.requires.copies.1, c.len-workers.ensures),
  record {
    seats = c.in-Ok.seats.ok.0 ∙ ap length c.in-Ok.ensures.ok.2 ∙ idle_count c.in-Ok.pool.table c.len-workers.result;
    idle = idle_are c.in-Ok.pool.table c.len-workers.result c.in-Ok.seats.items c.in-Ok.ensures.ok.2;
    copies = omega (arith, c.len-workers.ensures);
  },
)
