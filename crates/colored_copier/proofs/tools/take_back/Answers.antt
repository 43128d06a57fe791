use Rattle.std.proofs.Common.{arith, ◌∙◌, sym, subst}
use Rattle.std.specs.List.{All}
use Rattle.std.proofs.lemmas.List.Elements.{All-push}
use Rattle.colored_copier.proofs.Popped.{finished_popped, done_more, over_more, idle_more}
use Rattle.colored_copier.proofs.tools.take_back.Goals as goal

pub loop-hand-preserved : goal.loop-hand-preserved
loop-hand-preserved g c =
    let was = c.loop-hand.invariant in
    let p = finished_popped (λ h. h.pass) (λ h. h.scratch) (λ h. g.J.RowJob.has_room c.args.job.now h.copy) c.args.round.now c.args.pool.now.table c.loop-hand.hands.items c.pop.new.self.items c.in-Some.hand c.in-Some.ensures.items was.hands in
    record {
      hands = p.0;
      done = done_more c.args.round.now.table c.loop-hand.passes.items c.push_reserved.new.self.items c.in-Some.hand.pass c.push_reserved.ensures.items was.done p.1.of_round.0 p.1.free;
      over = over_more (λ h. h.pass) c.loop-hand.hands.items c.pop.new.self.items c.in-Some.hand c.loop-hand.passes.items c.push_reserved.new.self.items c.in-Some.ensures.items c.push_reserved.ensures.items was.over;
      count = omega (arith, was.count, c.in-Some.ensures.cases, c.push_reserved.ensures.len);
      room = c.push_reserved.ensures.capacity ∙ was.room;
      idle = idle_more c.args.pool.now.table c.loop-hand.tools.seats.items c.push_reserved-in-Some.new.self.items c.in-Some.hand.scratch c.push_reserved-in-Some.ensures.items was.idle p.1.of_pool p.1.empty;
      kept = subst (All (g.J.RowJob.has_room c.args.job.now)) (sym c.push_reserved-in-Some-2.ensures.items) (All-push (g.J.RowJob.has_room c.args.job.now) c.loop-hand.tools.copies.items c.in-Some.hand.copy was.kept p.2);
      seats = omega (arith, was.seats, c.push_reserved.ensures.len, c.push_reserved-in-Some.ensures.len);
      copies = omega (arith, was.copies, c.push_reserved.ensures.len, c.push_reserved-in-Some-2.ensures.len);
      seat_room = c.push_reserved-in-Some.ensures.capacity ∙ was.seat_room;
      copy_room = c.push_reserved-in-Some-2.ensures.capacity ∙ was.copy_room;
    }
