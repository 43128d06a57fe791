use Rattle.std.proofs.Common.{arith, ◌∙◌, Some}
use Rattle.std.proofs.lemmas.List.Elements.{All-pop}
use Rattle.colored_copier.specs.Crews.{IsFreshPass, IsIdleSeat}
use Rattle.colored_copier.proofs.Popped.{ready_more}
use Rattle.colored_copier.proofs.tools.hand_out.Goals as goal

pub loop-pass-preserved : goal.loop-pass-preserved
loop-pass-preserved g c =
    let was = c.loop-pass.invariant in
    let p = All-pop (IsFreshPass c.args.round.now) c.loop-pass.passes.items c.pop.new.self.items (Some c.in-Some.pass) c.in-Some.ensures.items was.passes in
    let s = All-pop (IsIdleSeat c.args.pool.now.table) c.loop-pass.tools.seats.items c.pop-in-Some.new.self.items (Some c.in-Some-pop.scratch) c.in-Some-pop.ensures.items was.seats in
    let k = All-pop (g.J.RowJob.has_room c.args.job.now) c.loop-pass.tools.copies.items c.pop-in-Some-2.new.self.items (Some c.in-Some-pop-2.copy) c.in-Some-pop-2.ensures.items was.copies in
    record {
      passes = p.0;
      seats = s.0;
      copies = k.0;
      ready = ready_more (λ h. h.pass) (λ h. h.scratch) (λ h. g.J.RowJob.has_room c.args.job.now h.copy) c.args.round.now c.args.pool.now.table c.loop-pass.hands.items c.push_reserved.new.self.items _ c.push_reserved.ensures.items was.ready p.1 s.1 k.1;
      as_many = omega (arith, was.as_many, c.in-Some.ensures.cases, c.in-Some-pop.ensures.cases);
      copies_too = omega (arith, was.copies_too, c.in-Some.ensures.cases, c.in-Some-pop-2.ensures.cases);
      count = omega (arith, was.count, c.in-Some.ensures.cases, c.push_reserved.ensures.len);
      room = c.push_reserved.ensures.capacity ∙ was.room;
      kept = c.in-Some.ensures.capacity ∙ was.kept;
      seat_room = c.in-Some-pop.ensures.capacity ∙ was.seat_room;
      copy_room = c.in-Some-pop-2.ensures.capacity ∙ was.copy_room;
    }
