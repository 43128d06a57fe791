use Rattle.std.proofs.Common.{arith, ap, sym, subst, ◌∙◌, ◌≡◌, vec_len}
use Rattle.colored_copier.specs.Phases.{Free}
use Rattle.colored_copier.specs.Ending.{AreDone}
use Rattle.colored_copier.specs.Conditions.{Worked}
use Rattle.colored_copier.proofs.Dones.{some_over, over_few, over_popped, none_left, popped_done}
use Rattle.colored_copier.proofs.round.Round.close.Goals as goal

pub loop-pass-init : goal.loop-pass-init
loop-pass-init g c =
    let both = popped_done c.self.inside.table.table.shared.table_id _ _ _ c.in-Some.ensures.items (subst (λ r. AreDone r.table c.args.passes.items) (sym c.self.view_is) c.requires.done) in
    let i = c.into_seat-seat.ensures in (
      i.0 ∙ both.1.0,
      subst Free (sym i.2.2) both.1.1,
      i.1,
      omega (arith, i.2.0, c.in-Some.ensures.cases, c.requires.all, ap (λ r. r.key.seats) c.self.view_is),
      over_few _ _ _ i.2.0 i.2.1,
      omega (arith, over_popped _ _ _ _ c.in-Some.ensures.items i.2.1, some_over c.args.passes.items c.requires.over.0 c.requires.over.1 c.requires.over.2 c.requires.over.3 c.requires.over.4),
      both.0,
    )

pub into_seat-requires-after_bounds : goal.into_seat-requires-after_bounds
into_seat-requires-after_bounds g c κs within = (popped_done c.self.inside.table.table.shared.table_id _ _ _ c.in-Some-pop.ensures.items c.loop-pass.invariant.6).1.1

pub join_pass-requires-clause-tables : goal.join_pass-requires-clause-tables
join_pass-requires-clause-tables g c κs within =
    let pass = (popped_done c.self.inside.table.table.shared.table_id _ _ _ c.in-Some-pop.ensures.items c.loop-pass.invariant.6).1 in
    (c.loop-pass.invariant.0, c.into_seat.ensures.0 ∙ pass.0)

pub join_pass-requires-clause-free : goal.join_pass-requires-clause-free
join_pass-requires-clause-free g c κs within =
    let pass = (popped_done c.self.inside.table.table.shared.table_id _ _ _ c.in-Some-pop.ensures.items c.loop-pass.invariant.6).1 in
    let i = c.into_seat.ensures in
    (c.loop-pass.invariant.1, subst Free (sym i.2.2) pass.1, i.1)

pub join_pass-requires-clause-overs : goal.join_pass-requires-clause-overs
join_pass-requires-clause-overs g c κs within = let i = c.into_seat.ensures in (c.loop-pass.invariant.4, over_few _ _ _ i.2.0 i.2.1)

pub loop-pass-preserved : goal.loop-pass-preserved
loop-pass-preserved g c =
    let was = c.loop-pass.invariant in
    let rest = (popped_done c.self.inside.table.table.shared.table_id _ _ _ c.in-Some-pop.ensures.items was.6).0 in
    let i = c.into_seat.ensures in
    let e = c.join_pass.ensures in (
      e.same ∙ was.0,
      subst Free (sym (ap (λ m. m.0.phase) e.both)) was.1,
      ap (λ m. m.1) e.both ∙ was.2,
      omega (arith, ap (λ m. m.0.parts) e.both, i.2.0, was.3, c.in-Some-pop.ensures.cases),
      omega (arith, ap (λ m. m.0.parts) e.both, ap (λ m. m.0.overs) e.both, was.4, over_few _ _ _ i.2.0 i.2.1),
      omega (arith, ap (λ m. m.0.overs) e.both, was.5, over_popped _ _ _ _ c.in-Some-pop.ensures.items i.2.1),
      rest,
    )

pub end-requires-clause-seat : goal.end-requires-clause-seat
end-requires-clause-seat g c κs within =
    let was = c.loop-pass.invariant in
    let empty : vec_len c.loop-pass.passes ≡ 0 = omega (arith, c.in_default-pop.ensures.cases) in
    (was.0, omega (arith, was.3, empty), was.1, omega (arith, was.5, none_left c.loop-pass.passes.items (sym c.loop-pass.passes.ok.0 ∙ empty)))

pub end-requires-clause-suits : goal.end-requires-clause-suits
end-requires-clause-suits g c κs within = c.self.invariant.0.suits

pub end-requires-clause-items : goal.end-requires-clause-items
end-requires-clause-items g c κs within = let sound = c.self.invariant.0 in sym sound.items_is ∙ sound.count_is

pub returns : goal.returns
returns g c = subst (λ r. Worked g.J.RowJob.count g.J.RowJob.rows_of g.J.RowJob.row_step r.key.job.value r.key.rows.value.items c.end.result.items) c.self.view_is c.end.ensures
