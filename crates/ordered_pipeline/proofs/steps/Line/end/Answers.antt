use Rattle.std.proofs.Common.{arith, ap, sym, subst, ◌∙◌, ◌≡◌, ◌<◌}
use Rattle.std.specs.Slots.{slots_items}
use mathlib.Core.Option.{some-injective}
use lib.ListN.{get_elem?}
use Rattle.ordered_pipeline.specs.Fold.{fold}
use Rattle.ordered_pipeline.proofs.Ends.{ends}
use Rattle.ordered_pipeline.proofs.Slotted.{got, copy_same, state_same}
use Rattle.ordered_pipeline.proofs.steps.Line.end.Goals as goal

pub take_all-requires-clause-copies : goal.take_all-requires-clause-copies
take_all-requires-clause-copies g c = λ k lt.
    let key = c.args.self.table.shared.key in
    let some-queue : 0 < key.queue = omega (arith, c.args.self.few.2, c.args.self.sized.2) in
    let h = (ends key.seats key.items key.queue (g.J.Job.has_room key.job.value) (g.J.Job.stands key.job.value) (fold g.J.Job.step key.job.value key.state.value) some-queue _ c.args.seat.me.0 _ _ c.requires.seat.1 c.requires.seat.2 c.close_with.ensures.values.2).copies k (omega (arith, lt, c.args.self.few.2)) in
    (h.0, h.1)

pub take_all-requires-clause-state : goal.take_all-requires-clause-state
take_all-requires-clause-state g c =
    let key = c.args.self.table.shared.key in
    let some-queue : 0 < key.queue = omega (arith, c.args.self.few.2, c.args.self.sized.2) in
    let h = (ends key.seats key.items key.queue (g.J.Job.has_room key.job.value) (g.J.Job.stands key.job.value) (fold g.J.Job.step key.job.value key.state.value) some-queue _ c.args.seat.me.0 _ _ c.requires.seat.1 c.requires.seat.2 c.close_with.ensures.values.2).state in
    (_, ap (get_elem? (slots_items c.close_with.result.slots)) (sym c.args.self.few.2) ∙ h)

pub returns-clause-copied : goal.returns-clause-copied
returns-clause-copied g c =
    let key = c.args.self.table.shared.key in
    let some-queue : 0 < key.queue = omega (arith, c.args.self.few.2, c.args.self.sized.2) in
    let h = (ends key.seats key.items key.queue (g.J.Job.has_room key.job.value) (g.J.Job.stands key.job.value) (fold g.J.Job.step key.job.value key.state.value) some-queue _ c.args.seat.me.0 _ _ c.requires.seat.1 c.requires.seat.2 c.close_with.ensures.values.2).copied in
    sym (got _ 8 _ 0 c.take_all.ensures.copied) ∙ h

pub returns-clause-over : goal.returns-clause-over
returns-clause-over g c = λ over.
    let key = c.args.self.table.shared.key in
    let some-queue : 0 < key.queue = omega (arith, c.args.self.few.2, c.args.self.sized.2) in
    let e = ends key.seats key.items key.queue (g.J.Job.has_room key.job.value) (g.J.Job.stands key.job.value) (fold g.J.Job.step key.job.value key.state.value) some-queue _ c.args.seat.me.0 _ _ c.requires.seat.1 c.requires.seat.2 c.close_with.ensures.values.2 in
    sym (got _ 8 _ 0 c.take_all.ensures.copied) ∙ (e.copied ∙ e.over over)

pub returns-clause-state : goal.returns-clause-state
returns-clause-state g c =
    let key = c.args.self.table.shared.key in
    let some-queue : 0 < key.queue = omega (arith, c.args.self.few.2, c.args.self.sized.2) in
    let e = ends key.seats key.items key.queue (g.J.Job.has_room key.job.value) (g.J.Job.stands key.job.value) (fold g.J.Job.step key.job.value key.state.value) some-queue _ c.args.seat.me.0 _ _ c.requires.seat.1 c.requires.seat.2 c.close_with.ensures.values.2 in
    let copied : c.take_all.result.copied ≡ c.args.seat.me.0.drawn = sym (got _ 8 _ 0 c.take_all.ensures.copied) ∙ e.copied in
    state_same _ _ (some-injective _ _ (sym c.take_all.ensures.state ∙ (ap (get_elem? (slots_items c.close_with.result.slots)) (sym c.args.self.few.2) ∙ e.state)))
    ∙ ap (fold g.J.Job.step key.job.value key.state.value) (sym copied)

pub returns-clause-copies : goal.returns-clause-copies
returns-clause-copies g c =
    let key = c.args.self.table.shared.key in
    let some-queue : 0 < key.queue = omega (arith, c.args.self.few.2, c.args.self.sized.2) in
    let e = ends key.seats key.items key.queue (g.J.Job.has_room key.job.value) (g.J.Job.stands key.job.value) (fold g.J.Job.step key.job.value key.state.value) some-queue _ c.args.seat.me.0 _ _ c.requires.seat.1 c.requires.seat.2 c.close_with.ensures.values.2 in
    let t = c.take_all.ensures.copies in (
      t.0 ∙ sym c.args.self.few.2,
      λ k d lt.
          let below : k < c.args.self.queue = omega (arith, lt, t.0, c.take_all.result.copies.ok.0) in
          let h = e.copies k (omega (arith, below, c.args.self.few.2)) in
          subst (g.J.Job.has_room key.job.value) (copy_same _ _ (some-injective _ _ (sym h.1 ∙ t.1 k d below))) h.2,
    )
