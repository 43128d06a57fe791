use Rattle.std.proofs.Common.{◌≡◌, ◌+◌, ◌∙◌, ℕ, List, arith, map, subst, sym, refl, length}
use Rattle.colored_copier.specs.Plans.{In, row_number}
use Rattle.colored_copier.specs.Places.{IsPlaced, AddsItem}
use Rattle.colored_copier.proofs.Placed.{one_placed}
use Rattle.colored_copier.proofs.places.PlaceLists.of.Goals as goal

pub add_item-requires-clause-among : goal.add_item-requires-clause-among
add_item-requires-clause-among g c =
    λ row h. subst (In row) (sym (c.deref.ensures.value ∙ c.in_ok-numbers.ensures))
    (c.requires.among c.loop-item.item row (omega (arith, c.loop-item-test.true, c.items-item-end.ensures)) (subst (In row) c.rows.ensures h))

pub loop-item-preserved : goal.loop-item-preserved
loop-item-preserved g c =
    one_placed (g.J.RowJob.rows_of c.args.job.now) (map row_number c.args.rows.now) c.loop-item.places.starts.items c.loop-item.places.places.items c.add_item.new.self.starts.items c.add_item.new.self.places.items c.rows.result.now c.loop-item.item (c.loop-item.item + 1) refl c.loop-item.invariant c.rows.ensures
    c.in_ok-add_item.ensures.starts
    (subst (λ (l : List ℕ). AddsItem l c.rows.result.now (length c.rows.result.now) c.loop-item.places.places.items c.add_item.new.self.places.items) (c.deref.ensures.value ∙ c.in_ok-numbers.ensures) c.in_ok-add_item.ensures.places)

pub returns : goal.returns
returns g c =
    let all : c.loop-item.item ≡ g.J.RowJob.count c.args.job.now = omega (arith, c.loop-item-test.false, c.loop-item.auto.item-end, c.items-item-end.ensures) in
    subst (λ (n : ℕ). IsPlaced (g.J.RowJob.rows_of c.args.job.now) (map row_number c.args.rows.now) n c.loop-item.places.starts.items c.loop-item.places.places.items) all c.loop-item.invariant
