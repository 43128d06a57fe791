use Rattle.std.proofs.Common.{◌≡◌, ◌∙◌, ℕ, List, ap, sym, subst, length, take, drop, ◌++◌, arith}
use Rattle.std.proofs.lemmas.List.{take-append-le, take_all}
use Rattle.std.proofs.lemmas.List.FromFn.{length-range_with_len}
use Rattle.std.proofs.lemmas.Grind.{common_steps}
use Rattle.conflict_coloring.specs.Colours.{AreInZones}
use Rattle.conflict_coloring.proofs.Whole.{order_plain}
use Rattle.conflict_coloring.proofs.colors.inner.Goals as goal

pub order_by-requires-clause-one_each : goal.order_by-requires-clause-one_each
order_by-requires-clause-one_each c = ap length c.requires.numbers ∙ length-range_with_len 0 (length c.args.zones.now)

pub colour_all-requires-clause-cells : goal.colour_all-requires-clause-cells
colour_all-requires-clause-cells c = c.deref-2.ensures.value ∙ c.in_ok-order.ensures.cells ∙ order_plain c.args.zones.now c.args.numbers.now c.above-count.result c.requires.numbers

pub returns-clause-inner : goal.returns-clause-inner
returns-clause-inner c =
    let new : List ℕ = c.colour_all.new.colours in
    let items : List ℕ = c.in_ok-colours.colours.items in
    let n : c.in_ok-colours.colours.len ≡ length new = grind (arith, common_steps) in
    let same : take c.in_ok-colours.colours.len (new ++ drop (length new) items) ≡ new = take-append-le c.in_ok-colours.colours.len new (drop (length new) items) (omega arith) ∙ take_all c.in_ok-colours.colours.len new (omega arith) in
    let P : List ℕ → Type 0 = λ xs. AreInZones c.args.conflicts.now c.args.zones.now xs in
    subst P (sym same) c.in_ok-colour_all.ensures
