use Rattle.std.proofs.Common.{rules, arith, ◌≡◌, ◌≢◌, ◌<◌, ◌≤◌, ◌+◌, ◌++◌, ◌∷◌, [], true, false, ℕ, ap, sym, ◌∙◌, get_or, length, get_or-set_same, get_or-set_other}
use Rattle.std.specs.Slots.{slots_items, slots_filled, slots_counts}
use mathlib.Core.Option.{some}
use mathlib.Core.Logic.{dite}
use native.Mathlib.Decide.{ℕ_discrete}
use lib.ListN.{get_elem?}
use Rattle.colored_copier.proofs.Dones.{one_taken}
use Rattle.colored_copier.proofs.moves.take_all.Goals as goal

pub loop-k-preserved : goal.loop-k-preserved
loop-k-preserved g c =
    let k = c.loop-k.k in
    let was = c.loop-k.invariant in
    let others = c.take.ensures.others in
    let old = slots_filled c.loop-k.closed.slots in
    let long : k < length old = omega (arith, (slots_counts c.loop-k.closed.slots).1, was.0, c.loop-k-test.true) in
    let at : get_elem? (slots_items c.args.closed.slots) k ≡ some c.take.result = ap (λ l. get_elem? l k) (sym was.1) ∙ c.take.ensures.value in (
      others.2 ∙ was.0,
      others.0 ∙ was.1,
      (λ j le lt. ap (λ l. get_or l j false) others.1 ∙ (get_or-set_other old k j false false (λ e. omega arith) ∙ was.2 j (omega arith) lt)),
      (λ j lt. ap (λ l. get_or l j false) others.1 ∙ dite (ℕ_discrete j k)
          (λ e. ap (λ (i : ℕ). get_or (Rattle.std.proofs.Common.set old k false) i false) e ∙ get_or-set_same old k false false long)
          (λ ne. get_or-set_other old k j false false ne ∙ was.3 j (omega arith))),
      c.push_reserved.ensures.items ∙ (ap (λ l. l ++ c.take.result ∷ []) was.4 ∙ sym (one_taken (slots_items c.args.closed.slots) k c.take.result at)),
      omega (arith, c.push_reserved.ensures.len, was.5),
      omega (arith, c.push_reserved.ensures.capacity, was.6),
    )
