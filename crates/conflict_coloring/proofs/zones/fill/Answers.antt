use Rattle.std.proofs.Common.{◌≡◌, ◌≢◌, Bool, ◌==◌, ℕ, ◌+◌, ◌<◌, arith, List, [], ◌∷◌, length, slice_index, slice_set, false, sym, ◌∙◌, ap, subst}
use Rattle.std.specs.Prelude.{All}
use Rattle.std.proofs.lemmas.Grind.{common_steps}
use Rattle.conflict_coloring.specs.Steps.{Spreads, AreSeen}
use Rattle.std.proofs.Math.ListN.{length-replicate}
use Rattle.conflict_coloring.proofs.Marked.{seen_start, seen_set, last_zoned}
use Rattle.conflict_coloring.proofs.Spreads.{IsAtZone, at_start, at_near, at_least, at_end, at_return, some_in}
use Rattle.conflict_coloring.proofs.zones.fill.Goals as goal
use Rattle.conflict_coloring.proofs.zones.fill.Goals.{then-is_empty+else-least-count+in_ok-push, else-is_empty}

pub spread-requires-clause-zoned : goal.spread-requires-clause-zoned
spread-requires-clause-zoned c =
    let zone : ℕ = c.loop-zone.zone in
    let real : zone < 4294967295 = let n = c.loop-zone.invariant.counted in let t = c.loop-zone-test.true in let f = c.requires.few in omega arith in
    let P : List ℕ → Type 0 = λ xs. All (λ x. slice_index c.loop-zone.zones x ≢ 4294967295) xs in
    subst P (sym c.deref.ensures.value) (last_zoned c.args.conflicts.now c.loop-zone.zones c.loop-zone.last.items 4294967295 zone real c.loop-zone.invariant.at.last)

pub loop-zone-init : goal.loop-zone-init
loop-zone-init c =
    let P : List ℕ → Type 0 = λ xs. IsAtZone c.args.conflicts.now xs [] 0 4294967295 0 in
    let Q : List ℕ → Type 0 = λ xs. IsAtZone c.args.conflicts.now c.args.zones.now xs 0 4294967295 0 in
    record {
      counted = grind (arith, common_steps);
      at = subst Q (sym c.new-last.ensures.items) (subst P (sym c.requires.none) (at_start c.args.conflicts.now 4294967295 c.requires.few));
      seen_each = ap length c.requires.unseen ∙ length-replicate (length c.args.starts.now) false;
      seen =
          let S : List Bool → Type 0 = λ xs. AreSeen c.args.conflicts.now c.args.zones.now 4294967295 xs in
          subst S (sym c.requires.unseen) (seen_start c.args.conflicts.now c.args.zones.now 4294967295 (length c.args.starts.now));
    }

pub loop-zone-preserved : goal.loop-zone-preserved
loop-zone-preserved c =
    let cells : List (List ℕ) = c.args.conflicts.now in
    let zone : ℕ = c.loop-zone.zone in
    let real : zone < 4294967295 = let n = c.loop-zone.invariant.counted in let t = c.loop-zone-test.true in let f = c.requires.few in omega arith in
    let L : List ℕ → Type 0 = λ xs. Spreads cells c.loop-zone.zones c.spread.new.zones xs c.in_ok-next.next.items 4294967295 zone in
    let s : L c.loop-zone.last.items = subst L c.deref.ensures.value c.in_ok-next.ensures.spreads in
    record {
      counted = c.loop-zone.invariant.counted;
      at =
          elim c.if-is_empty.branch [
            | then-is_empty+else-least-count+in_ok-push w ↦
                let e : c.in_ok-next.next.items ≡ [] = grind (arith, common_steps) in
                let M : List ℕ → Type 0 = λ xs. Spreads cells c.loop-zone.zones c.spread.new.zones c.loop-zone.last.items xs 4294967295 zone in
                let done : IsAtZone cells (slice_set c.spread.new.zones w.first_without-least.result zone) (w.first_without-least.result ∷ []) w.first_without-least.result 4294967295 (zone + 1) =
                at_least cells c.loop-zone.zones c.spread.new.zones c.loop-zone.last.items c.loop-zone.least w.first_without-least.result 4294967295 zone real c.loop-zone.invariant.at (subst M e s)
                (grind (arith, common_steps)) (w.first_without-least.ensures.at (grind (arith, common_steps))) w.first_without-least.ensures.before in
                let a : c.if-is_empty.zones ≡ slice_set c.spread.new.zones w.first_without-least.result zone = grind (arith, common_steps) in
                let b : c.if-is_empty.next.items ≡ w.first_without-least.result ∷ [] = grind (arith, common_steps) in
                let d : c.if-is_empty.least ≡ w.first_without-least.result = grind (arith, common_steps) in
                rw (a, b, d) done
            | else-is_empty w ↦
                let a : c.if-is_empty.zones ≡ c.spread.new.zones = grind arith in
                let b : c.if-is_empty.next.items ≡ c.in_ok-next.next.items = grind arith in
                let d : c.if-is_empty.least ≡ c.loop-zone.least = grind arith in
                let some : (length c.in_ok-next.next.items == 0) ≡ false = grind (arith, common_steps) in
                rw (a, b, d)
                (at_near cells c.loop-zone.zones c.spread.new.zones c.loop-zone.last.items c.in_ok-next.next.items c.loop-zone.least 4294967295 zone (slice_index c.in_ok-next.next.items 0) real c.loop-zone.invariant.at s
                (some_in c.in_ok-next.next.items some))
          ];
      seen_each = c.in_ok-next.ensures.seen_each;
      seen =
          elim c.if-is_empty.branch [
            | then-is_empty+else-least-count+in_ok-push w ↦
                let a : c.if-is_empty.zones ≡ slice_set c.spread.new.zones w.first_without-least.result zone = grind (arith, common_steps) in
                let room : w.first_without-least.result < length c.spread.new.zones = grind (arith, common_steps) in
                let S : List ℕ → Type 0 = λ xs. AreSeen cells xs 4294967295 c.spread.new.seen in
                subst S (sym a) (seen_set cells c.spread.new.zones c.spread.new.seen w.first_without-least.result 4294967295 zone real c.in_ok-next.ensures.seen room)
            | else-is_empty w ↦
                let a : c.if-is_empty.zones ≡ c.spread.new.zones = grind arith in
                let S : List ℕ → Type 0 = λ xs. AreSeen cells xs 4294967295 c.spread.new.seen in
                subst S (sym a) c.in_ok-next.ensures.seen
          ];
    }

pub returns-then-least-count : goal.returns-then-least-count
returns-then-least-count c =
    let cells : List (List ℕ) = c.args.conflicts.now in
    let zone : ℕ = c.loop-zone.zone in
    let L : List ℕ → Type 0 = λ xs. Spreads cells c.loop-zone.zones c.spread.new.zones xs c.in_ok-next.next.items 4294967295 zone in
    let s : L c.loop-zone.last.items = subst L c.deref.ensures.value c.in_ok-next.ensures.spreads in
    let e : c.in_ok-next.next.items ≡ [] = grind (arith, common_steps) in
    let M : List ℕ → Type 0 = λ xs. Spreads cells c.loop-zone.zones c.spread.new.zones c.loop-zone.last.items xs 4294967295 zone in
    at_return cells c.loop-zone.zones c.spread.new.zones c.loop-zone.last.items c.loop-zone.least 4294967295 zone c.loop-zone.invariant.at (subst M e s)
    (λ x w. c.first_without-least.ensures.before x (grind (arith, common_steps)))

pub returns : goal.returns
returns c =
    at_end c.args.conflicts.now c.loop-zone.zones c.loop-zone.last.items c.loop-zone.least 4294967295 c.loop-zone.zone c.loop-zone.invariant.at
    (let n = c.loop-zone.invariant.counted in omega arith)
