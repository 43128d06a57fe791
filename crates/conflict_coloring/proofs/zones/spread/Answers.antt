use Rattle.std.proofs.Common.{◌≡◌, ◌≢◌, ◌∙◌, ℕ, ◌<◌, ◌+◌, List, [], sym, length, slice_index, arith, subst, take, refl}
use Rattle.std.specs.List.{list_any}
use Rattle.std.proofs.lemmas.List.{take_all}
use Rattle.std.proofs.lemmas.List.Elements.{All-nil}
use Rattle.std.proofs.lemmas.List.Folds.{list_any_more}
use Rattle.conflict_coloring.specs.Conflict.{conflict}
use Rattle.conflict_coloring.specs.Steps.{Marks}
use Rattle.conflict_coloring.proofs.Marked.{marks_conflict, marks_none, marks_more, marks_kept, spreads_from}
use Rattle.conflict_coloring.proofs.zones.spread.Goals as goal

pub loop-c-init : goal.loop-c-init
loop-c-init c =
    let cells : List (List ℕ) = c.args.conflicts.now in
    let P : List ℕ → Type 0 = λ xs. Marks (λ d. list_any (λ x. conflict cells x d) (take 0 c.args.last.now)) (length cells) c.args.zones.now c.args.zones.now [] xs 4294967295 c.args.zone in
    record {
      marks =
          subst P (sym c.new-next.ensures.items)
          (marks_none (λ d. list_any (λ x. conflict cells x d) (take 0 c.args.last.now)) (length cells) c.args.zones.now [] 4294967295 c.args.zone (λ d. refl) (All-nil (λ x. x < length cells)));
      seen_each = c.requires.seen_each;
      seen = c.requires.seen;
    }

pub loop-c-preserved : goal.loop-c-preserved
loop-c-preserved c =
    let cells : List (List ℕ) = c.args.conflicts.now in
    let last : List ℕ = c.args.last.now in
    let i : ℕ = c.loop-c.c-index in
    let x : ℕ = slice_index last i in
    let inside : x < length cells = c.requires.within i 0 c.loop-c-test.true in
    let had : slice_index c.args.zones.now x ≢ 4294967295 = c.requires.zoned i 0 c.loop-c-test.true in
    let kept : slice_index c.loop-c.zones x ≡ slice_index c.args.zones.now x =
    marks_kept (λ d. list_any (λ y. conflict cells y d) (take i last)) (length cells) c.args.zones.now c.loop-c.zones [] c.loop-c.next.items 4294967295 c.args.zone x c.loop-c.invariant.marks inside had in
    record {
      marks =
          marks_more (λ d. list_any (λ y. conflict cells y d) (take i last)) (λ d. conflict cells x d) (λ d. list_any (λ y. conflict cells y d) (take (i + 1) last)) (length cells) c.args.zones.now c.loop-c.zones c.mark_near.new.zones []
          c.loop-c.next.items c.mark_near.new.next.items 4294967295 c.args.zone c.requires.real (λ d w. list_any_more (λ y. conflict cells y d) last i 0 c.loop-c-test.true) c.loop-c.invariant.marks
          (marks_conflict cells c.loop-c.zones c.mark_near.new.zones c.loop-c.next.items c.mark_near.new.next.items x 4294967295 c.args.zone (λ e. had (sym kept ∙ e)) c.in_ok-mark_near.ensures.marks);
      seen_each = c.in_ok-mark_near.ensures.seen_each;
      seen = c.in_ok-mark_near.ensures.seen;
    }

pub returns-clause-spreads : goal.returns-clause-spreads
returns-clause-spreads c =
    let cells : List (List ℕ) = c.args.conflicts.now in
    let last : List ℕ = c.args.last.now in
    let whole : take c.loop-c.c-index last ≡ last = take_all c.loop-c.c-index last (omega arith) in
    let P : List ℕ → Type 0 = λ xs. Marks (λ d. list_any (λ y. conflict cells y d) xs) (length cells) c.args.zones.now c.loop-c.zones [] c.loop-c.next.items 4294967295 c.args.zone in
    spreads_from cells c.args.zones.now c.loop-c.zones last c.loop-c.next.items 4294967295 c.args.zone (subst P whole c.loop-c.invariant.marks)
