use Rattle.std.proofs.Common.{◌≡◌, ◌∙◌, ℕ, ◌+◌, List, ap, sym, length, slice_index, arith, subst, take, refl}
use Rattle.std.specs.List.{list_any}
use Rattle.std.proofs.lemmas.List.{take_all}
use Rattle.std.proofs.lemmas.List.Folds.{list_any_more}
use Rattle.conflict_coloring.specs.Conflict.{has, rows_of}
use Rattle.conflict_coloring.specs.Steps.{Marks}
use Rattle.conflict_coloring.proofs.Marked.{marks_none, marks_more, has_at}
use Rattle.conflict_coloring.proofs.zones.mark_near.Goals as goal

pub mark_row-requires-clause-within : goal.mark_row-requires-clause-within
mark_row-requires-clause-within c =
    let rows : List ℕ = c.rows-row-items.result.now in
    c.requires.table.rows c.args.cell (slice_index rows c.loop-row.row-index) (sym (ap (λ xs. has xs (slice_index rows c.loop-row.row-index)) c.rows-row-items.ensures) ∙ has_at rows c.loop-row.row-index c.loop-row-test.true)

pub loop-row-init : goal.loop-row-init
loop-row-init c = record {
  marks = marks_none (λ d. list_any (has (rows_of c.args.conflicts.now d)) (take 0 c.rows-row-items.result.now)) (length c.args.conflicts.now) c.args.zones.now c.args.next.now.items 4294967295 c.args.zone (λ d. refl) c.requires.noted_within;
  seen_each = c.requires.seen_each;
  seen = c.requires.seen;
}

pub loop-row-preserved : goal.loop-row-preserved
loop-row-preserved c =
    let cells : List (List ℕ) = c.args.conflicts.now in
    let rows : List ℕ = c.rows-row-items.result.now in
    let i : ℕ = c.loop-row.row-index in
    record {
      marks =
          marks_more (λ d. list_any (has (rows_of cells d)) (take i rows)) (λ d. has (rows_of cells d) (slice_index rows i)) (λ d. list_any (has (rows_of cells d)) (take (i + 1) rows)) (length cells) c.args.zones.now c.loop-row.zones
          c.mark_row.new.zones c.args.next.now.items c.loop-row.next.items c.mark_row.new.next.items 4294967295 c.args.zone c.requires.real (λ d w. list_any_more (has (rows_of cells d)) rows i 0 c.loop-row-test.true)
          c.loop-row.invariant.marks c.in_ok-mark_row.ensures.marks;
      seen_each = c.in_ok-mark_row.ensures.seen_each;
      seen = c.in_ok-mark_row.ensures.seen;
    }

pub returns-clause-marks : goal.returns-clause-marks
returns-clause-marks c =
    let cells : List (List ℕ) = c.args.conflicts.now in
    let rows : List ℕ = c.rows-row-items.result.now in
    let whole : take c.loop-row.row-index rows ≡ rows = take_all c.loop-row.row-index rows (omega arith) in
    let P : List ℕ → Type 0 = λ xs. Marks (λ d. list_any (has (rows_of cells d)) xs) (length cells) c.args.zones.now c.loop-row.zones c.args.next.now.items c.loop-row.next.items 4294967295 c.args.zone in
    subst P (whole ∙ c.rows-row-items.ensures) c.loop-row.invariant.marks
