use Rattle.std.proofs.Common.{◌≡◌, ◌∙◌, ℕ, ◌<◌, ◌+◌, ◌==◌, ◌&&◌, ◌||◌, List, [], ◌∷◌, ap, sym, refl, true, length, slice_index, slice_set, take, arith}
use Rattle.std.specs.Prelude.{not}
use Rattle.std.proofs.lemmas.List.{take_all}
use Rattle.std.proofs.lemmas.List.Folds.{list_any_more}
use Rattle.std.specs.BTreeSet.{contains}
use Rattle.conflict_coloring.specs.Conflict.{has}
use Rattle.conflict_coloring.specs.Colours.{cells_of}
use Rattle.conflict_coloring.specs.Links.{is_bare}
use Rattle.conflict_coloring.specs.Near.{near_of}
use Rattle.conflict_coloring.specs.Board.{pair_cmp}
use Rattle.conflict_coloring.proofs.Marked.{has_at}
use Rattle.conflict_coloring.proofs.Members.{false_or_true}
use Rattle.conflict_coloring.proofs.Boards.{board_agree, bare_set, note_more, note_start, in_near}
use Rattle.conflict_coloring.proofs.dsatur.pick.Goals as goal

pub loop-other-init : goal.loop-other-init
loop-other-init c =
    let cells : List (List ℕ) = c.args.conflicts.now in
    let zone : List ℕ = cells_of c.args.zones.now c.args.zone in
    let old : List ℕ = c.args.colours.now in
    let x : ℕ = c.args.cell in
    let colour : ℕ = c.least_free-colour.result in
    let room : x < length old = let w = c.requires.within in let e = c.requires.coloured in omega arith in
    record {
      board =
          board_agree cells zone c.args.counts.now (λ d. is_bare zone old 4294967295 d && not (has (x ∷ []) d)) (is_bare zone (slice_set old x colour) 4294967295) c.args.used.now c.args.keys.now
          (λ d. bare_set zone old 4294967295 x colour d c.least_free-colour.ensures.real room) c.requires.board;
      used = λ d k. note_start (contains pair_cmp c.args.used.now (d, k)) (is_bare zone (slice_set old x colour) 4294967295 d && colour == k);
      kept = λ d f. refl;
    }

pub note-requires-clause-within : goal.note-requires-clause-within
note-requires-clause-within c =
    let items : List ℕ = c.list_at-other-items.result.now in
    let i : ℕ = c.loop-other.other-index in
    let e : items ≡ near_of c.args.conflicts.now c.args.zones.now c.args.cell = c.list_at-other-items.ensures ∙ c.requires.near.each c.args.cell c.requires.within in
    let n = in_near c.args.conflicts.now c.args.zones.now c.args.cell c.args.zone (slice_index items i) c.requires.zone (ap (λ xs. has xs (slice_index items i)) (sym e) ∙ has_at items i c.loop-other-test.true) in
    let f = n.2 in
    let g = c.requires.each in
    omega arith

pub note-requires-clause-zone : goal.note-requires-clause-zone
note-requires-clause-zone c =
    let items : List ℕ = c.list_at-other-items.result.now in
    let i : ℕ = c.loop-other.other-index in
    let e : items ≡ near_of c.args.conflicts.now c.args.zones.now c.args.cell = c.list_at-other-items.ensures ∙ c.requires.near.each c.args.cell c.requires.within in
    (in_near c.args.conflicts.now c.args.zones.now c.args.cell c.args.zone (slice_index items i) c.requires.zone (ap (λ xs. has xs (slice_index items i)) (sym e) ∙ has_at items i c.loop-other-test.true)).1

pub note-requires-clause-inside : goal.note-requires-clause-inside
note-requires-clause-inside c =
    let items : List ℕ = c.list_at-other-items.result.now in
    let i : ℕ = c.loop-other.other-index in
    let e : items ≡ near_of c.args.conflicts.now c.args.zones.now c.args.cell = c.list_at-other-items.ensures ∙ c.requires.near.each c.args.cell c.requires.within in
    (in_near c.args.conflicts.now c.args.zones.now c.args.cell c.args.zone (slice_index items i) c.requires.zone (ap (λ xs. has xs (slice_index items i)) (sym e) ∙ has_at items i c.loop-other-test.true)).0

pub loop-other-preserved : goal.loop-other-preserved
loop-other-preserved c =
    let items : List ℕ = c.list_at-other-items.result.now in
    let i : ℕ = c.loop-other.other-index in
    let zone : List ℕ = cells_of c.args.zones.now c.args.zone in
    let colour : ℕ = c.least_free-colour.result in
    record {
      board = c.in_ok-note.ensures.board;
      used = λ d k.
          note_more (contains pair_cmp c.note.new.used (d, k)) (contains pair_cmp c.loop-other.used (d, k)) (contains pair_cmp c.args.used.now (d, k)) (has (take i items) d) (has (take (i + 1) items) d) (colour == k)
          (is_bare zone (slice_set c.args.colours.now c.args.cell colour) 4294967295) (slice_index items i) d (c.in_ok-note.ensures.used d k) (c.loop-other.invariant.used d k) (list_any_more (λ y. y == d) items i 0 c.loop-other-test.true);
      kept = λ d f.
          let e : items ≡ near_of c.args.conflicts.now c.args.zones.now c.args.cell = c.list_at-other-items.ensures ∙ c.requires.near.each c.args.cell c.requires.within in
          let t : has zone (slice_index items i) ≡ true =
          (in_near c.args.conflicts.now c.args.zones.now c.args.cell c.args.zone (slice_index items i) c.requires.zone (ap (λ xs. has xs (slice_index items i)) (sym e) ∙ has_at items i c.loop-other-test.true)).0 in
          c.in_ok-note.ensures.kept d (λ same. false_or_true (has zone d) f (ap (has zone) same ∙ t)) ∙ c.loop-other.invariant.kept d f;
    }

pub returns-clause-used : goal.returns-clause-used
returns-clause-used c = λ d k.
    let items : List ℕ = c.list_at-other-items.result.now in
    let zone : List ℕ = cells_of c.args.zones.now c.args.zone in
    let colour : ℕ = c.least_free-colour.result in
    let whole : take c.loop-other.other-index items ≡ items = take_all c.loop-other.other-index items (omega arith) in
    let e : items ≡ near_of c.args.conflicts.now c.args.zones.now c.args.cell = c.list_at-other-items.ensures ∙ c.requires.near.each c.args.cell c.requires.within in
    c.loop-other.invariant.used d k
    ∙ ap (λ xs. contains pair_cmp c.args.used.now (d, k) || (has xs d && (is_bare zone (slice_set c.args.colours.now c.args.cell colour) 4294967295 d && colour == k))) (whole ∙ e)
