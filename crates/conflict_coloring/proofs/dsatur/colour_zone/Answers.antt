use Rattle.std.proofs.Common.{◌≡◌, ◌≢◌, ◌<◌, ◌≤◌, ◌-◌, ◌==◌, ◌&&◌, ◌||◌, ◌∙◌, ◌++◌, ◌∷◌, [], Bool, true, sym, ap, refl, subst, ℕ, List, length, slice_index, slice_set, take, arith}
use Rattle.std.specs.Prelude.{filter}
use Rattle.std.specs.BTreeSet.{BTreeSet, IsUpperBound, contains}
use Rattle.std.proofs.lemmas.Bool.{eqb-true}
use Rattle.std.proofs.lemmas.List.{take_all}
use Rattle.std.proofs.lemmas.Grind.{common_steps}
use Rattle.conflict_coloring.specs.Conflict.{conflict, has}
use Rattle.conflict_coloring.specs.Colours.{cells_of, colours_near, saturation, degree, Picks, IsRun}
use Rattle.conflict_coloring.specs.Links.{IsLinked, AreKeys, Keys, is_bare, key_of, key_cmp}
use Rattle.conflict_coloring.specs.Board.{pair_cmp, AreNoted}
use Rattle.conflict_coloring.proofs.Picks.{and_left, and_right}
use Rattle.conflict_coloring.proofs.Spreads.{without}
use Rattle.conflict_coloring.proofs.Runs.{linked_more}
use Rattle.conflict_coloring.proofs.Marked.{has_at}
use Rattle.conflict_coloring.proofs.Members.{false_or_true}
use Rattle.conflict_coloring.proofs.Zonewise.{in_zone, key_put, board_start, noted_start, keys_from, board_out, short_from, least_from, noted_more}
use Rattle.conflict_coloring.proofs.Chosen.{popped, zone_within, run_more, falls_at, linked_start, bare_start, same_key, is_pick, none_left, empty_list}
use Rattle.conflict_coloring.proofs.dsatur.colour_zone.Goals as goal

pub degree_at-degree-requires-clause-within : goal.degree_at-degree-requires-clause-within
degree_at-degree-requires-clause-within c =
    let xs : List ℕ = c.args.cells.now in
    let x : ℕ = slice_index xs c.loop-cell.cell-index in
    let n = in_zone c.args.zones.now c.args.zone x (ap (λ ys. has ys x) (sym c.requires.cells) ∙ has_at xs c.loop-cell.cell-index c.loop-cell-test.true) in
    let f = n.1 in
    let g = c.requires.each in
    omega arith

pub degree_at-degree-requires-clause-zone : goal.degree_at-degree-requires-clause-zone
degree_at-degree-requires-clause-zone c =
    let xs : List ℕ = c.args.cells.now in
    let x : ℕ = slice_index xs c.loop-cell.cell-index in
    (in_zone c.args.zones.now c.args.zone x (ap (λ ys. has ys x) (sym c.requires.cells) ∙ has_at xs c.loop-cell.cell-index c.loop-cell-test.true)).0

pub bounds-counts-cell : goal.bounds-counts-cell
bounds-counts-cell c =
    let xs : List ℕ = c.args.cells.now in
    let x : ℕ = slice_index xs c.loop-cell.cell-index in
    let n = in_zone c.args.zones.now c.args.zone x (ap (λ ys. has ys x) (sym c.requires.cells) ∙ has_at xs c.loop-cell.cell-index c.loop-cell-test.true) in
    let f = n.1 in
    let g = c.requires.each in
    let h = c.requires.sized in
    omega arith

pub loop-cell-preserved : goal.loop-cell-preserved
loop-cell-preserved c =
    let xs : List ℕ = c.args.cells.now in
    let i : ℕ = c.loop-cell.cell-index in
    let x : ℕ = slice_index xs i in
    let n = in_zone c.args.zones.now c.args.zone x (ap (λ ys. has ys x) (sym c.requires.cells) ∙ has_at xs i c.loop-cell-test.true) in
    let small : x ≤ 4294967295 = let f = n.1 in let g = c.requires.each in let h = c.requires.few in omega arith in
    key_put c.args.conflicts.now (cells_of c.args.zones.now c.args.zone) c.args.counts.now xs c.loop-cell.keys c.insert.new.self i (slice_index c.args.counts.now x) c.degree_at-degree.result c.loop-cell-test.true small refl
    c.degree_at-degree.ensures c.in_ok-insert.ensures.updates c.loop-cell.invariant

pub loop-key-init : goal.loop-key-init
loop-key-init c =
    let cells : List (List ℕ) = c.args.conflicts.now in
    let zone : List ℕ = cells_of c.args.zones.now c.args.zone in
    let xs : List ℕ = c.args.cells.now in
    let colours : List ℕ = c.args.colours.now in
    let whole : take c.loop-cell.cell-index xs ≡ zone = take_all c.loop-cell.cell-index xs (omega arith) ∙ c.requires.cells in
    let link : IsLinked zone colours 4294967295 [] = linked_start zone colours 4294967295 c.requires.bare in
    let keyed : (s m d : ℕ) → d ≤ 4294967295 → contains key_cmp c.loop-cell.keys (s, m, 4294967295 - d) ≡ (has zone d && (s == slice_index c.args.counts.now d && m == degree cells zone d)) =
    λ s m d le. c.loop-cell.invariant s m d le ∙ ap (λ ys. has ys d && (s == slice_index c.args.counts.now d && m == degree cells zone d)) whole in
    let P : Picks → Type 0 = λ ps. IsRun cells zone ps in
    let Q : Picks → Type 0 = λ ps. IsLinked zone colours 4294967295 ps in
    let R : Picks → Type 0 = λ ps. AreNoted cells ps (is_bare zone colours 4294967295) c.new-used.result in
    let none : P [] = λ i lt. absurd (omega arith) in
    record {
      run = subst P (sym c.new-picks.ensures.items) none;
      linked = subst Q (sym c.new-picks.ensures.items) link;
      board = board_start cells zone colours c.args.counts.now c.new-used.result c.loop-cell.keys c.new-used.ensures.empty (λ d. bare_start zone colours 4294967295 d c.requires.bare) c.requires.zero keyed;
      noted = subst R (sym c.new-picks.ensures.items) (noted_start cells (is_bare zone colours 4294967295) c.new-used.result c.new-used.ensures.empty);
      kept = λ d f. refl;
      kept_counts = λ d f. refl;
    }

pub pick-requires-clause-within : goal.pick-requires-clause-within
pick-requires-clause-within c =
    let cells : List (List ℕ) = c.args.conflicts.now in
    let zone : List ℕ = cells_of c.args.zones.now c.args.zone in
    let present : ℕ → Bool = is_bare zone c.loop-key.colours 4294967295 in
    let keys : AreKeys cells zone c.loop-key.picks.items present c.loop-key.keys =
    keys_from cells zone c.loop-key.counts present c.loop-key.picks.items c.loop-key.used c.loop-key.keys c.loop-key.invariant.board c.loop-key.invariant.noted in
    let p = popped cells zone c.loop-key.picks.items present c.loop-key.keys c.in-Some.key.0 c.in-Some.key.1 c.in-Some.key.2 keys (omega arith) c.in-Some.ensures.member in
    let w = zone_within c.args.zones.now c.args.zone (4294967295 - c.in-Some.key.2) (and_left (has zone (4294967295 - c.in-Some.key.2)) (slice_index c.loop-key.colours (4294967295 - c.in-Some.key.2) == 4294967295) p.0) in
    let e = c.requires.each in
    omega arith

pub pick-requires-clause-zone : goal.pick-requires-clause-zone
pick-requires-clause-zone c =
    let cells : List (List ℕ) = c.args.conflicts.now in
    let zone : List ℕ = cells_of c.args.zones.now c.args.zone in
    let present : ℕ → Bool = is_bare zone c.loop-key.colours 4294967295 in
    let keys : AreKeys cells zone c.loop-key.picks.items present c.loop-key.keys =
    keys_from cells zone c.loop-key.counts present c.loop-key.picks.items c.loop-key.used c.loop-key.keys c.loop-key.invariant.board c.loop-key.invariant.noted in
    let p = popped cells zone c.loop-key.picks.items present c.loop-key.keys c.in-Some.key.0 c.in-Some.key.1 c.in-Some.key.2 keys (omega arith) c.in-Some.ensures.member in
    (in_zone c.args.zones.now c.args.zone (4294967295 - c.in-Some.key.2) (and_left (has zone (4294967295 - c.in-Some.key.2)) (slice_index c.loop-key.colours (4294967295 - c.in-Some.key.2) == 4294967295) p.0)).0

pub pick-requires-clause-is_short : goal.pick-requires-clause-is_short
pick-requires-clause-is_short c =
    let cells : List (List ℕ) = c.args.conflicts.now in
    let zone : List ℕ = cells_of c.args.zones.now c.args.zone in
    let present : ℕ → Bool = is_bare zone c.loop-key.colours 4294967295 in
    let cell : ℕ = 4294967295 - c.in-Some.key.2 in
    let keys : AreKeys cells zone c.loop-key.picks.items present c.loop-key.keys =
    keys_from cells zone c.loop-key.counts present c.loop-key.picks.items c.loop-key.used c.loop-key.keys c.loop-key.invariant.board c.loop-key.invariant.noted in
    let p = popped cells zone c.loop-key.picks.items present c.loop-key.keys c.in-Some.key.0 c.in-Some.key.1 c.in-Some.key.2 keys (omega arith) c.in-Some.ensures.member in
    short_from cells c.args.zones.now c.loop-key.colours c.args.zone 4294967295 c.loop-key.picks.items c.loop-key.used cell c.loop-key.invariant.linked (λ k. c.loop-key.invariant.noted cell k p.0)
    (let e = c.requires.each in let f = c.requires.few in omega arith) (and_left (has zone cell) (slice_index c.loop-key.colours cell == 4294967295) p.0)

pub pick-requires-clause-board : goal.pick-requires-clause-board
pick-requires-clause-board c =
    let cells : List (List ℕ) = c.args.conflicts.now in
    let zone : List ℕ = cells_of c.args.zones.now c.args.zone in
    let present : ℕ → Bool = is_bare zone c.loop-key.colours 4294967295 in
    board_out cells zone c.loop-key.counts present c.loop-key.used c.loop-key.keys c.pop_last.new.self c.in-Some.key.0 c.in-Some.key.1 c.in-Some.key.2 (4294967295 - c.in-Some.key.2) c.loop-key.invariant.board (omega arith) refl
    c.in-Some.ensures.member c.in-Some.ensures.updates

pub loop-key-smaller : goal.loop-key-smaller
loop-key-smaller c =
    let cells : List (List ℕ) = c.args.conflicts.now in
    let zone : List ℕ = cells_of c.args.zones.now c.args.zone in
    let present : ℕ → Bool = is_bare zone c.loop-key.colours 4294967295 in
    let cell : ℕ = 4294967295 - c.in-Some.key.2 in
    let keys : AreKeys cells zone c.loop-key.picks.items present c.loop-key.keys =
    keys_from cells zone c.loop-key.counts present c.loop-key.picks.items c.loop-key.used c.loop-key.keys c.loop-key.invariant.board c.loop-key.invariant.noted in
    let p = popped cells zone c.loop-key.picks.items present c.loop-key.keys c.in-Some.key.0 c.in-Some.key.1 c.in-Some.key.2 keys (omega arith) c.in-Some.ensures.member in
    let w = zone_within c.args.zones.now c.args.zone cell (and_left (has zone cell) (slice_index c.loop-key.colours cell == 4294967295) p.0) in
    let was : slice_index c.loop-key.colours cell ≡ 4294967295 = eqb-true (slice_index c.loop-key.colours cell) 4294967295 (and_right (has zone cell) (slice_index c.loop-key.colours cell == 4294967295) p.0) in
    let inside : cell < length c.loop-key.colours = let e = c.requires.each in let f = c.requires.coloured in let g = c.loop-key.auto.colours in omega arith in
    let less : without 4294967295 (slice_set c.loop-key.colours cell c.in_ok-colour.colour) < without 4294967295 c.loop-key.colours =
    falls_at c.loop-key.colours 4294967295 cell c.in_ok-colour.colour inside was c.in_ok-colour.ensures.real in
    let P : List ℕ → Type 0 = λ xs. without 4294967295 xs < without 4294967295 c.loop-key.colours in
    subst P (sym c.in_ok-colour.ensures.colours) less

pub loop-key-preserved : goal.loop-key-preserved
loop-key-preserved c =
    let cells : List (List ℕ) = c.args.conflicts.now in
    let zones : List ℕ = c.args.zones.now in
    let zone : List ℕ = cells_of zones c.args.zone in
    let colours : List ℕ = c.loop-key.colours in
    let picks : Picks = c.loop-key.picks.items in
    let used : BTreeSet (ℕ × ℕ) = c.loop-key.used in
    let present : ℕ → Bool = is_bare zone colours 4294967295 in
    let r : ℕ = c.in-Some.key.2 in
    let cell : ℕ = 4294967295 - r in
    let colour : ℕ = c.in_ok-colour.colour in
    let keys : AreKeys cells zone picks present c.loop-key.keys = keys_from cells zone c.loop-key.counts present picks used c.loop-key.keys c.loop-key.invariant.board c.loop-key.invariant.noted in
    let p = popped cells zone picks present c.loop-key.keys c.in-Some.key.0 c.in-Some.key.1 r keys (omega arith) c.in-Some.ensures.member in
    let is : ◌≡◌ {A = Keys} c.in-Some.key (key_of cells zone picks cell) = same_key c.in-Some.key.0 c.in-Some.key.1 r (saturation cells picks cell) (degree cells zone cell) (4294967295 - cell) p.1 p.2 (omega arith) in
    let low : (d : ℕ) → has zone d ≡ true → d ≤ 4294967295 = λ d h. let w = zone_within zones c.args.zone d h in let e = c.requires.each in let f = c.requires.few in omega arith in
    let place = in_zone zones c.args.zone cell (and_left (has zone cell) (slice_index colours cell == 4294967295) p.0) in
    let inside : cell < length colours = let w = place.1 in let e = c.requires.each in let f = c.requires.coloured in let g = c.loop-key.auto.colours in omega arith in
    let U : Keys → Type 0 = λ k. IsUpperBound key_cmp c.loop-key.keys k in
    let link : IsLinked zone colours 4294967295 picks = c.loop-key.invariant.linked in
    let at : (j : ℕ) → contains pair_cmp used (cell, j) ≡ has (colours_near cells picks cell) j = λ j. c.loop-key.invariant.noted cell j p.0 in
    let items : c.push.new.self.items ≡ picks ++ (cell, colour) ∷ [] = c.in_ok-push.ensures.items in
    let set : c.pick.new.colours ≡ slice_set colours cell colour = c.in_ok-colour.ensures.colours in
    let P : Picks → Type 0 = λ ps. IsRun cells zone ps in
    let Q : Picks → Type 0 = λ ps. IsLinked zone c.pick.new.colours 4294967295 ps in
    let Q2 : List ℕ → Type 0 = λ cs. IsLinked zone cs 4294967295 (picks ++ (cell, colour) ∷ []) in
    let R : Picks → Type 0 = λ ps. AreNoted cells ps (is_bare zone c.pick.new.colours 4294967295) c.pick.new.used in
    let R2 : List ℕ → Type 0 = λ cs. AreNoted cells (picks ++ (cell, colour) ∷ []) (is_bare zone cs 4294967295) c.pick.new.used in
    record {
      run =
          subst P (sym items)
          (run_more cells zone picks cell colour c.loop-key.invariant.run
          (is_pick cells zone colours picks c.loop-key.keys cell colour (omega arith) low link keys (subst U is c.in-Some.ensures.greatest) p.0
          (least_from cells picks used cell colour at c.in_ok-colour.ensures.free c.in_ok-colour.ensures.least)));
      linked = subst Q (sym items) (subst Q2 (sym set) (linked_more zone colours 4294967295 cell colour picks link p.0 inside c.in_ok-colour.ensures.real));
      board = c.in_ok-colour.ensures.board;
      noted =
          subst R (sym items)
          (subst R2 (sym set)
          (noted_more cells zones colours c.args.zone picks used c.pick.new.used cell colour c.requires.each place.0 c.in_ok-colour.ensures.real inside c.loop-key.invariant.noted
          (λ d k. c.in_ok-colour.ensures.used d k
          ∙ ap (λ cs. contains pair_cmp used (d, k) || (has (filter (λ y. conflict cells cell y) (cells_of zones (slice_index zones cell))) d && (is_bare zone cs 4294967295 d && colour == k))) set)));
      kept = λ d f.
          let apart : d ≢ cell = λ same. false_or_true (has zone d) f (ap (has zone) same ∙ and_left (has zone cell) (slice_index colours cell == 4294967295) p.0) in
          let o : slice_index (slice_set colours cell colour) d ≡ slice_index colours d = grind (arith, common_steps) in
          ap (λ cs. slice_index cs d) set ∙ o ∙ c.loop-key.invariant.kept d f;
      kept_counts = λ d f. c.in_ok-colour.ensures.kept d f ∙ c.loop-key.invariant.kept_counts d f;
    }

pub returns-clause-picks : goal.returns-clause-picks
returns-clause-picks c =
    let cells : List (List ℕ) = c.args.conflicts.now in
    let zone : List ℕ = cells_of c.args.zones.now c.args.zone in
    let present : ℕ → Bool = is_bare zone c.loop-key.colours 4294967295 in
    let keys : AreKeys cells zone c.loop-key.picks.items present c.loop-key.keys =
    keys_from cells zone c.loop-key.counts present c.loop-key.picks.items c.loop-key.used c.loop-key.keys c.loop-key.invariant.board c.loop-key.invariant.noted in
    let low : (d : ℕ) → has zone d ≡ true → d ≤ 4294967295 = λ d h. let w = zone_within c.args.zones.now c.args.zone d h in let e = c.requires.each in let f = c.requires.few in omega arith in
    let empty : c.loop-key.keys.keys ≡ [] = empty_list c.loop-key.keys.keys c.in_default.ensures.variant.1 in
    (c.loop-key.invariant.run, (λ d. none_left cells zone c.loop-key.colours c.loop-key.picks.items c.loop-key.keys d low c.loop-key.invariant.linked keys empty))
