use Rattle.std.proofs.Common.{◌≡◌, refl, ℕ, ◌+◌, ◌-◌, ◌==◌, List, subst, true, false, slice_index, arith}
use Rattle.std.proofs.lemmas.Bool.{eq-eqb}
use Rattle.std.proofs.lemmas.Grind.{common_steps}
use Rattle.std.specs.BTreeSet.{contains, Updates}
use Rattle.conflict_coloring.specs.Conflict.{has}
use Rattle.conflict_coloring.specs.Colours.{cells_of}
use Rattle.conflict_coloring.specs.Links.{key_cmp, is_bare}
use Rattle.conflict_coloring.specs.Board.{pair_cmp}
use Rattle.conflict_coloring.proofs.Picks.{and_both}
use Rattle.conflict_coloring.proofs.Boards.{board_noted, used_noted}
use Rattle.conflict_coloring.proofs.Zonewise.{count_short}
use Rattle.conflict_coloring.proofs.dsatur.note.Goals as goal

pub overflow_add-more : goal.overflow_add-more
overflow_add-more c =
    let cells : List (List ℕ) = c.args.conflicts.now in
    let zone : List ℕ = cells_of c.args.zones.now c.args.zone in
    let x : ℕ = c.args.other in
    let bare : slice_index c.args.colours.now x ≡ 4294967295 = grind (arith, common_steps) in
    let here : is_bare zone c.args.colours.now 4294967295 x ≡ true = and_both (has zone x) (slice_index c.args.colours.now x == 4294967295) c.requires.inside (eq-eqb (slice_index c.args.colours.now x) 4294967295 bare) in
    let short = count_short cells zone c.args.counts.now (is_bare zone c.args.colours.now 4294967295) c.args.used.now c.args.keys.now x c.requires.board here in
    omega arith

pub returns-clause-board : goal.returns-clause-board
returns-clause-board c =
    let cells : List (List ℕ) = c.args.conflicts.now in
    let zone : List ℕ = cells_of c.args.zones.now c.args.zone in
    let x : ℕ = c.args.other in
    let counts : List ℕ = c.args.counts.now in
    let few = c.requires.few in
    let w = c.requires.within in
    let bare : slice_index c.args.colours.now x ≡ 4294967295 = grind (arith, common_steps) in
    let here : is_bare zone c.args.colours.now 4294967295 x ≡ true = and_both (has zone x) (slice_index c.args.colours.now x == 4294967295) c.requires.inside (eq-eqb (slice_index c.args.colours.now x) 4294967295 bare) in
    let fresh : contains pair_cmp c.args.used.now (x, c.args.colour) ≡ false = grind (arith, common_steps) in
    let U : ℕ → Type 0 = λ m. Updates key_cmp c.args.keys.now c.remove.new.self (slice_index counts x, m, 4294967295 - x) false in
    let V : ℕ → Type 0 = λ m. Updates key_cmp c.remove.new.self c.insert-2.new.self (slice_index counts x + 1, m, 4294967295 - x) true in
    board_noted cells zone counts (is_bare zone c.args.colours.now 4294967295) c.args.used.now c.insert.new.self c.args.keys.now c.remove.new.self c.insert-2.new.self x c.args.colour (slice_index counts x + 1) c.requires.board here (omega arith)
    (let s = c.requires.sized in omega arith) refl fresh (subst U c.degree_at-degree.ensures c.remove.ensures.updates) c.in_ok-insert.ensures.updates (subst V c.degree_at-degree.ensures c.in_ok-insert-2.ensures.updates) c.requires.real

pub returns-clause-used : goal.returns-clause-used
returns-clause-used c =
    let zone : List ℕ = cells_of c.args.zones.now c.args.zone in
    let x : ℕ = c.args.other in
    let bare : slice_index c.args.colours.now x ≡ 4294967295 = grind (arith, common_steps) in
    let here : is_bare zone c.args.colours.now 4294967295 x ≡ true = and_both (has zone x) (slice_index c.args.colours.now x == 4294967295) c.requires.inside (eq-eqb (slice_index c.args.colours.now x) 4294967295 bare) in
    λ d k. used_noted c.args.used.now c.insert.new.self (is_bare zone c.args.colours.now 4294967295 x) x c.args.colour d k here c.in_ok-insert.ensures.updates
