use Rattle.std.proofs.Common.{◌≡◌, ◌∙◌, ◌<◌, ◌++◌, ℕ, List, [], ap, refl, length, arith}
use Rattle.std.specs.List.{flat_map}
use Rattle.mesh_visits.specs.declared.visit.Visit.{Visit}
use Rattle.mesh_loop.specs.Setup.{MeshProblem, cell_visits, visit_rows}
use Rattle.mesh_loop.specs.Parts.{shown}
use Rattle.mesh_loop.proofs.Gathering.{cell_coupled, cell_written, rows_more, cells_more, all_coupled}
use Rattle.mesh_loop.proofs.Kept.{listed, list_is, each_within}
use Rattle.mesh_loop.proofs.gather.gather.Goals as goal

pub get-requires : goal.get-requires
get-requires c =
    let s : MeshProblem = shown c.args.source.now in
    let within : c.loop-cell.cell < length s.given.forest.cells = omega (arith, c.loop-cell-test.true, c.cells-cell-end.ensures.count) in
    listed (cell_visits s) (length s.given.forest.cells) c.loop-cell.cell c.args.visits.now c.requires.visits within

pub add_cell-requires-clause-visits : goal.add_cell-requires-clause-visits
add_cell-requires-clause-visits c =
    let s : MeshProblem = shown c.args.source.now in
    let within : c.loop-cell.cell < length s.given.forest.cells = omega (arith, c.loop-cell-test.true, c.cells-cell-end.ensures.count) in
    each_within s c.loop-cell.cell c.get.result.now (c.get.ensures ∙ list_is (cell_visits s) (length s.given.forest.cells) c.loop-cell.cell c.args.visits.now [] c.requires.visits within) (c.requires.fit c.loop-cell.cell within)

pub loop-cell-preserved : goal.loop-cell-preserved
loop-cell-preserved c =
    let s : MeshProblem = shown c.args.source.now in
    let cell : ℕ = c.loop-cell.cell in
    let visits : List Visit = c.get.result.now in
    let within : cell < length s.given.forest.cells = omega (arith, c.loop-cell-test.true, c.cells-cell-end.ensures.count) in
    let are : visits ≡ cell_visits s cell = c.get.ensures ∙ list_is (cell_visits s) (length s.given.forest.cells) cell c.args.visits.now [] c.requires.visits within in
    let gathered : c.add_cell.new.room.rows.items ≡ flat_map (visit_rows s cell) visits = c.in_ok-add_cell.ensures.rows ∙ ap (λ (xs : List ℕ). xs ++ flat_map (visit_rows s cell) visits) c.clear.ensures.items in
    record {
      couplings = cell_coupled s cell s.given.dofs.size visits c.loop-cell.couplings c.add_cell.new.couplings are c.loop-cell.invariant.couplings c.in_ok-add_cell.ensures.couplings;
      rows = rows_more s cell c.deref.result.now c.loop-cell.rows c.push.new.self
          (c.deref.ensures.value ∙ cell_written s cell visits c.sort_unique.new.list.items c.add_cell.new.room.rows.items are gathered c.in_ok-add_cell.ensures.below c.sort_unique.ensures.rises c.sort_unique.ensures.same)
          c.loop-cell.invariant.rows c.in_ok-push.ensures.ok;
      below = cells_more s cell visits are c.loop-cell.invariant.below c.in_ok-add_cell.ensures.below;
    }

pub returns-clause-couplings : goal.returns-clause-couplings
returns-clause-couplings c =
    let s : MeshProblem = shown c.args.source.now in
    let end : c.loop-cell.cell ≡ length s.given.forest.cells = omega (arith, c.loop-cell-test.false, c.loop-cell.auto.cell-end, c.cells-cell-end.ensures.count) in
    all_coupled s c.loop-cell.cell s.given.dofs.size c.loop-cell.couplings end refl c.loop-cell.invariant.couplings

pub returns-clause-below : goal.returns-clause-below
returns-clause-below c =
    let s : MeshProblem = shown c.args.source.now in
    λ cell within. c.loop-cell.invariant.below cell (omega (arith, within, c.loop-cell-test.false, c.cells-cell-end.ensures.count))
