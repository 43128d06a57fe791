use Rattle.std.proofs.Common.{◌≡◌, ℕ, List, get_or, take, subst, arith}
use Rattle.std.specs.List.{All}
use Rattle.std.proofs.lemmas.List.{get_or_default, take_all}
use Rattle.mesh_visits.specs.declared.visit.Visit.{Visit}
use Rattle.mesh_visits.specs.declared.visit.Visit.TheVariants.{Cell as OnCell}
use Rattle.mesh_loop.specs.Setup.{MeshProblem, visit_masters, visit_rows}
use Rattle.mesh_loop.specs.Parts.{shown, IsVisitBelow}
use Rattle.mesh_loop.proofs.Gathering.{lists_more, items_more, each_more}
use Rattle.mesh_loop.proofs.gather.add_cell.Goals as goal

pub loop-visit-preserved : goal.loop-visit-preserved
loop-visit-preserved c =
    let s : MeshProblem = shown c.args.source.now in
    let visits : List Visit = c.args.visits.now in
    let k : ℕ = c.loop-visit.visit-index in
    let visit : Visit = get_or visits k OnCell in
    let at : visit ≡ get_or visits k visit = get_or_default visits k OnCell visit c.loop-visit-test.true in
    record {
      couplings = lists_more (visit_masters s c.args.cell) visits k visit c.args.couplings.now.size c.args.couplings.now.lists c.loop-visit.couplings c.add_visit.new.couplings c.loop-visit-test.true at c.loop-visit.invariant.couplings c.in_ok-add_visit.ensures.couplings;
      rows = items_more (visit_rows s c.args.cell) visits k visit c.args.room.now.rows.items c.loop-visit.room.rows.items c.add_visit.new.room.rows.items c.loop-visit-test.true at c.loop-visit.invariant.rows c.in_ok-add_visit.ensures.rows;
      below = each_more (IsVisitBelow s c.args.cell) visits k visit c.loop-visit-test.true at c.loop-visit.invariant.below c.in_ok-add_visit.ensures.below;
    }

pub returns-clause-below : goal.returns-clause-below
returns-clause-below c =
    let s : MeshProblem = shown c.args.source.now in
    let whole : take c.loop-visit.visit-index c.args.visits.now ≡ c.args.visits.now = take_all c.loop-visit.visit-index c.args.visits.now (omega (arith, c.loop-visit-test.false)) in
    subst (All (IsVisitBelow s c.args.cell)) whole c.loop-visit.invariant.below
