use Rattle.std.proofs.Common.{◌≡◌, ◌∙◌, sym, ap, ℕ, List, [], length, replicate, subst, rules, arith}
use Rattle.std.specs.Prelude.{None}
use Rattle.std.proofs.lemmas.List.{length-replicate}
use Rattle.std.specs.declared.option.Option.{Option}
use Rattle.constrained_mesh.specs.LeastIds.{HoldsLeast}
use Rattle.constrained_mesh.proofs.LineLaws.{hanging_no_value}
use Rattle.constrained_mesh.proofs.LeastLaws.{none_noted, cell_noted, all_noted, faces_below}
use Rattle.constrained_mesh.proofs.dirichlet.least_ids.Goals as goal

pub loop-cell-init : goal.loop-cell-init
loop-cell-init c =
    let e : c.in_ok-ids.ids.items ≡ replicate c.size.result None = search rules in
    let P : List (Option ℕ) → Type 0 = λ ids. HoldsLeast c.args.dofs.now.degree c.args.forest.now c.args.problem.now [] ids in
    record { size = ap length e ∙ length-replicate c.size.result None ∙ c.size.ensures; held = subst P (sym e) (none_noted c.args.dofs.now.degree c.args.forest.now c.args.problem.now c.size.result) }

pub loop-cell-preserved : goal.loop-cell-preserved
loop-cell-preserved c = record {
  size = c.note_cell.ensures.size ∙ c.loop-cell.invariant.size;
  held = cell_noted c.args.dofs.now.degree c.args.forest.now c.args.problem.now c.loop-cell.cell c.note_cell.new.ids.items (c.note_cell.ensures.noted (faces_below c.loop-cell.cell) c.loop-cell.invariant.held);
}

pub returns-clause-ids : goal.returns-clause-ids
returns-clause-ids c =
    let h = c.cells-cell-end.ensures.count in let t = c.loop-cell-test.false in let a = c.loop-cell.auto.cell-end in
    all_noted c.args.dofs.now.degree c.args.forest.now c.args.problem.now c.loop-cell.cell c.loop-cell.ids.items (omega (arith, h, t, a)) c.loop-cell.invariant.held

pub returns-clause-hanging : goal.returns-clause-hanging
returns-clause-hanging c = hanging_no_value c.args.dofs.now.degree c.requires.degree c.args.forest.now c.args.problem.now c.cells-cell-end.ensures.grown
