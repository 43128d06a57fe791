use Rattle.std.proofs.Common.{◌+◌, sym, subst, ◌∙◌, ap, List, ℕ, ◌∷◌, ◌++◌, []}
use Rattle.lumped_mass.specs.Rows.{IsRising, AreRising}
use Rattle.lumped_mass.proofs.Members.{none_rising, rising_more}
use Rattle.lumped_mass.proofs.rows.cell_rows.Goals as goal

pub loop-cell-preserved : goal.loop-cell-preserved
loop-cell-preserved c =
    let P : List ℕ → Type 0 = λ row. IsRising row c.set_rising.new.row.items in
    let Q : List (List ℕ) → Type 0 = λ rows. AreRising c.args.cells.now.dofs.now.cells rows (c.loop-cell.cell + 1) in
    let row = subst P c.dofs_of.ensures.value c.in_ok-set_rising.ensures in
    subst Q (sym (c.in_ok-push.ensures.ok ∙ ap (λ (r : List ℕ). c.loop-cell.rows ++ r ∷ []) c.deref.ensures.value)) (rising_more c.args.cells.now.dofs.now.cells c.loop-cell.rows c.loop-cell.cell c.set_rising.new.row.items c.loop-cell.invariant row)
