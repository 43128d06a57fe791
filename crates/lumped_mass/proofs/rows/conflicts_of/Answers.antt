use Rattle.std.proofs.Common.{◌≡◌, ◌∙◌, ap, sym, arith, length, take, ◌∷◌, ◌++◌, [], List, ℕ}
use Rattle.std.proofs.lemmas.List.{length-take, take_more}
use Rattle.lumped_mass.proofs.rows.conflicts_of.Goals as goal

pub add-requires : goal.add-requires
add-requires c = omega (arith, ap length c.loop-cell.invariant, length-take c.loop-cell.cell c.args.rows.now, c.loop-cell-test.true, c.len-cell-end.ensures, c.requires)

pub loop-cell-preserved : goal.loop-cell-preserved
loop-cell-preserved c =
    c.in_ok-add.ensures.added ∙ ap (λ l. l ++ c.get.result.now ∷ []) c.loop-cell.invariant ∙ ap (λ (x : List ℕ). take c.loop-cell.cell c.args.rows.now ++ x ∷ []) c.get.ensures
    ∙ sym (take_more c.args.rows.now c.loop-cell.cell [] (omega (arith, c.loop-cell-test.true, c.len-cell-end.ensures)))
