use Rattle.std.proofs.Common.{arith, ap, sym, ◌∙◌, ◌++◌, ◌∷◌, [], pos, ℕ, ℤ}
use Rattle.std.proofs.lemmas.List.FromFn.{map-range_with_len_more}
use Rattle.lumped_mass.proofs.Colors.{all_with}
use Rattle.lumped_mass.proofs.by_color.zero_sums.Goals as goal

pub loop-dof-preserved : goal.loop-dof-preserved
loop-dof-preserved c = c.in_ok-push.ensures.items ∙ (ap (λ l. l ++ all_with (pos 0) c.loop-dof.dof ∷ []) c.loop-dof.invariant ∙ sym (map-range_with_len_more (all_with (pos 0)) 0 c.loop-dof.dof c.loop-dof.dof (omega arith)))
