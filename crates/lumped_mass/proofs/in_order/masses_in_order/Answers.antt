use Rattle.std.proofs.Common.{◌≡◌, ◌∙◌, ap, ap₂, sym, refl, pos, ℕ, ℤ, List, map, replicate, arith}
use Rattle.std.specs.Int.{w128, int_wrap}
use Rattle.hanging_refine.specs.Refined.{RefinedMesh}
use Rattle.dof_numbers.specs.Dofs.{Numbering}
use Rattle.lumped_mass.specs.declared.cells.Cells.{Cells}
use Rattle.lumped_mass.specs.Masses.{masses, cell_dofs, cell_shares}
use Rattle.lumped_mass.specs.Sums.{with_shares}
use Rattle.lumped_mass.proofs.Pipeline.{finish}
use Rattle.lumped_mass.proofs.in_order.masses_in_order.Goals as goal

step : Cells → List ℤ → ℕ → List ℤ
step j sums cell = with_shares (cell_dofs j.dofs.now cell) (cell_shares j.forest.now cell) sums 4

pub run_job-requires-clause-few : goal.run_job-requires-clause-few
run_job-requires-clause-few g c κs within = omega (arith, c.new-cells.result.few, c.new-cells.result.counted)

pub returns-in-Ok : goal.returns-in-Ok
unfolding step
returns-in-Ok g c =
    let size : c.size.result ≡ c.new-cells.result.dofs.now.size = c.size.ensures ∙ ap (λ (d : Numbering). d.size) (sym c.new-cells.ensures.dofs) in
    finish step c.new-cells.result c.new-cells.result.forest.now c.new-cells.result.dofs.now _ (λ sums cell. refl) c.new-cells.result.four _ _ refl (c.in_ok-zero.ensures ∙ ap (λ n. replicate n (pos 0)) size) c.in-Ok.ensures.state
    ∙ ap₂ (λ f d. map (int_wrap w128) (masses f d)) c.new-cells.ensures.forest c.new-cells.ensures.dofs
