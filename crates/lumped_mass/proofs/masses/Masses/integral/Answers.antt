use Rattle.std.proofs.Common.{◌≡◌, ◌∙◌, ◌<◌, ap, ap₂, subst, pos, ◌*ℤ◌, ℤ, List, length, FitsSigned, rules, w64, arith, get_or}
use Rattle.std.specs.Int.{w128}
use Rattle.std.proofs.lemmas.Int.{to_z-of_z}
use Rattle.std.proofs.lemmas.List.{get_or_default}
use Rattle.lumped_mass.proofs.Wraps.{term_more, product_at, all_terms}
use Rattle.lumped_mass.proofs.masses.Masses.integral.Goals as goal

pub loop-dof-preserved : goal.loop-dof-preserved
loop-dof-preserved c =
    let weight : FitsSigned w128 c.index.result.now = search rules in
    let value : FitsSigned w64 (get_or c.args.values.now c.loop-dof.dof (pos 0)) = search rules in
    let from : FitsSigned w128 c.from-value.result = record { sfits = c.from-value.type_inv } in
    let product : FitsSigned w128 c.wrapped_product.result = record { sfits = c.wrapped_product.type_inv } in
    let sum : FitsSigned w128 c.wrapped_sum-sum.result = record { sfits = c.wrapped_sum-sum.type_inv } in
    let low : c.loop-dof.dof < length c.args.self.now = omega (arith, c.loop-dof-test.true, c.requires) in
    let P : List ℤ → Type 0 = λ l. c.index.result.now ≡ get_or l c.loop-dof.dof c.index.result.now in
    let is_weight = subst P c.self.view_is c.index.ensures ∙ get_or_default c.args.self.now c.loop-dof.dof c.index.result.now (pos 0) low in
    let is_value = c.from-value.ensures ∙ to_z-of_z w64 (get_or c.args.values.now c.loop-dof.dof (pos 0)) value in
    let k = c.wrapped_product.ensures in
    let h = c.wrapped_sum-sum.ensures in
    let made = simp to_z-of_z at k in
    let next = simp to_z-of_z at h in
    term_more (product_at c.args.self.now c.args.values.now) _ _ c.wrapped_product.result c.index.result.now c.from-value.result c.loop-dof.dof c.loop-dof.invariant (ap₂ (λ (a b : ℤ). a *ℤ b) is_weight is_value) made
    (to_z-of_z w128 c.wrapped_sum-sum.result sum ∙ next)

pub returns : goal.returns
returns c = all_terms c.args.self.now c.args.values.now _ c.loop-dof.dof (omega (arith, c.loop-dof.auto.dof-end, c.loop-dof-test.false, c.requires)) c.loop-dof.invariant
