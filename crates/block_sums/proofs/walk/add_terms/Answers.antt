use Rattle.std.proofs.Common.{◌≡◌, ap, ℤ, ℕ, ◌≤◌, ◌^◌, pos, FitsSigned, to_z, of_z, w64, arith, get_or}
use Rattle.std.specs.Prelude.{unsigned_abs}
use Rattle.std.specs.Int.{w128}
use Rattle.std.proofs.lemmas.Int.{to_z-of_z}
use Rattle.affine_constraints.specs.declared.term.Term.{Term}
use Rattle.serial_sum.specs.declared.part.Contribution.{Contribution}
use Rattle.serial_sum.specs.declared.part.Target.TheVariants.{Column}
use Rattle.block_sums.specs.Contributions.{to}
use Rattle.block_sums.specs.Shares.{entry_share}
use Rattle.block_sums.proofs.Runs.{none_adds, terms_step, same_single}
use Rattle.block_sums.proofs.Splits.{mapped_at, at_same}
use Rattle.block_sums.proofs.Values.{fits_weight, fits_share, same_term}
use Rattle.block_sums.proofs.walk.add_terms.Goals as goal

pub loop-other-init : goal.loop-other-init
loop-other-init g c = none_adds c.requires.fits

pub put-told-requires-clause-given : goal.put-told-requires-clause-given
put-told-requires-clause-given g c =
    let none : Term = record { dof = 0; weight = pos 0 } in
    let k : ℕ = c.loop-other.other-index in
    let x : Term = get_or c.args.terms.now k none in
    let small : unsigned_abs x.weight ≤ 2 ^ 20 = c.requires.weights k none c.loop-other-test.true in
    let other : FitsSigned w64 x.weight = fits_weight x.weight (omega (arith, small)) in
    let weight : FitsSigned w64 c.args.master.weight = fits_weight c.args.master.weight (omega (arith, c.requires.weight)) in
    let entry : FitsSigned w128 c.args.entry = fits_share c.args.entry (omega (arith, c.requires.entry)) in
    let share : FitsSigned w128 c.entry_share.result = record { sfits = c.entry_share.type_inv } in
    let told : c.entry_share.result ≡ entry_share c.args.master.weight c.args.entry x.weight = simp to_z-of_z at c.entry_share.ensures.value in
    let value : to_z w128 (of_z w128 c.entry_share.result) ≡ entry_share c.args.master.weight c.args.entry x.weight = simp to_z-of_z told in
    let f : Term → Contribution = λ other. to c.args.master.dof (Column other.dof) (entry_share c.args.master.weight c.args.entry other.weight) in
    at_same (g.A.Adder.may_add c.args.adder.now) (to c.args.master.dof (Column x.dof) (to_z w128 (of_z w128 c.entry_share.result))) (f x) (ap (λ (v : ℤ). to c.args.master.dof (Column x.dof) v) value)
    (mapped_at (g.A.Adder.may_add c.args.adder.now) f c.args.terms.now k x c.loop-other-test.true (same_term c.args.terms.now k none x c.loop-other-test.true) c.requires.given)

pub loop-other-preserved : goal.loop-other-preserved
loop-other-preserved g c =
    let none : Term = record { dof = 0; weight = pos 0 } in
    let k : ℕ = c.loop-other.other-index in
    let x : Term = get_or c.args.terms.now k none in
    let small : unsigned_abs x.weight ≤ 2 ^ 20 = c.requires.weights k none c.loop-other-test.true in
    let other : FitsSigned w64 x.weight = fits_weight x.weight (omega (arith, small)) in
    let weight : FitsSigned w64 c.args.master.weight = fits_weight c.args.master.weight (omega (arith, c.requires.weight)) in
    let entry : FitsSigned w128 c.args.entry = fits_share c.args.entry (omega (arith, c.requires.entry)) in
    let share : FitsSigned w128 c.entry_share.result = record { sfits = c.entry_share.type_inv } in
    let told : c.entry_share.result ≡ entry_share c.args.master.weight c.args.entry x.weight = simp to_z-of_z at c.entry_share.ensures.value in
    let value : to_z w128 (of_z w128 c.entry_share.result) ≡ entry_share c.args.master.weight (to_z w128 (of_z w128 c.args.entry)) x.weight = simp to_z-of_z told in
    let f : Term → Contribution = λ other. to c.args.master.dof (Column other.dof) (entry_share c.args.master.weight (to_z w128 (of_z w128 c.args.entry)) other.weight) in
    terms_step f c.args.terms.now k x c.loop-other-test.true (same_term c.args.terms.now k none x c.loop-other-test.true) c.loop-other.invariant
    (same_single (ap (λ (v : ℤ). to c.args.master.dof (Column x.dof) v) value) c.put-told.ensures)
