use Rattle.std.proofs.Common.{◌≡◌, ◌∙◌, ap, List, ℤ, pos, FitsSigned, to_z, of_z, w64, arith, ◌∷◌, [], ◌++◌, map, ◌≤◌, ◌^◌}
use Rattle.std.specs.Prelude.{unsigned_abs}
use Rattle.std.specs.Int.{w128}
use Rattle.std.proofs.lemmas.Int.{to_z-of_z}
use Rattle.std.proofs.lemmas.List.Elements.{All-head}
use Rattle.affine_constraints.specs.Closing.{IsClosedForm}
use Rattle.affine_constraints.specs.declared.term.Term.{Term}
use Rattle.affine_constraints.specs.Lines.{AffineLine, lines_in}
use Rattle.serial_sum.specs.declared.part.Target.TheVariants.{Column}
use Rattle.serial_sum.specs.declared.part.Contribution.{Contribution}
use Rattle.block_sums.specs.Contributions.{to, column_terms, constant_terms}
use Rattle.block_sums.specs.Shares.{entry_share}
use Rattle.block_sums.proofs.Runs.{same_adds, both_add}
use Rattle.block_sums.proofs.Splits.{all_left, all_right, all_same}
use Rattle.block_sums.proofs.Values.{fits_weight, fits_share, free_column, line_column}
use Rattle.block_sums.proofs.walk.add_column.Goals as goal

pub put-requires-clause-given : goal.put-requires-clause-given
put-requires-clause-given g c =
    let weight : FitsSigned w64 c.args.master.weight = fits_weight c.args.master.weight (omega (arith, c.requires.weight)) in
    let entry : FitsSigned w128 c.args.entry = fits_share c.args.entry (omega (arith, c.requires.entry)) in
    let share : FitsSigned w128 c.entry_share.result = record { sfits = c.entry_share.type_inv } in
    let told : c.entry_share.result ≡ entry_share c.args.master.weight c.args.entry (pos 65536) = simp to_z-of_z at c.entry_share.ensures.value in
    let value : to_z w128 (of_z w128 c.entry_share.result) ≡ entry_share c.args.master.weight c.args.entry (pos 65536) = simp to_z-of_z told in
    let given : Contribution = to c.args.master.dof (Column c.args.dof) (to_z w128 (of_z w128 c.entry_share.result)) in
    All-head (g.A.Adder.may_add c.args.adder.now) given []
    (all_same (g.A.Adder.may_add c.args.adder.now) (given ∷ []) (column_terms (lines_in c.args.closed.now) c.args.master c.args.entry c.args.dof)
    (ap (λ (v : ℤ). to c.args.master.dof (Column c.args.dof) v ∷ []) value ∙ free_column (lines_in c.args.closed.now) c.args.master c.args.entry c.args.dof c.in-None.ensures.value) c.requires.given)

pub add_terms-told-requires-clause-given : goal.add_terms-told-requires-clause-given
add_terms-told-requires-clause-given g c =
    let line : AffineLine = record { terms = c.in-Some.terms.now; constant = c.in-Some.constant } in
    let entry : FitsSigned w128 c.args.entry = fits_share c.args.entry (omega (arith, c.requires.entry)) in
    let terms : List Contribution = map (λ (other : Term). to c.args.master.dof (Column other.dof) (entry_share c.args.master.weight c.args.entry other.weight)) c.in-Some.terms.now in
    let constant : List Contribution = constant_terms c.args.master.dof c.args.master.weight c.args.entry c.in-Some.constant in
    simp to_z-of_z
    (all_left (g.A.Adder.may_add c.args.adder.now) terms constant
    (all_same (g.A.Adder.may_add c.args.adder.now) (terms ++ constant) (column_terms (lines_in c.args.closed.now) c.args.master c.args.entry c.args.dof)
    (line_column (lines_in c.args.closed.now) c.args.master c.args.entry c.args.dof line c.in-Some.ensures.value) c.requires.given))

pub add_constant-requires-clause-given : goal.add_constant-requires-clause-given
add_constant-requires-clause-given g c =
    let line : AffineLine = record { terms = c.in-Some.terms.now; constant = c.in-Some.constant } in
    let entry : FitsSigned w128 c.args.entry = fits_share c.args.entry (omega (arith, c.requires.entry)) in
    let form : IsClosedForm c.args.closed.now line = c.in-Some.ensures.form in
    let bound : unsigned_abs c.in-Some.constant ≤ 2 ^ 31 = form.within.constant in
    let ticks : FitsSigned w64 c.in-Some.constant = fits_weight c.in-Some.constant bound in
    let terms : List Contribution = map (λ (other : Term). to c.args.master.dof (Column other.dof) (entry_share c.args.master.weight c.args.entry other.weight)) c.in-Some.terms.now in
    let constant : List Contribution = constant_terms c.args.master.dof c.args.master.weight c.args.entry c.in-Some.constant in
    simp to_z-of_z
    (all_right (g.A.Adder.may_add c.args.adder.now) terms constant
    (all_same (g.A.Adder.may_add c.args.adder.now) (terms ++ constant) (column_terms (lines_in c.args.closed.now) c.args.master c.args.entry c.args.dof)
    (line_column (lines_in c.args.closed.now) c.args.master c.args.entry c.args.dof line c.in-Some.ensures.value) c.requires.given))

pub returns-in-None : goal.returns-in-None
returns-in-None g c =
    let weight : FitsSigned w64 c.args.master.weight = fits_weight c.args.master.weight (omega (arith, c.requires.weight)) in
    let entry : FitsSigned w128 c.args.entry = fits_share c.args.entry (omega (arith, c.requires.entry)) in
    let share : FitsSigned w128 c.entry_share.result = record { sfits = c.entry_share.type_inv } in
    let told : c.entry_share.result ≡ entry_share c.args.master.weight c.args.entry (pos 65536) = simp to_z-of_z at c.entry_share.ensures.value in
    let value : to_z w128 (of_z w128 c.entry_share.result) ≡ entry_share c.args.master.weight c.args.entry (pos 65536) = simp to_z-of_z told in
    same_adds (ap (λ (v : ℤ). to c.args.master.dof (Column c.args.dof) v ∷ []) value ∙ free_column (lines_in c.args.closed.now) c.args.master c.args.entry c.args.dof c.in-None.ensures.value) c.put.ensures

pub returns-in-Some : goal.returns-in-Some
returns-in-Some g c =
    let line : AffineLine = record { terms = c.in-Some.terms.now; constant = c.in-Some.constant } in
    let entry : FitsSigned w128 c.args.entry = fits_share c.args.entry (omega (arith, c.requires.entry)) in
    let form : IsClosedForm c.args.closed.now line = c.in-Some.ensures.form in
    let bound : unsigned_abs c.in-Some.constant ≤ 2 ^ 31 = form.within.constant in
    let ticks : FitsSigned w64 c.in-Some.constant = fits_weight c.in-Some.constant bound in
    let first = simp to_z-of_z at c.add_terms-told.ensures in
    let second = simp to_z-of_z at c.add_constant.ensures in
    same_adds (line_column (lines_in c.args.closed.now) c.args.master c.args.entry c.args.dof line c.in-Some.ensures.value) (both_add first second)
