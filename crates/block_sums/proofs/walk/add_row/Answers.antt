use Rattle.std.proofs.Common.{◌∙◌, ◌≤◌, ◌^◌, ℤ, ap, List, ◌++◌, FitsSigned, to_z, of_z, w64}
use Rattle.std.specs.Prelude.{unsigned_abs}
use Rattle.std.specs.Int.{w128}
use Rattle.std.specs.List.{All, flat_map}
use Rattle.std.proofs.lemmas.Int.{to_z-of_z}
use Rattle.affine_constraints.specs.Closing.{IsClosedForm}
use Rattle.affine_constraints.specs.Lines.{AffineLine, Lines, lines_in}
use Rattle.cell_blocks.specs.LocalBlocks.{LocalBlock}
use Rattle.serial_sum.specs.declared.part.Contribution.{Contribution}
use Rattle.block_sums.specs.Masters.{itself}
use Rattle.block_sums.specs.Contributions.{master_terms, row_terms, own_terms, entry_at}
use Rattle.block_sums.proofs.Runs.{same_adds, both_add}
use Rattle.block_sums.proofs.Splits.{all_left, all_right, all_same}
use Rattle.block_sums.proofs.Values.{free_row, line_row, fits_weight}
use Rattle.block_sums.proofs.walk.add_row.Goals as goal

pub add_wanted_master-requires-clause-given : goal.add_wanted_master-requires-clause-given
add_wanted_master-requires-clause-given g c =
    all_same (g.A.Adder.may_add c.args.adder.now) (master_terms (lines_in c.args.closed.now) c.args.block.now c.args.i (itself c.dof-dof.result)) (row_terms (lines_in c.args.closed.now) c.args.block.now c.args.i)
    (free_row (lines_in c.args.closed.now) c.args.block.now c.args.i c.dof-dof.result c.dof-dof.ensures c.in-None.ensures.value) c.requires.given

pub add_masters-told-requires-clause-given : goal.add_masters-told-requires-clause-given
add_masters-told-requires-clause-given g c =
    let line : AffineLine = record { terms = c.in-Some.terms.now; constant = c.in-Some.constant } in
    let lines : Lines = lines_in c.args.closed.now in
    let block : LocalBlock = c.args.block.now in
    let masters : List Contribution = flat_map (master_terms lines block c.args.i) c.in-Some.terms.now in
    let own : List Contribution = own_terms c.dof-dof.result (unsigned_abs (entry_at block c.args.i c.args.i)) c.in-Some.constant in
    all_left (g.A.Adder.may_add c.args.adder.now) masters own
    (all_same (g.A.Adder.may_add c.args.adder.now) (masters ++ own) (row_terms lines block c.args.i) (line_row lines block c.args.i c.dof-dof.result line c.dof-dof.ensures c.in-Some.ensures.value) c.requires.given)

pub add_wanted_own-requires-clause-given : goal.add_wanted_own-requires-clause-given
add_wanted_own-requires-clause-given g c =
    let line : AffineLine = record { terms = c.in-Some.terms.now; constant = c.in-Some.constant } in
    let lines : Lines = lines_in c.args.closed.now in
    let block : LocalBlock = c.args.block.now in
    let form : IsClosedForm c.args.closed.now line = c.in-Some.ensures.form in
    let bound : unsigned_abs c.in-Some.constant ≤ 2 ^ 31 = form.within.constant in
    let constant : FitsSigned w64 c.in-Some.constant = fits_weight c.in-Some.constant bound in
    let entry : FitsSigned w128 c.entry.result = record { sfits = c.entry.type_inv } in
    let masters : List Contribution = flat_map (master_terms lines block c.args.i) c.in-Some.terms.now in
    let own : List Contribution = own_terms c.dof-dof.result (unsigned_abs (entry_at block c.args.i c.args.i)) c.in-Some.constant in
    let given : All (g.A.Adder.may_add c.args.adder.now) own = all_right (g.A.Adder.may_add c.args.adder.now) masters own
    (all_same (g.A.Adder.may_add c.args.adder.now) (masters ++ own) (row_terms lines block c.args.i) (line_row lines block c.args.i c.dof-dof.result line c.dof-dof.ensures c.in-Some.ensures.value) c.requires.given) in
    all_same (g.A.Adder.may_add c.args.adder.now) (own_terms c.dof-dof.result (unsigned_abs (to_z w128 (of_z w128 c.entry.result))) (to_z w64 (of_z w64 c.in-Some.constant))) own
    (ap (λ (v : ℤ). own_terms c.dof-dof.result (unsigned_abs v) (to_z w64 (of_z w64 c.in-Some.constant))) (to_z-of_z w128 c.entry.result entry ∙ c.entry.ensures.value)
    ∙ ap (own_terms c.dof-dof.result (unsigned_abs (entry_at block c.args.i c.args.i))) (to_z-of_z w64 c.in-Some.constant constant)) given

pub returns-in-None : goal.returns-in-None
returns-in-None g c = same_adds (free_row (lines_in c.args.closed.now) c.args.block.now c.args.i c.dof-dof.result c.dof-dof.ensures c.in-None.ensures.value) c.add_wanted_master.ensures

pub returns-in-Some : goal.returns-in-Some
returns-in-Some g c =
    let line : AffineLine = record { terms = c.in-Some.terms.now; constant = c.in-Some.constant } in
    let lines : Lines = lines_in c.args.closed.now in
    let block : LocalBlock = c.args.block.now in
    let form : IsClosedForm c.args.closed.now line = c.in-Some.ensures.form in
    let bound : unsigned_abs c.in-Some.constant ≤ 2 ^ 31 = form.within.constant in
    let constant : FitsSigned w64 c.in-Some.constant = fits_weight c.in-Some.constant bound in
    let entry : FitsSigned w128 c.entry.result = record { sfits = c.entry.type_inv } in
    let told = simp to_z-of_z at c.add_wanted_own.ensures in
    same_adds (line_row lines block c.args.i c.dof-dof.result line c.dof-dof.ensures c.in-Some.ensures.value)
    (both_add c.add_masters-told.ensures
    (same_adds (ap (λ (v : ℤ). own_terms c.dof-dof.result (unsigned_abs v) c.in-Some.constant) c.entry.ensures.value) told))
