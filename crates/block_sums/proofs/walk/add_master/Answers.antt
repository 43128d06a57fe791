use Rattle.std.proofs.Common.{◌≡◌, ◌∙◌, ◌<◌, ap, sym, ℕ, ℤ, List, ◌∷◌, length, FitsSigned, to_z, of_z, w64, arith}
use Rattle.std.specs.Int.{w128}
use Rattle.std.specs.List.{flat_map, range_with_len}
use Rattle.std.proofs.lemmas.Int.{to_z-of_z}
use Rattle.std.proofs.lemmas.List.Elements.{All-head, All-tail}
use Rattle.affine_constraints.specs.Lines.{Lines, lines_in}
use Rattle.cell_blocks.specs.LocalBlocks.{LocalBlock}
use Rattle.serial_sum.specs.declared.part.Contribution.{Contribution}
use Rattle.serial_sum.specs.declared.part.Target.TheVariants.{RightSide}
use Rattle.block_sums.specs.Contributions.{to, column_terms, master_terms, load_at, entry_at, dof_at}
use Rattle.block_sums.specs.Shares.{load_share}
use Rattle.block_sums.proofs.Runs.{same_adds, both_add, range_more}
use Rattle.block_sums.proofs.Splits.{all_number, all_same, at_same}
use Rattle.block_sums.proofs.Values.{fits_weight}
use Rattle.block_sums.proofs.walk.add_master.Goals as goal

pub put-told-requires-clause-given : goal.put-told-requires-clause-given
unfolding master_terms
put-told-requires-clause-given g c =
    let lines : Lines = lines_in c.args.closed.now in
    let block : LocalBlock = c.args.block.now in
    let load : Contribution = to c.args.master.dof RightSide (load_share c.args.master.weight (load_at block c.args.i)) in
    let f : ℕ → List Contribution = λ j. column_terms lines c.args.master (entry_at block c.args.i j) (dof_at block j) in
    let share : FitsSigned w128 c.load_share.result = record { sfits = c.load_share.type_inv } in
    let at : FitsSigned w128 c.load_at.result = record { sfits = c.load_at.type_inv } in
    let weight : FitsSigned w64 c.args.master.weight = fits_weight c.args.master.weight (omega (arith, c.requires.weight)) in
    let told : c.load_share.result ≡ load_share c.args.master.weight c.load_at.result = simp to_z-of_z at c.load_share.ensures.value in
    let value : to_z w128 (of_z w128 c.load_share.result) ≡ load_share c.args.master.weight (load_at block c.args.i) = simp to_z-of_z (told ∙ ap (load_share c.args.master.weight) c.load_at.ensures.value) in
    at_same (g.A.Adder.may_add c.args.adder.now) (to c.args.master.dof RightSide (to_z w128 (of_z w128 c.load_share.result))) load (ap (λ (v : ℤ). to c.args.master.dof RightSide v) value)
    (All-head (g.A.Adder.may_add c.args.adder.now) load (flat_map f (range_with_len 0 (length block.dofs))) c.requires.given)

pub add_column-told-requires-clause-given : goal.add_column-told-requires-clause-given
unfolding master_terms
add_column-told-requires-clause-given g c =
    let lines : Lines = lines_in c.args.closed.now in
    let block : LocalBlock = c.args.block.now in
    let load : Contribution = to c.args.master.dof RightSide (load_share c.args.master.weight (load_at block c.args.i)) in
    let f : ℕ → List Contribution = λ j. column_terms lines c.args.master (entry_at block c.args.i j) (dof_at block j) in
    let inside : c.loop-j.j < length block.dofs = omega (arith, c.loop-j-test.true, ap length c.dofs-j-end.ensures) in
    let entry : FitsSigned w128 c.entry.result = record { sfits = c.entry.type_inv } in
    let value : to_z w128 (of_z w128 c.entry.result) ≡ entry_at block c.args.i c.loop-j.j = simp to_z-of_z c.entry.ensures.value in
    let more : column_terms lines c.args.master (to_z w128 (of_z w128 c.entry.result)) c.dof.result ≡ f c.loop-j.j =
    ap (λ (v : ℤ). column_terms lines c.args.master v c.dof.result) value ∙ ap (λ (d : ℕ). column_terms lines c.args.master (entry_at block c.args.i c.loop-j.j) d) c.dof.ensures in
    all_same (g.A.Adder.may_add c.args.adder.now) (column_terms lines c.args.master (to_z w128 (of_z w128 c.entry.result)) c.dof.result) (f c.loop-j.j) more
    (all_number (g.A.Adder.may_add c.args.adder.now) f (length block.dofs) c.loop-j.j inside (All-tail (g.A.Adder.may_add c.args.adder.now) load (flat_map f (range_with_len 0 (length block.dofs))) c.requires.given))

pub loop-j-preserved : goal.loop-j-preserved
loop-j-preserved g c =
    let lines : Lines = lines_in c.args.closed.now in
    let block : LocalBlock = c.args.block.now in
    let load : Contribution = to c.args.master.dof RightSide (load_share c.args.master.weight (load_at block c.args.i)) in
    let f : ℕ → List Contribution = λ j. column_terms lines c.args.master (entry_at block c.args.i j) (dof_at block j) in
    let entry : FitsSigned w128 c.entry.result = record { sfits = c.entry.type_inv } in
    let value : to_z w128 (of_z w128 c.entry.result) ≡ entry_at block c.args.i c.loop-j.j = simp to_z-of_z c.entry.ensures.value in
    let more : column_terms lines c.args.master (to_z w128 (of_z w128 c.entry.result)) c.dof.result ≡ f c.loop-j.j =
    ap (λ (v : ℤ). column_terms lines c.args.master v c.dof.result) value ∙ ap (λ (d : ℕ). column_terms lines c.args.master (entry_at block c.args.i c.loop-j.j) d) c.dof.ensures in
    same_adds (ap (λ (ys : List Contribution). load ∷ ys) (sym (range_more f c.loop-j.j))) (both_add c.loop-j.invariant (same_adds more c.add_column-told.ensures))

pub returns : goal.returns
unfolding master_terms
returns g c =
    let lines : Lines = lines_in c.args.closed.now in
    let block : LocalBlock = c.args.block.now in
    let load : Contribution = to c.args.master.dof RightSide (load_share c.args.master.weight (load_at block c.args.i)) in
    let f : ℕ → List Contribution = λ j. column_terms lines c.args.master (entry_at block c.args.i j) (dof_at block j) in
    let all : c.loop-j.j ≡ length block.dofs = omega (arith, ap length c.dofs-j-end.ensures) in
    same_adds (ap (λ n. load ∷ flat_map f (range_with_len 0 n)) all) c.loop-j.invariant
