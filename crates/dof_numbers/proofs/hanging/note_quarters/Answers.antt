use Rattle.std.proofs.Common.{◌≡◌, ◌∙◌, ◌+◌, refl, length, slice_index, arith}
use Rattle.std.proofs.lemmas.List.{length-set}
use Rattle.dof_numbers.proofs.Noting.{quarter_hangs, quarter_small, quarters_noted}
use Rattle.dof_numbers.proofs.hanging.note_quarters.Goals as goal

pub index_mut-requires : goal.index_mut-requires
index_mut-requires c =
    let side = c.requires.side in
    let h = quarter_hangs c.args.forest.now c.args.dofs.now c.requires.grown c.requires.numbered c.requires.degree c.args.cell c.args.face 0 (slice_index c.args.cells 0) (slice_index c.args.faces 0) c.requires.cell c.requires.face (omega arith) side.0 side.2 side.4
    c.of_cell.result.now _ c.of_cell.ensures refl in
    let s = quarter_small c.args.forest.now c.args.dofs.now c.requires.grown c.requires.numbered c.requires.degree c.args.cell c.args.face 0 (slice_index c.of_cell.result.now (4 + slice_index c.args.faces 0)) h in
    let l : length c.args.table.now.items ≡ c.args.dofs.now.size = c.requires.size in
    let v = c.args.table.now.ok.0 in
    omega (arith, s, l, v)

pub index_mut-requires-2 : goal.index_mut-requires-2
index_mut-requires-2 c =
    let side = c.requires.side in
    let h = quarter_hangs c.args.forest.now c.args.dofs.now c.requires.grown c.requires.numbered c.requires.degree c.args.cell c.args.face 1 (slice_index c.args.cells 1) (slice_index c.args.faces 1) c.requires.cell c.requires.face (omega arith) side.1 side.3 side.5
    c.of_cell-2.result.now _ c.of_cell-2.ensures refl in
    let s = quarter_small c.args.forest.now c.args.dofs.now c.requires.grown c.requires.numbered c.requires.degree c.args.cell c.args.face 1 (slice_index c.of_cell-2.result.now (4 + slice_index c.args.faces 1)) h in
    let l : length c.args.table.now.items ≡ c.args.dofs.now.size = c.requires.size in
    let v = c.args.table.now.ok.0 in
    omega (arith, s, l, v)

pub returns-clause-noted : goal.returns-clause-noted
returns-clause-noted c =
    let side = c.requires.side in
    let h = quarter_hangs c.args.forest.now c.args.dofs.now c.requires.grown c.requires.numbered c.requires.degree c.args.cell c.args.face 0 (slice_index c.args.cells 0) (slice_index c.args.faces 0) c.requires.cell c.requires.face (omega arith) side.0 side.2 side.4
    c.of_cell.result.now _ c.of_cell.ensures refl in
    let k = quarter_hangs c.args.forest.now c.args.dofs.now c.requires.grown c.requires.numbered c.requires.degree c.args.cell c.args.face 1 (slice_index c.args.cells 1) (slice_index c.args.faces 1) c.requires.cell c.requires.face (omega arith) side.1 side.3 side.5
    c.of_cell-2.result.now _ c.of_cell-2.ensures refl in
    quarters_noted c.args.forest.now c.args.dofs.now c.requires.grown c.requires.numbered c.requires.degree c.args.cell c.args.face c.requires.cell c.requires.face
    c.of_cell-row.result.now c.start_of.result c.end_of.result (4 + c.args.face) _ _ c.of_cell-row.ensures c.start_of.ensures.value c.end_of.ensures.value refl h k
    c.args.table.now.items _ c.requires.size refl (length-set c.args.table.now.items _ _ ∙ c.requires.size)
