use Rattle.std.proofs.Common.{◌≡◌, length, arith}
use Rattle.dof_numbers.proofs.Noting.{middle_hangs, middle_small, middle_noted}
use Rattle.dof_numbers.proofs.hanging.note_middle.Goals as goal

pub index_mut-requires : goal.index_mut-requires
index_mut-requires c =
    let h = middle_hangs c.args.forest.now c.args.dofs.now c.requires.grown c.requires.numbered c.requires.degree c.args.cell c.args.face c.args.cells c.args.faces c.requires.cell c.requires.face c.requires.side
    c.of_cell-row.result.now c.of_cell-smaller.result.now c.start_of.result c.start_of-2.result c.end_of-2.result c.other-middle.result
    c.of_cell-row.ensures c.of_cell-smaller.ensures c.start_of.ensures.value c.start_of-2.ensures.value c.end_of-2.ensures.value c.other-middle.ensures in
    let s = middle_small c.args.forest.now c.args.dofs.now c.requires.grown c.requires.numbered c.requires.degree c.args.cell c.args.face c.other-middle.result h in
    let l : length c.args.table.now.items ≡ c.args.dofs.now.size = c.requires.size in
    let v = c.args.table.now.ok.0 in
    omega (arith, s, l, v)

pub returns-clause-noted : goal.returns-clause-noted
returns-clause-noted c =
    middle_noted c.args.forest.now c.args.dofs.now c.requires.grown c.requires.numbered c.requires.degree c.args.cell c.args.face c.args.cells c.args.faces c.requires.cell c.requires.face c.requires.side
    c.of_cell-row.result.now c.of_cell-smaller.result.now c.start_of.result c.end_of.result c.start_of-2.result c.end_of-2.result c.other-middle.result
    c.of_cell-row.ensures c.of_cell-smaller.ensures c.start_of.ensures.value c.end_of.ensures.value c.start_of-2.ensures.value c.end_of-2.ensures.value c.other-middle.ensures
    c.args.table.now.items c.requires.size
