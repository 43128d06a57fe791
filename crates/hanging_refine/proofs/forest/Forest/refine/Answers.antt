use Rattle.std.proofs.Common.{ap, ◌∙◌, length}
use Rattle.hanging_refine.proofs.Taken.{falls_at, taken, divisible_at, tables_at, built, sound_at, refined_at, unfit_at}
use Rattle.hanging_refine.proofs.forest.Forest.refine.Goals as goal

pub chosen_marks-requires-clause-falls : goal.chosen_marks-requires-clause-falls
chosen_marks-requires-clause-falls c =
    falls_at c.self.inside.mesh c.self.inside.cells.items _ c.self.inside.sides.items _ c.self.inside.table c.self.invariant c.deref.ensures.value c.deref-2.ensures.value

pub returns-in-Err-clause-fault : goal.returns-in-Err-clause-fault
returns-in-Err-clause-fault c = λ _.
    unfit_at c.self.inside.mesh c.self.inside.cells.items _ _ c.self.inside.sides.items _ c.self.inside.table c.in_ok-marks.marks.items _ c.args.asked.now c.args.self.now c.in-Err.fault c.self.invariant
    c.deref.ensures.value c.deref-2.ensures.value c.deref-3.ensures.value c.deref-4.ensures.value c.in_ok-marks.ensures.length c.in_ok-marks.ensures.chosen c.self.view_is c.in-Err.ensures.fault

pub next_cells-requires-clause-divisible : goal.next_cells-requires-clause-divisible
next_cells-requires-clause-divisible c =
    let t = taken c.self.inside.mesh c.self.inside.cells.items _ _ c.self.inside.sides.items _ c.self.inside.table c.in_ok-marks.marks.items _ c.args.asked.now c.in-Ok.count c.self.invariant
    c.deref.ensures.value c.deref-2.ensures.value c.deref-3.ensures.value c.deref-4.ensures.value c.in_ok-marks.ensures.length c.in_ok-marks.ensures.chosen c.in-Ok.ensures.ok in
    divisible_at c.self.inside.mesh c.self.inside.cells.items _ c.self.inside.sides.items c.self.inside.table c.in_ok-marks.marks.items _ c.args.asked.now c.in-Ok.count t c.deref-10.ensures.value c.deref-11.ensures.value

pub next_sides-requires-clause-tables : goal.next_sides-requires-clause-tables
next_sides-requires-clause-tables c =
    tables_at c.self.inside.cells.items _ c.in_ok-marks.marks.items c.deref-5.result.now _ c.in_ok-places.places.items _ c.deref-6.ensures.value c.deref-8.ensures.value c.deref-9.ensures.value c.deref-5.ensures.value
    (c.in_ok-marks.ensures.length ∙ ap length c.deref.ensures.value) c.self.invariant.count c.in_ok-places.ensures.length c.in_ok-places.ensures.places

pub invariant_of-self-2 : goal.invariant_of-self-2
invariant_of-self-2 c =
    let t = taken c.self.inside.mesh c.self.inside.cells.items _ _ c.self.inside.sides.items _ c.self.inside.table c.in_ok-marks.marks.items _ c.args.asked.now c.in-Ok.count c.self.invariant
    c.deref.ensures.value c.deref-2.ensures.value c.deref-3.ensures.value c.deref-4.ensures.value c.in_ok-marks.ensures.length c.in_ok-marks.ensures.chosen c.in-Ok.ensures.ok in
    let b = built c.self.inside.mesh c.self.inside.cells.items _ _ c.in_ok-cells.cells.items c.self.inside.sides.items _ c.in_ok-sides.sides.items c.self.inside.table c.next_cells.new.table c.in_ok-marks.marks.items _ _ _ c.in_ok-places.places.items _
    c.self.invariant.stored (c.in_ok-marks.ensures.length ∙ ap length c.deref.ensures.value) c.deref-10.ensures.value c.deref-6.ensures.value c.deref-7.ensures.value c.deref-5.ensures.value c.deref-11.ensures.value c.deref-8.ensures.value c.deref-9.ensures.value
    c.in_ok-cells.ensures.names c.in_ok-cells.ensures.stored c.next_cells.ensures.one c.in_ok-places.ensures.places c.in_ok-sides.ensures.length c.in_ok-sides.ensures.held in
    sound_at c.self.inside.mesh c.self.inside.cells.items c.in_ok-cells.cells.items c.self.inside.sides.items c.in_ok-sides.sides.items c.self.inside.table c.next_cells.new.table c.in_ok-marks.marks.items c.in_ok-places.places.items c.args.asked.now c.in-Ok.count t b

pub returns-clause-ok : goal.returns-clause-ok
returns-clause-ok c =
    let t = taken c.self.inside.mesh c.self.inside.cells.items _ _ c.self.inside.sides.items _ c.self.inside.table c.in_ok-marks.marks.items _ c.args.asked.now c.in-Ok.count c.self.invariant
    c.deref.ensures.value c.deref-2.ensures.value c.deref-3.ensures.value c.deref-4.ensures.value c.in_ok-marks.ensures.length c.in_ok-marks.ensures.chosen c.in-Ok.ensures.ok in
    let b = built c.self.inside.mesh c.self.inside.cells.items _ _ c.in_ok-cells.cells.items c.self.inside.sides.items _ c.in_ok-sides.sides.items c.self.inside.table c.next_cells.new.table c.in_ok-marks.marks.items _ _ _ c.in_ok-places.places.items _
    c.self.invariant.stored (c.in_ok-marks.ensures.length ∙ ap length c.deref.ensures.value) c.deref-10.ensures.value c.deref-6.ensures.value c.deref-7.ensures.value c.deref-5.ensures.value c.deref-11.ensures.value c.deref-8.ensures.value c.deref-9.ensures.value
    c.in_ok-cells.ensures.names c.in_ok-cells.ensures.stored c.next_cells.ensures.one c.in_ok-places.ensures.places c.in_ok-sides.ensures.length c.in_ok-sides.ensures.held in
    refined_at c.self.inside.mesh c.self.inside.cells.items c.in_ok-cells.cells.items c.self.inside.sides.items c.in_ok-sides.sides.items c.self.inside.table c.next_cells.new.table c.in_ok-marks.marks.items c.in_ok-places.places.items c.args.asked.now c.in-Ok.count c.args.self.now t b c.next_cells.ensures.more c.self.view_is
