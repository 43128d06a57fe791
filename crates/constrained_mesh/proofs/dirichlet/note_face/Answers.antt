use Rattle.std.proofs.Common.{◌≡◌, ◌∙◌, ◌+◌, ◌∷◌, [], sym, refl, slice_index, arith}
use Rattle.constrained_mesh.proofs.LeastLaws.{vertex_within, middle_within, face_noted, face_passed, noted_by, two_noted, three_noted, dofs_are, three_are, not_two}
use Rattle.constrained_mesh.proofs.dirichlet.note_face.Goals as goal

pub note_id-requires : goal.note_id-requires
note_id-requires c =
    let w = vertex_within c.args.forest.now c.args.dofs.now c.requires.numbered c.args.cell c.start_of.result _ c.of_cell-row.result.now c.requires.cell c.start_of.ensures.small c.of_cell-row.ensures refl in
    omega (arith, w, c.requires.size)

pub note_id-requires-in-Some : goal.note_id-requires-in-Some
note_id-requires-in-Some c =
    let w = vertex_within c.args.forest.now c.args.dofs.now c.requires.numbered c.args.cell c.end_of.result _ c.of_cell-row.result.now c.requires.cell c.end_of.ensures.small c.of_cell-row.ensures refl in
    omega (arith, w, c.requires.size, c.note_id.ensures.size)

pub note_id-requires-then-degree-eq2 : goal.note_id-requires-then-degree-eq2
note_id-requires-then-degree-eq2 c =
    let two : c.args.dofs.now.degree ≡ 2 = sym c.degree.ensures ∙ c.if-degree-eq2.true in
    let w = middle_within c.args.forest.now c.args.dofs.now c.requires.numbered two c.args.cell c.args.face (slice_index c.of_cell-row.result.now (4 + c.args.face)) c.of_cell-row.result.now c.requires.cell c.requires.face c.of_cell-row.ensures refl in
    omega (arith, w, c.requires.size, c.note_id.ensures.size, c.note_id-in-Some.ensures.size)

pub returns-then-degree-eq2-clause-noted : goal.returns-then-degree-eq2-clause-noted
returns-then-degree-eq2-clause-noted c = λ seen held.
    let two : c.args.dofs.now.degree ≡ 2 = sym c.degree.ensures ∙ c.if-degree-eq2.true in
    let row = c.of_cell-row.result.now in
    let first = vertex_within c.args.forest.now c.args.dofs.now c.requires.numbered c.args.cell c.start_of.result _ row c.requires.cell c.start_of.ensures.small c.of_cell-row.ensures refl in
    let last = vertex_within c.args.forest.now c.args.dofs.now c.requires.numbered c.args.cell c.end_of.result _ row c.requires.cell c.end_of.ensures.small c.of_cell-row.ensures refl in
    let middle = middle_within c.args.forest.now c.args.dofs.now c.requires.numbered two c.args.cell c.args.face (slice_index row (4 + c.args.face)) row c.requires.cell c.requires.face c.of_cell-row.ensures refl in
    face_noted c.args.dofs.now.degree c.args.forest.now c.args.problem.now seen (c.args.cell, c.args.face) c.args.ids.now.items c.note_id-then-degree-eq2.new.ids.items c.in-Some.id c.in-Some.ensures.0 c.in-Some.ensures.1
    (noted_by c.in-Some.id _ (slice_index row c.start_of.result ∷ slice_index row c.end_of.result ∷ slice_index row (4 + c.args.face) ∷ []) c.args.ids.now.items c.note_id-then-degree-eq2.new.ids.items
    (three_are c.args.forest.now c.args.dofs.now c.requires.numbered two c.args.cell c.args.face row c.start_of.result c.end_of.result (4 + c.args.face) c.requires.cell c.requires.face c.of_cell-row.ensures c.start_of.ensures.value c.end_of.ensures.value refl)
    (three_noted c.in-Some.id (slice_index row c.start_of.result) (slice_index row c.end_of.result) (slice_index row (4 + c.args.face)) c.args.ids.now.items c.note_id.new.ids.items c.note_id-in-Some.new.ids.items c.note_id-then-degree-eq2.new.ids.items
    (record { within = omega (arith, first, c.requires.size); is = c.note_id.ensures.noted })
    (record { within = omega (arith, last, c.requires.size, c.note_id.ensures.size); is = c.note_id-in-Some.ensures.noted })
    (record { within = omega (arith, middle, c.requires.size, c.note_id.ensures.size, c.note_id-in-Some.ensures.size); is = c.note_id-then-degree-eq2.ensures.noted })))
    (c.note_id-then-degree-eq2.ensures.size ∙ c.note_id-in-Some.ensures.size ∙ c.note_id.ensures.size) held

pub returns-else-degree-eq2-clause-noted : goal.returns-else-degree-eq2-clause-noted
returns-else-degree-eq2-clause-noted c = λ seen held.
    let row = c.of_cell-row.result.now in
    let one = not_two c.args.dofs.now.degree c.requires.numbered.degree (λ e. c.if-degree-eq2.false (c.degree.ensures ∙ e)) in
    let first = vertex_within c.args.forest.now c.args.dofs.now c.requires.numbered c.args.cell c.start_of.result _ row c.requires.cell c.start_of.ensures.small c.of_cell-row.ensures refl in
    let last = vertex_within c.args.forest.now c.args.dofs.now c.requires.numbered c.args.cell c.end_of.result _ row c.requires.cell c.end_of.ensures.small c.of_cell-row.ensures refl in
    face_noted c.args.dofs.now.degree c.args.forest.now c.args.problem.now seen (c.args.cell, c.args.face) c.args.ids.now.items c.note_id-in-Some.new.ids.items c.in-Some.id c.in-Some.ensures.0 c.in-Some.ensures.1
    (noted_by c.in-Some.id _ (slice_index row c.start_of.result ∷ slice_index row c.end_of.result ∷ []) c.args.ids.now.items c.note_id-in-Some.new.ids.items
    (dofs_are c.args.forest.now c.args.dofs.now c.requires.numbered one c.args.cell c.args.face row c.start_of.result c.end_of.result c.requires.cell c.requires.face c.of_cell-row.ensures c.start_of.ensures.value c.end_of.ensures.value)
    (two_noted c.in-Some.id (slice_index row c.start_of.result) (slice_index row c.end_of.result) c.args.ids.now.items c.note_id.new.ids.items c.note_id-in-Some.new.ids.items
    (record { within = omega (arith, first, c.requires.size); is = c.note_id.ensures.noted })
    (record { within = omega (arith, last, c.requires.size, c.note_id.ensures.size); is = c.note_id-in-Some.ensures.noted })))
    (c.note_id-in-Some.ensures.size ∙ c.note_id.ensures.size) held

pub returns-in-None-clause-noted : goal.returns-in-None-clause-noted
returns-in-None-clause-noted c = λ seen held. face_passed c.args.dofs.now.degree c.args.forest.now c.args.problem.now seen (c.args.cell, c.args.face) c.args.ids.now.items c.in-None.ensures held
