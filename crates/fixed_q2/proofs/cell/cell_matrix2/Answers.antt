use Rattle.std.proofs.Common.{◌≡◌, ◌∙◌, sym, FitsSigned}
use Rattle.std.specs.Int.{w64}
use Rattle.std.proofs.lemmas.Int.{to_z-of_z}
use Rattle.fixed_q1.proofs.Bounds.{all_small}
use Rattle.fixed_q2.specs.Samples.{kept_matrix, kept_load}
use Rattle.fixed_q2.proofs.Forms.{regular_all, form_distorted, form_large, form_kept, load_kept}
use Rattle.fixed_q2.proofs.Loads.{load_small, all_same}
use Rattle.fixed_q2.specs.CellForm.{load_vector}
use Rattle.fixed_q2.proofs.cell.cell_matrix2.Goals as goal

pub returns-then-has_folded_point-clause-fault : goal.returns-then-has_folded_point-clause-fault
returns-then-has_folded_point-clause-fault c =
    form_distorted c.args.points.now c.args.diffusion c.args.source c.samples-scratch.result c.samples-scratch.ensures.value
    (sym c.has_folded_point.ensures ∙ c.if-has_folded_point.true)

pub fluxes_of_all-scratch-requires-clause-samples : goal.fluxes_of_all-scratch-requires-clause-samples
fluxes_of_all-scratch-requires-clause-samples c =
    regular_all c.samples-scratch.result c.samples-scratch.ensures.bounded (sym c.has_folded_point.ensures ∙ c.if-has_folded_point.false)

pub matrix_of-entries-requires-clause-samples : goal.matrix_of-entries-requires-clause-samples
matrix_of-entries-requires-clause-samples c =
    regular_all c.samples-scratch.result c.samples-scratch.ensures.bounded (sym c.has_folded_point.ensures ∙ c.if-has_folded_point.false)

pub load_of-requires-clause-samples : goal.load_of-requires-clause-samples
load_of-requires-clause-samples c =
    regular_all c.samples-scratch.result c.samples-scratch.ensures.bounded (sym c.has_folded_point.ensures ∙ c.if-has_folded_point.false)

pub returns-then-has_large_entry-clause-fault : goal.returns-then-has_large_entry-clause-fault
returns-then-has_large_entry-clause-fault c =
    let narrow : FitsSigned w64 c.args.diffusion = c.ranges.diffusion in
    let raw = c.matrix_of-entries.ensures in
    let entries : c.matrix_of-entries.result ≡ kept_matrix c.samples-scratch.result c.args.diffusion = simp to_z-of_z at raw in
    form_large c.args.points.now c.args.diffusion c.args.source c.samples-scratch.result c.matrix_of-entries.result c.samples-scratch.ensures.value entries
    (sym c.has_folded_point.ensures ∙ c.if-has_folded_point.false) (sym c.has_large_entry.ensures ∙ c.if-has_large_entry.true)

pub returns-clause-ok : goal.returns-clause-ok
returns-clause-ok c =
    let narrow : FitsSigned w64 c.args.diffusion = c.ranges.diffusion in
    let narrow_source : FitsSigned w64 c.args.source = c.ranges.source in
    let raw = c.matrix_of-entries.ensures in
    let entries : c.matrix_of-entries.result ≡ kept_matrix c.samples-scratch.result c.args.diffusion = simp to_z-of_z at raw in
    let raw_load = c.load_of.ensures in
    let load : c.load_of.result ≡ kept_load c.samples-scratch.result c.args.source = simp to_z-of_z at raw_load in
    form_kept c.args.points.now c.args.diffusion c.args.source c.samples-scratch.result c.matrix_of-entries.result c.load_of.result c.samples-scratch.ensures.value
    entries load (sym c.has_folded_point.ensures ∙ c.if-has_folded_point.false) (sym c.has_large_entry.ensures ∙ c.if-has_large_entry.false)

pub returns-clause-small : goal.returns-clause-small
returns-clause-small c = all_small c.matrix_of-entries.result (sym c.has_large_entry.ensures ∙ c.if-has_large_entry.false)

pub returns-clause-small_load : goal.returns-clause-small_load
returns-clause-small_load c =
    let narrow_source : FitsSigned w64 c.args.source = c.ranges.source in
    let raw_load = c.load_of.ensures in
    let load : c.load_of.result ≡ kept_load c.samples-scratch.result c.args.source = simp to_z-of_z at raw_load in
    all_same c.load_of.result (load_vector c.args.points.now c.args.source)
    (load_kept c.args.points.now c.args.source c.samples-scratch.result c.load_of.result c.samples-scratch.ensures.value load)
    (load_small c.args.points.now c.args.source c.told-points c.requires.points c.requires.source)
