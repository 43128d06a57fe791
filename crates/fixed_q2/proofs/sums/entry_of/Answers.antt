use Rattle.std.proofs.Common.{◌≡◌, ◌∙◌, ℤ, List, [], pos, slice_index_or, FitsSigned}
use Rattle.std.specs.Int.{w128, w64}
use Rattle.std.proofs.lemmas.Int.{to_z-of_z}
use Rattle.fixed_q2.specs.Samples.{kept_entry, kept_row}
use Rattle.fixed_q2.proofs.Rows.{copied_entry, entry_fits, same_fits}
use Rattle.fixed_q2.proofs.sums.entry_of.Goals as goal

pub returns-then-j-i : goal.returns-then-j-i
returns-then-j-i c =
    let d : ℤ = c.args.diffusion in
    let row : List ℤ = slice_index_or c.args.matrix.now c.args.j [] in
    let stands : row ≡ kept_row c.args.samples.now d c.args.j = c.requires.matrix c.args.j c.if-j-i.true in
    let value : slice_index_or row c.args.i (pos 0) ≡ kept_entry c.args.samples.now d c.args.i c.args.j =
    copied_entry c.args.samples.now d c.args.i c.args.j row stands c.requires.i in
    let fits : FitsSigned w128 (slice_index_or row c.args.i (pos 0)) =
    same_fits (slice_index_or row c.args.i (pos 0)) (kept_entry c.args.samples.now d c.args.i c.args.j) value (entry_fits c.args.samples.now d c.args.i c.args.j c.requires.samples c.told-samples c.requires.diffusion c.requires.i c.requires.j) in
    to_z-of_z w128 (slice_index_or row c.args.i (pos 0)) fits ∙ value

pub matrix_entry-requires-clause-fluxes : goal.matrix_entry-requires-clause-fluxes
matrix_entry-requires-clause-fluxes c =
    let fd : FitsSigned w64 c.args.diffusion = c.ranges.diffusion in
    simp to_z-of_z c.requires.fluxes
