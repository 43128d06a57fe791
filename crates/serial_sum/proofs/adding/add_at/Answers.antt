use Rattle.std.proofs.Common.{◌≡◌, ◌∙◌, sym, ap, refl, subst, ℕ, ℤ, List, pos, to_z, of_z, lit<, ◌^◌, ◌≤◌}
use Rattle.std.specs.Prelude.{is_some, slice_index_or, slice_set, unsigned_abs}
use Rattle.std.specs.Int.{w128}
use Rattle.std.proofs.lemmas.Int.{to_z-of_z}
use Rattle.fem_fixed.specs.KeptSum.{added}
use Rattle.fem_fixed.proofs.Sizes.{size_fits}
use Rattle.sparsity.specs.declared.rows.Row.{Row}
use Rattle.serial_sum.specs.declared.part.Target.TheVariants.{Column}
use Rattle.serial_sum.specs.Rows.{entry_of, next}
use Rattle.serial_sum.proofs.RowLaws.{place_is, row_written, next_small}
use Rattle.serial_sum.proofs.adding.add_at.Goals as goal

pub add_to-sum-requires-clause-entry : goal.add_to-sum-requires-clause-entry
add_to-sum-requires-clause-entry c =
    let j : ℕ = slice_index_or c.args.columns.now c.args.place 0 in
    let same : c.get.result ≡ entry_of c.args.columns.now c.args.row.now (Column j) =
    c.get.ensures ∙ ap (λ p. slice_index_or c.args.row.now.values p (pos 0)) (place_is c.args.columns.now c.args.place j c.requires.rising c.requires.within refl) in
    let Small : ℤ → Type 0 = λ z. unsigned_abs z ≤ 2 ^ 80 in
    let small = subst Small (sym same) (c.requires.fits.small (Column j)) in
    subst Small (sym (to_z-of_z w128 c.get.result (size_fits c.get.result (2 ^ 80) small (lit< tt)))) small

pub returns-clause-row : goal.returns-clause-row
returns-clause-row c =
    let j : ℕ = slice_index_or c.args.columns.now c.args.place 0 in
    let same : c.get.result ≡ entry_of c.args.columns.now c.args.row.now (Column j) =
    c.get.ensures ∙ ap (λ p. slice_index_or c.args.row.now.values p (pos 0)) (place_is c.args.columns.now c.args.place j c.requires.rising c.requires.within refl) in
    let Small : ℤ → Type 0 = λ z. unsigned_abs z ≤ 2 ^ 80 in
    let small = subst Small (sym same) (c.requires.fits.small (Column j)) in
    let is : c.add_to-sum.result.entry ≡ next c.args.digits (entry_of c.args.columns.now c.args.row.now (Column j)) c.args.value =
    c.add_to-sum.ensures.next ∙ ap (λ e. next c.args.digits e (to_z w128 (of_z w128 c.args.value))) (to_z-of_z w128 c.get.result (size_fits c.get.result (2 ^ 80) small (lit< tt)))
    ∙ ap (λ v. next c.args.digits c.get.result v) (to_z-of_z w128 c.args.value c.ranges.value) ∙ ap (λ e. next c.args.digits e c.args.value) same in
    let sum_small = subst Small (sym is) (next_small c.args.digits (entry_of c.args.columns.now c.args.row.now (Column j)) c.args.value (c.requires.fits.small (Column j))) in
    let written : c.set.new.self ≡ slice_set c.args.row.now.values c.args.place c.add_to-sum.result.entry =
    c.set.ensures ∙ ap (slice_set c.args.row.now.values c.args.place) (to_z-of_z w128 c.add_to-sum.result.entry (size_fits c.add_to-sum.result.entry (2 ^ 80) sum_small (lit< tt))) in
    ap (λ (vs : List ℤ). let row : Row = record { values = vs; rhs = c.args.row.now.rhs; mark = c.args.row.now.mark } in row) written
    ∙ row_written c.args.digits c.args.columns.now c.args.row.now c.args.place c.args.value c.add_to-sum.result.entry c.requires.rising c.requires.within is

pub returns-clause-added : goal.returns-clause-added
returns-clause-added c =
    let j : ℕ = slice_index_or c.args.columns.now c.args.place 0 in
    let same : c.get.result ≡ entry_of c.args.columns.now c.args.row.now (Column j) =
    c.get.ensures ∙ ap (λ p. slice_index_or c.args.row.now.values p (pos 0)) (place_is c.args.columns.now c.args.place j c.requires.rising c.requires.within refl) in
    let Small : ℤ → Type 0 = λ z. unsigned_abs z ≤ 2 ^ 80 in
    let small = subst Small (sym same) (c.requires.fits.small (Column j)) in
    c.add_to-sum.ensures.added
    ∙ ap (λ e. is_some (added c.args.digits e (to_z w128 (of_z w128 c.args.value)))) (to_z-of_z w128 c.get.result (size_fits c.get.result (2 ^ 80) small (lit< tt)))
    ∙ ap (λ v. is_some (added c.args.digits c.get.result v)) (to_z-of_z w128 c.args.value c.ranges.value)
    ∙ ap (λ e. is_some (added c.args.digits e c.args.value)) same
