use Rattle.std.proofs.Common.{◌≡◌, ◌∙◌, sym, ap, arith}
use Rattle.std.specs.Prelude.{true, slice_index_or}
use Rattle.std.specs.Int.{w128}
use Rattle.std.proofs.lemmas.Int.{to_z-of_z}
use Rattle.serial_sum.specs.declared.part.Target.TheVariants.{Column}
use Rattle.serial_sum.specs.Columns.{has_column}
use Rattle.serial_sum.specs.Rows.{has_target, is_added, added_row}
use Rattle.serial_sum.proofs.RowLaws.{held_place, at_place}
use Rattle.serial_sum.proofs.adding.add.Goals as goal

pub add_at-requires-clause-within : goal.add_at-requires-clause-within
add_at-requires-clause-within c =
    let held : has_column c.args.columns.now c.in-Column.j ≡ true = ap (has_target c.args.columns.now) (sym c.in-Column.is) ∙ c.requires.held in
    let below = held_place c.args.columns.now c.in-Column.j held in
    omega (arith, below, c.place_of.ensures)

pub returns-in-Column-clause-row : goal.returns-in-Column-clause-row
returns-in-Column-clause-row c =
    let held : has_column c.args.columns.now c.in-Column.j ≡ true = ap (has_target c.args.columns.now) (sym c.in-Column.is) ∙ c.requires.held in
    let column : slice_index_or c.args.columns.now c.place_of.result 0 ≡ c.in-Column.j = ap (λ p. slice_index_or c.args.columns.now p 0) c.place_of.ensures ∙ at_place c.args.columns.now c.in-Column.j held in
    c.add_at.ensures.row
    ∙ ap (λ v. added_row c.args.digits c.args.columns.now c.args.row.now (Column (slice_index_or c.args.columns.now c.place_of.result 0)) v) (to_z-of_z w128 c.args.value c.ranges.value)
    ∙ ap (λ j. added_row c.args.digits c.args.columns.now c.args.row.now (Column j) c.args.value) column
    ∙ ap (λ t. added_row c.args.digits c.args.columns.now c.args.row.now t c.args.value) (sym c.in-Column.is)

pub returns-in-Column-clause-added : goal.returns-in-Column-clause-added
returns-in-Column-clause-added c =
    let held : has_column c.args.columns.now c.in-Column.j ≡ true = ap (has_target c.args.columns.now) (sym c.in-Column.is) ∙ c.requires.held in
    let column : slice_index_or c.args.columns.now c.place_of.result 0 ≡ c.in-Column.j = ap (λ p. slice_index_or c.args.columns.now p 0) c.place_of.ensures ∙ at_place c.args.columns.now c.in-Column.j held in
    c.add_at.ensures.added
    ∙ ap (λ v. is_added c.args.digits c.args.columns.now c.args.row.now (Column (slice_index_or c.args.columns.now c.place_of.result 0)) v) (to_z-of_z w128 c.args.value c.ranges.value)
    ∙ ap (λ j. is_added c.args.digits c.args.columns.now c.args.row.now (Column j) c.args.value) column
    ∙ ap (λ t. is_added c.args.digits c.args.columns.now c.args.row.now t c.args.value) (sym c.in-Column.is)
