use Rattle.std.proofs.Common.{◌∙◌, [], ◌∷◌, ℤ, decimal, to_z, of_z, FitsSigned, rules}
use Rattle.std.specs.Prelude.{codes}
use Rattle.std.specs.Fmt.{signed_decimal}
use Rattle.std.specs.Int.{w128}
use Rattle.std.proofs.lemmas.Int.{to_z-of_z}
use Rattle.matrix_market.specs.Entries.{right_sides, values_of}
use Rattle.run_summary.specs.Summary.{number_line}
use Rattle.run_summary.proofs.Lines.{line_more, whole_summary}
use Rattle.run_summary.proofs.text.summary_text.Goals as goal

pub returns : goal.returns
returns c =
    let sums = c.system_sums-sums.result in
    let read : ℤ → ℤ = λ value. to_z w128 (of_z w128 value) in
    let cells = number_line (codes "cells") (decimal c.args.cells) in
    let dofs = number_line (codes "dofs") (decimal c.size.result) in
    let entries = number_line (codes "entries") (decimal c.entries.result) in
    let diagonal = number_line (codes "diagonal") (signed_decimal (read sums.diagonal)) in
    let weighted = number_line (codes "weighted") (signed_decimal (read sums.weighted)) in
    let rhs = number_line (codes "rhs") (signed_decimal (read sums.rhs)) in
    let one = line_more c.in_ok-text.text.items c.append_line.new.text.items [] cells c.in_ok-text.ensures.items c.in_ok-append_line.ensures in
    let two = line_more c.append_line.new.text.items c.append_line-2.new.text.items (cells ∷ []) dofs one c.in_ok-append_line-2.ensures in
    let three = line_more c.append_line-2.new.text.items c.append_line-3.new.text.items (cells ∷ dofs ∷ []) entries two c.in_ok-append_line-3.ensures in
    let four = line_more c.append_line-3.new.text.items c.append_line-4.new.text.items (cells ∷ dofs ∷ entries ∷ []) diagonal three c.in_ok-append_line-4.ensures in
    let five = line_more c.append_line-4.new.text.items c.append_line-5.new.text.items (cells ∷ dofs ∷ entries ∷ diagonal ∷ []) weighted four c.in_ok-append_line-5.ensures in
    let six = line_more c.append_line-5.new.text.items c.append_line-6.new.text.items (cells ∷ dofs ∷ entries ∷ diagonal ∷ weighted ∷ []) rhs five c.in_ok-append_line-6.ensures in
    let diagonal_fits : FitsSigned w128 sums.diagonal = search rules in
    let weighted_fits : FitsSigned w128 sums.weighted = search rules in
    let rhs_fits : FitsSigned w128 sums.rhs = search rules in
    six ∙ whole_summary c.args.cells c.args.pattern.now (values_of c.args.rows.now) (right_sides c.args.rows.now) c.size.result c.entries.result (read sums.diagonal) (read sums.weighted) (read sums.rhs)
    c.size.ensures.size c.entries.ensures (to_z-of_z w128 sums.diagonal diagonal_fits ∙ c.system_sums-sums.ensures.diagonal)
    (to_z-of_z w128 sums.weighted weighted_fits ∙ c.system_sums-sums.ensures.weighted) (to_z-of_z w128 sums.rhs rhs_fits ∙ c.system_sums-sums.ensures.rhs)
