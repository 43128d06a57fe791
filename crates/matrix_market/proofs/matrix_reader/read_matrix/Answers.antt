use Rattle.std.proofs.lemmas.Result.{err_from_is_err_and}
use Rattle.matrix_market.specs.Market.{matrix_form}
use Rattle.matrix_market.proofs.Steps.{sized, fails_in_entries, fails_in_rest}
use Rattle.matrix_market.proofs.matrix_reader.read_matrix.Goals as goal

pub returns-in_err-entries-clause-err : goal.returns-in_err-entries-clause-err
returns-in_err-entries-clause-err c =
    let p = err_from_is_err_and c.from_residual-in_err-entries.result c.from_residual-in_err-entries.ensures.1 in
    let size = c.in_ok-size.ensures in
    let so_far = sized matrix_form c.args.text.now c.new-lines.result c.read_banner.new.lines c.read_matrix_size.new.lines c.in_ok-size.size c.new-lines.ensures
    c.in_ok-read_banner.ensures.ok c.in_ok-read_banner.ensures.lines size.ok size.lines in
    rw (p.1, p.2)
    (fails_in_entries matrix_form c.args.text.now c.read_matrix_size.new.lines c.in_ok-size.size c.in_err-entries.field-0.0 so_far c.in_err-entries.ensures.err)

pub returns-in_err-read_end-clause-err : goal.returns-in_err-read_end-clause-err
returns-in_err-read_end-clause-err c =
    let p = err_from_is_err_and c.from_residual-in_err-read_end.result c.from_residual-in_err-read_end.ensures.1 in
    let size = c.in_ok-size.ensures in
    let so_far = sized matrix_form c.args.text.now c.new-lines.result c.read_banner.new.lines c.read_matrix_size.new.lines c.in_ok-size.size c.new-lines.ensures
    c.in_ok-read_banner.ensures.ok c.in_ok-read_banner.ensures.lines size.ok size.lines in
    rw (p.1, p.2)
    (fails_in_rest matrix_form c.args.text.now c.read_matrix_size.new.lines c.read_entries.new.lines c.in_ok-size.size c.in_ok-entries.entries.items c.in_err-read_end.field-0.0
    so_far c.in_ok-entries.ensures.ok c.in_ok-entries.ensures.lines c.in_err-read_end.ensures.err)
