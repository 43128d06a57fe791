use Rattle.std.proofs.lemmas.Result.{err_from_is_err_and}
use Rattle.matrix_market.specs.Market.{vector_form}
use Rattle.matrix_market.proofs.Steps.{sized, fails_in_entries, fails_in_rest}
use Rattle.matrix_market.proofs.vector_reader.read_vector.Goals as goal

pub returns-in_err-values-clause-err : goal.returns-in_err-values-clause-err
returns-in_err-values-clause-err c =
    let p = err_from_is_err_and c.from_residual-in_err-values.result c.from_residual-in_err-values.ensures.1 in
    let size = c.in_ok-size.ensures in
    let so_far = sized vector_form c.args.text.now c.new-lines.result c.read_banner.new.lines c.read_vector_size.new.lines c.in_ok-size.size c.new-lines.ensures
    c.in_ok-read_banner.ensures.ok c.in_ok-read_banner.ensures.lines size.ok size.lines in
    rw (p.1, p.2)
    (fails_in_entries vector_form c.args.text.now c.read_vector_size.new.lines c.in_ok-size.size c.in_err-values.field-0.0 so_far c.in_err-values.ensures.err)

pub returns-in_err-read_end-clause-err : goal.returns-in_err-read_end-clause-err
returns-in_err-read_end-clause-err c =
    let p = err_from_is_err_and c.from_residual-in_err-read_end.result c.from_residual-in_err-read_end.ensures.1 in
    let size = c.in_ok-size.ensures in
    let so_far = sized vector_form c.args.text.now c.new-lines.result c.read_banner.new.lines c.read_vector_size.new.lines c.in_ok-size.size c.new-lines.ensures
    c.in_ok-read_banner.ensures.ok c.in_ok-read_banner.ensures.lines size.ok size.lines in
    rw (p.1, p.2)
    (fails_in_rest vector_form c.args.text.now c.read_vector_size.new.lines c.read_values.new.lines c.in_ok-size.size c.in_ok-values.values.items c.in_err-read_end.field-0.0
    so_far c.in_ok-values.ensures.ok c.in_ok-values.ensures.lines c.in_err-read_end.ensures.err)
