use Rattle.std.proofs.Common.{rules}
use Rattle.std.proofs.lemmas.Result.{err_from_is_err_and}
use Rattle.matrix_market.specs.Lines.{vector_entry}
use Rattle.matrix_market.proofs.Steps.{entry_step, entry_fails}
use Rattle.matrix_market.proofs.vector_reader.read_values.Goals as goal

pub returns-in_err-value-clause-err : goal.returns-in_err-value-clause-err
returns-in_err-value-clause-err c =
    let p = err_from_is_err_and c.from_residual.result c.from_residual.ensures.1 in
    rw (p.1, p.2)
    (entry_fails vector_entry c.args.lines.now c.loop.lines c.loop.counter c.args.count c.loop.values.items c.in_err-value.field-0.0
    c.loop.invariant.0 c.loop.invariant.1 c.loop-test.true c.in_err-value.ensures.err)

pub loop-preserved : goal.loop-preserved
loop-preserved c =
    entry_step vector_entry c.args.lines.now c.loop.lines c.read_value_line.new.lines c.loop.counter c.loop.values.items c.push.new.items.items c.in_ok-value.value
    c.loop.invariant.0 c.loop.invariant.1 c.in_ok-value.ensures.ok c.in_ok-value.ensures.lines (search rules)
