use Rattle.std.proofs.lemmas.Result.{err_from_is_err_and}
use Rattle.matrix_market.specs.Lines.{matrix_entry}
use Rattle.matrix_market.proofs.Steps.{entry_step, entry_fails}
use Rattle.matrix_market.proofs.matrix_reader.read_entries.Goals as goal

pub returns-in_err-entry-clause-err : goal.returns-in_err-entry-clause-err
returns-in_err-entry-clause-err c =
    let p = err_from_is_err_and c.from_residual.result c.from_residual.ensures.1 in
    rw (p.1, p.2)
    (entry_fails (matrix_entry c.args.size) c.args.lines.now c.loop.lines c.loop.counter c.args.size.count c.loop.entries.items c.in_err-entry.field-0.0
    c.loop.invariant.0 c.loop.invariant.1 c.loop-test.true c.in_err-entry.ensures.err)

pub loop-preserved : goal.loop-preserved
loop-preserved c =
    entry_step (matrix_entry c.args.size) c.args.lines.now c.loop.lines c.read_entry.new.lines c.loop.counter c.loop.entries.items c.push.new.items.items c.in_ok-entry.entry
    c.loop.invariant.0 c.loop.invariant.1 c.in_ok-entry.ensures.ok c.in_ok-entry.ensures.lines c.in_ok-push.ensures
