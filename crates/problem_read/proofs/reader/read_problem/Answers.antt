use Rattle.std.proofs.Common.{subst, sym}
use Rattle.std.specs.Prelude.{Some}
use Rattle.std.proofs.lemmas.Result.{err_from_is_err_and}
use Rattle.fem_text.specs.WordLines.{text_lines}
use Rattle.problem_read.specs.Problem.{ProblemText}
use Rattle.problem_read.specs.Limits.{AreWithinLimits}
use Rattle.problem_read.proofs.SoFar.{holds_none, holds_more, holds_fails, holds_all}
use Rattle.problem_read.proofs.reader.read_problem.Goals as goal

pub loop-line-init : goal.loop-line-init
loop-line-init c = holds_none (text_lines (Some 35) c.args.text.now) c.new-lines.result c.new-tables.result c.new-lines.ensures c.new-tables.ensures

pub returns-in_err-add-clause-err : goal.returns-in_err-add-clause-err
returns-in_err-add-clause-err c =
    let p = err_from_is_err_and c.from_residual.result c.from_residual.ensures.1 in
    rw (p.1, p.2)
    (holds_fails (text_lines (Some 35) c.args.text.now) c.loop-line.lines c.next_line.new.self c.loop-line.tables c.in-Some.line c.in_err-add.field-0.0 c.loop-line.invariant c.in-Some.ensures c.in_err-add.ensures.err)

pub loop-line-preserved : goal.loop-line-preserved
loop-line-preserved c =
    holds_more (text_lines (Some 35) c.args.text.now) c.loop-line.lines c.next_line.new.self c.loop-line.tables c.add.new.self c.in-Some.line c.loop-line.invariant c.in-Some.ensures c.in_ok-add.ensures.ok

pub returns-clause-ok : goal.returns-clause-ok
returns-clause-ok c = subst (ProblemText c.args.text.now) (sym c.new.ensures) (holds_all c.args.text.now c.loop-line.lines c.loop-line.tables c.loop-line.invariant c.in_default.ensures.0)

pub returns-clause-limits : goal.returns-clause-limits
returns-clause-limits c = subst AreWithinLimits (sym c.new.ensures) c.loop-line.invariant.limits

pub new-requires : goal.new-requires
new-requires c = c.loop-line.invariant.limits
