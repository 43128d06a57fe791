use Rattle.std.proofs.Common.{drop}
use Rattle.std.specs.Prelude.{pos, unwrap_or}
use Rattle.std.proofs.lemmas.Result.{err_from_is_err_and}
use Rattle.problem_read.proofs.Sums.{sum_none, sum_more, sum_all, sum_fails}
use Rattle.problem_read.proofs.ties.read_sum.Goals as goal

pub loop-word-init : goal.loop-word-init
loop-word-init c = sum_none (drop 3 c.args.words.now) c.behind-left.result c.args.terms.now.items c.behind-left.ensures

pub loop-word-preserved : goal.loop-word-preserved
loop-word-preserved c =
    sum_more (drop 3 c.args.words.now) c.loop-word.left c.next_word.new.self c.args.terms.now.items c.loop-word.terms.items c.add_part.new.terms.items (unwrap_or c.loop-word.constant (pos 0))
    (unwrap_or c.in_ok-constant.constant (pos 0)) c.in-Some.word.now c.loop-word.invariant c.in-Some.ensures c.in_ok-constant.ensures.ok

pub returns-in_err-constant-clause-err : goal.returns-in_err-constant-clause-err
returns-in_err-constant-clause-err c =
    let p = err_from_is_err_and c.from_residual.result c.from_residual.ensures.1 in
    rw (p.1, p.2)
    (sum_fails (drop 3 c.args.words.now) c.loop-word.left c.next_word.new.self c.args.terms.now.items c.loop-word.terms.items (unwrap_or c.loop-word.constant (pos 0)) c.in-Some.word.now
    c.args.line.now.number c.in_err-constant.field-0.0 c.loop-word.invariant c.in-Some.ensures c.in_err-constant.ensures.err)

pub returns-clause-ok : goal.returns-clause-ok
returns-clause-ok c =
    sum_all (drop 3 c.args.words.now) c.loop-word.left c.args.terms.now.items c.loop-word.terms.items (unwrap_or c.loop-word.constant (pos 0)) c.loop-word.invariant c.in_default.ensures.0
