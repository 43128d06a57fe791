use Rattle.std.proofs.Common.{◌∙◌, ap}
use Rattle.std.proofs.lemmas.Result.{err_from_is_err_and}
use Rattle.fem_text.specs.Lines.{words_of}
use Rattle.problem_read.specs.Shapes.{keyword_at}
use Rattle.problem_read.proofs.Entries.{fails_first}
use Rattle.problem_read.proofs.tables.Tables.add.Goals as goal

pub returns-in_err-keyword-clause-err : goal.returns-in_err-keyword-clause-err
returns-in_err-keyword-clause-err c =
    let p = err_from_is_err_and c.from_residual.result c.from_residual.ensures.1 in
    rw (p.1, p.2)
    (fails_first c.args.self.now (words_of c.args.line.now.bytes.now) c.args.line.now.number c.keyword_at.result c.at_line.result c.in_err-keyword.field-0.0 (c.keyword_at.ensures ∙ ap keyword_at c.of-words.ensures) c.at_line.ensures c.in_err-keyword.was)
