use Rattle.std.proofs.Common.{◌∙◌, sym, refl, inr}
use Rattle.std.specs.Prelude.{pos, unwrap_or}
use Rattle.problem_read.proofs.Sums.{bad_term, bad_constant, part_constant, part_none}
use Rattle.problem_read.proofs.ItemLists.{none_when, some_when}
use Rattle.problem_read.proofs.ties.add_part.Goals as goal

pub returns-in_default-clause-err : goal.returns-in_default-clause-err
returns-in_default-clause-err c =
    rw c.at_line.ensures (inr (record { kind_is = bad_term c.args.word.now (sym c.is_term.ensures ∙ c.if-is_term.true) (sym c.in_default.ensures); line_is = refl }))

pub returns-then-is_none-clause-err : goal.returns-then-is_none-clause-err
returns-then-is_none-clause-err c =
    rw c.at_line-then-is_none.ensures
    (inr (record {
      kind_is = bad_constant c.args.word.now (sym c.is_constant.ensures ∙ c.if-is_constant.true) (sym c.constant_of-value.ensures ∙ none_when c.constant_of-value.result c.is_none.result c.is_none.ensures c.if-is_none.true);
      line_is = refl;
    }))

pub returns-then-is_constant-clause-ok : goal.returns-then-is_constant-clause-ok
returns-then-is_constant-clause-ok c =
    part_constant c.args.word.now c.args.terms.now.items (unwrap_or c.args.constant (pos 0)) c.constant_of-value.result (sym c.is_term.ensures ∙ c.if-is_term.false) (sym c.is_constant.ensures ∙ c.if-is_constant.true)
    c.constant_of-value.ensures (some_when c.constant_of-value.result c.is_none.result c.is_none.ensures c.if-is_none.false)

pub returns-clause-ok : goal.returns-clause-ok
returns-clause-ok c =
    part_none c.args.word.now c.args.terms.now.items (unwrap_or c.args.constant (pos 0)) (sym c.is_term.ensures ∙ c.if-is_term.false) (sym c.is_constant.ensures ∙ c.if-is_constant.false)
