use Rattle.std.proofs.Common.{◌∙◌}
use Rattle.vector_texts.proofs.Chain.{many_dofs, vector_ends_marks, marks_end, marks_go}
use Rattle.vector_texts.proofs.marks.mark_cells.Goals as goal

pub returns-in-Err-clause-ends : goal.returns-in-Err-clause-ends
returns-in-Err-clause-ends g c =
    vector_ends_marks c.args.count c.args.forest.now c.args.values.now c.as_slice.result.now c.size.result c.in-Err.ending
    (c.size.ensures ∙ many_dofs c.args.forest.now c.in_ok-dofs.dofs c.in_ok-dofs.ensures.dofs c.in_ok-dofs.ensures.degree) c.as_slice.ensures c.in-Err.ensures.ends

pub returns-in-Err-indicators_of-clause-ends : goal.returns-in-Err-indicators_of-clause-ends
returns-in-Err-indicators_of-clause-ends g c =
    marks_end c.args.count c.args.forest.now c.args.values.now c.as_slice.result.now c.in-Ok.x.items c.as_slice-2.result.now c.size.result c.in-Err-indicators_of.ending
    (record {
      size_is = c.size.ensures ∙ many_dofs c.args.forest.now c.in_ok-dofs.dofs c.in_ok-dofs.ensures.dofs c.in_ok-dofs.ensures.degree;
      seen_is = c.as_slice.ensures;
      fits = c.in-Ok.ensures.ok;
      same = c.as_slice-2.ensures.value;
    }) c.in-Err-indicators_of.ensures.ends

pub returns-clause-ok : goal.returns-clause-ok
returns-clause-ok g c =
    marks_go c.args.count c.args.forest.now c.args.values.now c.as_slice.result.now c.in-Ok.x.items c.as_slice-2.result.now c.size.result c.in-Ok-indicators_of.etas.items
    c.as_slice-3.result.now c.in_ok-cells.cells.items
    (record {
      size_is = c.size.ensures ∙ many_dofs c.args.forest.now c.in_ok-dofs.dofs c.in_ok-dofs.ensures.dofs c.in_ok-dofs.ensures.degree;
      seen_is = c.as_slice.ensures;
      fits = c.in-Ok.ensures.ok;
      same = c.as_slice-2.ensures.value;
    }) c.in-Ok-indicators_of.ensures.ok c.as_slice-3.ensures.value c.in_ok-cells.ensures
