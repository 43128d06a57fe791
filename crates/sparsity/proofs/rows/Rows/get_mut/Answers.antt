use Rattle.std.proofs.Common.{◌∙◌, ◌<◌, ap, length, List, arith, refl, slice_index_or}
use Rattle.std.specs.Prelude.{slice_set}
use Rattle.std.proofs.Math.ListN.{length-set}
use Rattle.sparsity.specs.declared.rows.Row.{Row}
use Rattle.sparsity.proofs.Numbered.{rows_length, row_there, row_written, numbers_stay}
use Rattle.sparsity.proofs.rows.Rows.get_mut.Goals as goal

pub index_mut-numbered-requires : goal.index_mut-numbered-requires
index_mut-numbered-requires c = omega (arith, c.requires, rows_length c.self.inside.rows.items, ap length c.self.view_is, c.self.inside.rows.ok)

pub invariant_of-self-lent : goal.invariant_of-self-lent
invariant_of-self-lent c = λ w. (
  numbers_stay c.self.inside.rows.items c.args.i c.index_mut-numbered.result.now w c.index_mut-numbered.ensures.value c.self.invariant.0,
  omega (arith, length-set c.self.inside.rows.items c.args.i (c.index_mut-numbered.result.now.0, w), c.self.invariant.1),
)

pub returns : goal.returns
returns c =
    let inside : c.args.i < length c.self.inside.rows.items = omega (arith, c.requires, rows_length c.self.inside.rows.items, ap length c.self.view_is) in (
      (refl, λ w. row_written c.self.inside.rows.items c.args.i c.index_mut-numbered.result.now.0 w ∙ ap (λ (rows : List Row). slice_set rows c.args.i w) c.self.view_is),
      record {
        value = row_there c.self.inside.rows.items c.args.i c.index_mut-numbered.result.now inside c.index_mut-numbered.ensures.value
            ∙ ap (λ (rows : List Row). slice_index_or rows c.args.i c.index_mut-numbered.result.now.1) c.self.view_is;
        writes_back = tt;
      },
    )
