use Rattle.std.proofs.Common.{◌∙◌, ◌<◌, ap, length, List, arith, slice_index_or}
use Rattle.sparsity.specs.declared.rows.Row.{Row}
use Rattle.sparsity.proofs.Numbered.{rows_length, row_there}
use Rattle.sparsity.proofs.rows.Rows.get.Goals as goal

pub index-requires : goal.index-requires
index-requires c = omega (arith, c.requires, rows_length c.self.inside.rows.items, ap length c.self.view_is, c.self.inside.rows.ok)

pub returns : goal.returns
returns c =
    let inside : c.args.i < length c.self.inside.rows.items = omega (arith, c.requires, rows_length c.self.inside.rows.items, ap length c.self.view_is) in
    row_there c.self.inside.rows.items c.args.i c.index.result.now inside c.index.ensures
    ∙ ap (λ (rows : List Row). slice_index_or rows c.args.i c.index.result.now.1) c.self.view_is
