use Rattle.std.proofs.Common.{◌≡◌, ◌∙◌, sym, ap, length, arith}
use Rattle.std.proofs.lemmas.Grind.{common_steps}
use Rattle.affine_constraints.proofs.Tables.{length_table}
use Rattle.affine_constraints.proofs.table.Table.len.Goals as goal

pub returns : goal.returns
returns c =
    let n : length c.self.inside.places.items ≡ length c.args.self.now = sym (length_table c.self.inside.places.items c.self.inside.terms.items) ∙ ap length c.self.view_is in
    grind (arith, common_steps)
