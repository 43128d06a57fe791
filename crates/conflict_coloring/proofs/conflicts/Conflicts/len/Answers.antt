use Rattle.std.proofs.Common.{◌≡◌, ◌∙◌, sym, ap, length, arith}
use Rattle.std.proofs.lemmas.Grind.{common_steps}
use Rattle.conflict_coloring.proofs.Cuts.{length-cut}
use Rattle.conflict_coloring.proofs.conflicts.Conflicts.len.Goals as goal

pub returns-clause-few : goal.returns-clause-few
returns-clause-few c = let f = c.self.invariant.few in grind (arith, common_steps)

pub returns-clause-count : goal.returns-clause-count
returns-clause-count c =
    let n : length c.self.inside.ends.items ≡ length c.args.self.now = sym (length-cut c.self.inside.ends.items c.self.inside.rows.items) ∙ ap length c.self.view_is in
    grind (arith, common_steps)
