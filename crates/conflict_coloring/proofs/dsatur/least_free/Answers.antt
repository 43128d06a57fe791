use Rattle.std.proofs.Common.{◌≡◌, ◌∙◌, ℕ, ◌<◌, ◌+◌, sym, true, below_more}
use Rattle.std.specs.BTreeSet.{contains}
use Rattle.conflict_coloring.specs.Board.{pair_cmp}
use Rattle.conflict_coloring.proofs.dsatur.least_free.Goals as goal

pub loop-colour-preserved : goal.loop-colour-preserved
loop-colour-preserved c =
    let here : contains pair_cmp c.args.used.now (c.args.cell, c.loop-colour.colour) ≡ true = sym c.contains.ensures ∙ c.loop-colour-test.true in
    let more : (j : ℕ) → j < c.loop-colour.colour + 1 → contains pair_cmp c.args.used.now (c.args.cell, j) ≡ true =
    below_more (λ j. contains pair_cmp c.args.used.now (c.args.cell, j) ≡ true) c.loop-colour.colour c.loop-colour.invariant.least here in
    record { least = more; real = c.requires (c.loop-colour.colour + 1) more }
