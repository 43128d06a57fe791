use Rattle.std.proofs.Common.{◌∙◌, ap, length}
use Rattle.std.specs.Prelude.{filter}
use Rattle.std.proofs.lemmas.List.Sums.{length-filter}
use Rattle.conflict_coloring.specs.Conflict.{conflict}
use Rattle.conflict_coloring.specs.Colours.{cells_of, degree}
use Rattle.conflict_coloring.proofs.dsatur.degree_at.Goals as goal

pub returns : goal.returns
unfolding degree
returns c =
    ap length (c.list_at.ensures ∙ c.requires.near.each c.args.cell c.requires.within) ∙ ap (λ z. length (filter (λ d. conflict c.args.conflicts.now c.args.cell d) (cells_of c.args.zones.now z))) c.requires.zone
    ∙ length-filter (λ d. conflict c.args.conflicts.now c.args.cell d) (cells_of c.args.zones.now c.args.zone)
