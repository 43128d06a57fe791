use Rattle.std.proofs.Common.{◌≡◌, ◌∙◌, sym}
use Rattle.system_texts.proofs.Colorings.{zones_of_cells, colors_of_cells}
use Rattle.system_texts.proofs.targets.plain_text.Goals as goal

pub colors_text-requires-clause-zones : goal.colors_text-requires-clause-zones
colors_text-requires-clause-zones c = zones_of_cells c.args.setup.now c.in_ok-colors.colors c.in_ok-colors.ensures ∙ sym c.cells.ensures

pub colors_text-requires-clause-colors : goal.colors_text-requires-clause-colors
colors_text-requires-clause-colors c = colors_of_cells c.args.setup.now c.in_ok-colors.colors c.in_ok-colors.ensures ∙ sym c.cells.ensures
