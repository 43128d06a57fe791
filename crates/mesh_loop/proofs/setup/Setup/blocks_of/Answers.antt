use Rattle.std.proofs.Common.{◌∙◌, []}
use Rattle.mesh_loop.specs.Setup.{cell_visits}
use Rattle.mesh_loop.proofs.Held.{copy_held}
use Rattle.mesh_loop.proofs.Kept.{kept_listed, kept_is, visits_within, blocks_seen}
use Rattle.mesh_loop.proofs.setup.Setup.blocks_of.Goals as goal

pub get-requires : goal.get-requires
get-requires c = kept_listed cell_visits _ c.args.self.now c.args.cell c.self.inside.parts.visits c.self.view_is c.self.invariant.visits c.requires

pub fill_blocks-requires-clause-visits : goal.fill_blocks-requires-clause-visits
fill_blocks-requires-clause-visits c =
    visits_within _ c.args.self.now c.args.cell c.get.result.now c.self.view_is c.self.invariant.cells c.requires
    (c.get.ensures ∙ kept_is cell_visits _ c.args.self.now c.args.cell c.self.inside.parts.visits [] c.self.view_is c.self.invariant.visits c.requires)

pub returns-clause-value : goal.returns-clause-value
returns-clause-value c =
    blocks_seen _ c.args.self.now c.args.cell c.get.result.now c.fill_blocks.new.copy c.self.view_is
    (c.get.ensures ∙ kept_is cell_visits _ c.args.self.now c.args.cell c.self.inside.parts.visits [] c.self.view_is c.self.invariant.visits c.requires) c.fill_blocks.ensures

pub returns-clause-held : goal.returns-clause-held
returns-clause-held c =
    copy_held _ c.args.self.now c.args.cell c.fill_blocks.new.copy c.self.view_is c.self.invariant.matched c.self.invariant.cells c.requires
    (blocks_seen _ c.args.self.now c.args.cell c.get.result.now c.fill_blocks.new.copy c.self.view_is
    (c.get.ensures ∙ kept_is cell_visits _ c.args.self.now c.args.cell c.self.inside.parts.visits [] c.self.view_is c.self.invariant.visits c.requires) c.fill_blocks.ensures)
