use Rattle.std.proofs.Common.{◌∙◌, []}
use Rattle.mesh_loop.specs.Setup.{cell_visits}
use Rattle.mesh_loop.proofs.Kept.{kept_listed, kept_is, visits_held}
use Rattle.mesh_loop.proofs.setup.Setup.visits.Goals as goal

pub get-requires : goal.get-requires
get-requires c = kept_listed cell_visits _ c.args.self.now c.args.cell c.self.inside.parts.visits c.self.view_is c.self.invariant.visits c.requires

pub returns-clause-value : goal.returns-clause-value
returns-clause-value c = c.get.ensures ∙ kept_is cell_visits _ c.args.self.now c.args.cell c.self.inside.parts.visits [] c.self.view_is c.self.invariant.visits c.requires

pub returns-clause-held : goal.returns-clause-held
returns-clause-held c =
    visits_held _ c.args.self.now c.args.cell c.get.result.now c.self.view_is c.self.invariant.cells c.requires
    (c.get.ensures ∙ kept_is cell_visits _ c.args.self.now c.args.cell c.self.inside.parts.visits [] c.self.view_is c.self.invariant.visits c.requires)
