use Rattle.std.proofs.Common.{◌∙◌, []}
use Rattle.mesh_loop.specs.Setup.{written_rows}
use Rattle.mesh_loop.proofs.Kept.{kept_listed, kept_is, written_rise}
use Rattle.mesh_loop.proofs.setup.Setup.rows.Goals as goal

pub get-requires : goal.get-requires
get-requires c = kept_listed written_rows _ c.args.self.now c.args.cell c.self.inside.parts.rows c.self.view_is c.self.invariant.rows c.requires

pub returns-clause-value : goal.returns-clause-value
returns-clause-value c = c.get.ensures ∙ kept_is written_rows _ c.args.self.now c.args.cell c.self.inside.parts.rows [] c.self.view_is c.self.invariant.rows c.requires

pub returns-clause-rising : goal.returns-clause-rising
returns-clause-rising c =
    written_rise c.args.self.now c.args.cell c.get.result.now (c.get.ensures ∙ kept_is written_rows _ c.args.self.now c.args.cell c.self.inside.parts.rows [] c.self.view_is c.self.invariant.rows c.requires)
