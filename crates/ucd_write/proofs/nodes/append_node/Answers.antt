use Rattle.std.proofs.Common.{◌∙◌, ap, ◌∷◌, [], ◌++◌, decimal}
use Rattle.std.specs.Prelude.{codes}
use Rattle.std.specs.Int.{w64}
use Rattle.std.proofs.lemmas.Int.{to_z-of_z}
use Rattle.ucd_write.specs.Coordinates.{coordinate}
use Rattle.ucd_write.specs.Text.{node_line}
use Rattle.ucd_write.proofs.Joined.{four_joined, coordinate_fits}
use Rattle.ucd_write.proofs.nodes.append_node.Goals as goal

pub returns-clause-items : goal.returns-clause-items
unfolding node_line
returns-clause-items c =
    let id = c.append_number.new.text.items in
    let front = c.append_coordinate.new.text.items in
    four_joined c.args.text.now.items id front c.append_coordinate-2.new.text.items c.append.new.text.items
    (decimal c.args.id) (coordinate c.args.point.x) (coordinate c.args.point.y) (codes "0")
    c.append_number.ensures.items
    (c.append_coordinate.ensures.items ∙ ap (λ ticks. id ++ (coordinate ticks ++ 32 ∷ [])) (to_z-of_z w64 c.args.point.x (coordinate_fits c.args.point.x c.requires.reach.0)))
    (c.append_coordinate-2.ensures.items ∙ ap (λ ticks. front ++ (coordinate ticks ++ 32 ∷ [])) (to_z-of_z w64 c.args.point.y (coordinate_fits c.args.point.y c.requires.reach.1)))
    c.append.ensures.items
