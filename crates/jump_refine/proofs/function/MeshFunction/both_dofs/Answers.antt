use Rattle.std.proofs.Common.{◌≡◌, ◌∙◌, ap, ◌++◌, length}
use Rattle.jump_refine.specs.Jumps.{dofs_of}
use Rattle.jump_refine.proofs.Within.{four_dofs, both_within}
use Rattle.jump_refine.proofs.function.MeshFunction.both_dofs.Goals as goal

pub returns-clause-within : goal.returns-clause-within
returns-clause-within c =
    let is : c.joined_dofs.result ≡ dofs_of c.args.self.now.dofs.now c.args.here ++ dofs_of c.args.self.now.dofs.now c.args.there =
    c.joined_dofs.ensures ∙ ap (λ xs. xs ++ c.of_cell-2.result.now) c.of_cell.ensures ∙ ap (λ ys. dofs_of c.args.self.now.dofs.now c.args.here ++ ys) c.of_cell-2.ensures in
    both_within c.args.self.now.forest.now c.args.self.now.dofs.now c.args.self.now.values.now c.joined_dofs.result c.requires.function c.args.here c.args.there c.requires.here c.requires.there is

pub joined_dofs-requires-clause-here : goal.joined_dofs-requires-clause-here
joined_dofs-requires-clause-here c =
    ap length c.of_cell.ensures ∙ four_dofs c.args.self.now.forest.now c.args.self.now.dofs.now c.args.self.now.values.now c.requires.function c.args.here c.requires.here

pub joined_dofs-requires-clause-there : goal.joined_dofs-requires-clause-there
joined_dofs-requires-clause-there c =
    ap length c.of_cell-2.ensures ∙ four_dofs c.args.self.now.forest.now c.args.self.now.dofs.now c.args.self.now.values.now c.requires.function c.args.there c.requires.there
