use Rattle.std.proofs.Common.{◌∙◌, ◌++◌, ◌∷◌, [], ap, arith}
use Rattle.compressed_lists.proofs.Cutting.{pushed_ends, pushed_lists}
use Rattle.compressed_lists.proofs.lists.Lists.push.Goals as goal

pub invariant_of-self-in-Ok : goal.invariant_of-self-in-Ok
invariant_of-self-in-Ok g c =
    pushed_ends c.self.inside.items.items c.args.list.now c.extend_from_slice.new.self.items c.self.inside.ends.items c.push.new.self.items c.len.result
    c.in_ok-extend_from_slice.ensures.items (omega (arith, c.len.ensures, c.extend_from_slice.new.self.ok)) c.in-Ok.ensures.items c.self.invariant

pub returns-in-Ok-clause-ok : goal.returns-in-Ok-clause-ok
returns-in-Ok-clause-ok g c =
    pushed_lists c.self.inside.items.items c.args.list.now c.extend_from_slice.new.self.items c.self.inside.ends.items c.push.new.self.items c.len.result
    c.in_ok-extend_from_slice.ensures.items (omega (arith, c.len.ensures, c.extend_from_slice.new.self.ok)) c.in-Ok.ensures.items c.self.invariant
    ∙ ap (λ ls. ls ++ c.args.list.now ∷ []) c.self.view_is
