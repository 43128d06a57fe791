use Rattle.std.proofs.Common.{ap, ◌∙◌, ◌++◌, ◌∷◌, [], ◌≡◌, None}
use Rattle.scratch_pool.proofs.Wraps.{never_none}
use Rattle.scratch_pool.proofs.objects.unwrap_all.Goals as goal

pub unreachable-requires : goal.unreachable-requires
unreachable-requires g c =
    let full = c.requires.full in
    let e : c.loop-object.from.items ≡ c.pop.new.self.items ++ None ∷ [] = c.in-Some.ensures.items ∙ ap (λ o. c.pop.new.self.items ++ o ∷ []) c.in_default-object.is in
    never_none c.loop-object.from.items c.pop.new.self.items c.loop-object.to.items full.0 _ e c.loop-object.invariant.0 full.1
