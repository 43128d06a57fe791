use Rattle.hanging_refine.proofs.Nexts.{next_start, next_more, divisible_more}
use Rattle.hanging_refine.proofs.children.divided_cells.Goals as goal

pub loop-at-init : goal.loop-at-init
loop-at-init c = next_start _ _ _ _ c.new-next.ensures.items c.requires.one

pub push_next-requires-clause-divisible : goal.push_next-requires-clause-divisible
push_next-requires-clause-divisible c = λ h. divisible_more _ _ _ c.loop-at.invariant.more (c.requires.divisible c.loop-at.at h)

pub loop-at-preserved : goal.loop-at-preserved
loop-at-preserved c = next_more _ _ _ _ _ _ _ c.loop-at.at c.loop-at-test.true c.loop-at.invariant c.in_ok-push_next.ensures.next c.push_next.ensures.more c.push_next.ensures.one
