use Rattle.corner_names.proofs.Keys.{more_trans}
use Rattle.hanging_refine.proofs.children.middles.Goals as goal

pub returns-in_err-top-clause-more : goal.returns-in_err-top-clause-more
returns-in_err-top-clause-more c =
    more_trans _ _ _ (more_trans _ _ _ (more_trans _ _ _ c.middle.ensures.more c.middle-2.ensures.more) c.middle-3.ensures.more) c.middle-4.ensures.more

pub returns-clause-more : goal.returns-clause-more
returns-clause-more c =
    more_trans _ _ _ (more_trans _ _ _ (more_trans _ _ _ c.middle.ensures.more c.middle-2.ensures.more) c.middle-3.ensures.more) c.middle-4.ensures.more
