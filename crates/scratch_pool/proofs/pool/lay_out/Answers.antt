use Rattle.scratch_pool.proofs.Wraps.{same_values, round_trip}
use Rattle.std.proofs.Common.{◌∙◌}
use Rattle.scratch_pool.proofs.pool.lay_out.Goals as goal

pub returns-in-Err-clause-err : goal.returns-in-Err-clause-err
returns-in-Err-clause-err g c = same_values _ _ (c.unwrap_all.ensures ∙ c.wrap_all.ensures.objects)

pub returns-in-Err-new-clause-err : goal.returns-in-Err-new-clause-err
returns-in-Err-new-clause-err g c =
    round_trip c.args.objects.items c.unwrap_all-in-Err-new.result.items c.wrap_all.new.to.items c.in-Err-new.slots.items c.wrap_all.ensures.objects c.in-Err-new.ensures.err c.unwrap_all-in-Err-new.ensures
