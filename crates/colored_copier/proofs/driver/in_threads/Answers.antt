use Rattle.std.proofs.Common.{rules, arith, sym, subst, ap, ◌≡◌, ◌<◌, ◌≤◌, ◌^◌, ℕ, None, Some, true}
use denote.Exit.{no}
use denote.Param.Send.{param_send, arg_send, param_sync, arg_sync}
use Rattle.colored_copier.specs.Hands.{IsReady, IsThrough}
use Rattle.colored_copier.proofs.driver.in_threads.Goals as goal

pub for_each_mut-requires-clause-accepts : goal.for_each_mut-requires-clause-accepts
for_each_mut-requires-clause-accepts g c κs within = λ i p lt e.
    let h = subst (λ h. IsReady c.args.round.now c.args.pool.now.table h.pass h.scratch × g.J.RowJob.has_room c.args.job.now h.copy) (sym e) (c.requires.hands i p.now lt) in (
      (h.0, h.1, c.requires.job.0, c.requires.job.1),
      (
        param_send 2 _ (arg_send _ no _ c.type_bounds.send-J-Scratch),
        param_send 3 _ (arg_send _ no _ c.type_bounds.send-J-Copy),
        param_send 4 _ (arg_send _ no _ c.type_bounds.send-J-Row),
        param_sync 0 _ (arg_sync _ no _ c.type_bounds.sync-J),
        param_sync 1 _ (arg_sync _ no _ c.type_bounds.sync-G),
      ),
    )

pub returns-clause-each : goal.returns-clause-each
returns-clause-each g c = λ k d lt.
    let ch = (c.for_each_mut.ensures k d lt).1 in
    subst (λ h. IsThrough c.args.pool.now.objects h.pass h.scratch (Rattle.std.proofs.Common.get_or c.for_each_mut.new.s k d).pass (Rattle.std.proofs.Common.get_or c.for_each_mut.new.s k d).scratch × g.J.RowJob.has_room c.args.job.now (Rattle.std.proofs.Common.get_or c.for_each_mut.new.s k d).copy) ch.argument_is
    (subst (λ i. IsThrough c.args.pool.now.objects ch.argument.now.pass ch.argument.now.scratch i.pass i.scratch × g.J.RowJob.has_room c.args.job.now i.copy) ch.left ch.call)
