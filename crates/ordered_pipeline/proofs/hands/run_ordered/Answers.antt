use Rattle.std.proofs.Common.{sym, subst, get_or}
use denote.Exit.{no}
use denote.Param.Send.{param_send, arg_send, param_sync, arg_sync}
use Rattle.ordered_pipeline.specs.Hands.{IsReady, IsThrough}
use Rattle.ordered_pipeline.proofs.HandLaws.{finished_all}
use Rattle.ordered_pipeline.proofs.hands.run_ordered.Goals as goal

pub for_each_mut-requires-clause-accepts : goal.for_each_mut-requires-clause-accepts
for_each_mut-requires-clause-accepts g c κs within = λ i p lt e.
    let h = subst (λ h. IsReady c.args.pipeline.now.table c.args.pipeline.now.key c.args.pool.now.table h.pass h.scratch) (sym e) (c.requires.hands i p.now lt) in (
      (h, c.requires.job),
      (
        param_send 3 _ (arg_send _ no _ c.type_bounds.send-J-Scratch),
        param_send 4 _ (arg_send _ no _ c.type_bounds.send-J-Copy),
        param_send 5 _ (arg_send _ no _ c.type_bounds.send-J-State),
        param_sync 0 _ (arg_sync _ no _ c.type_bounds.sync-J),
        param_sync 1 _ (arg_sync _ no _ c.type_bounds.sync-G),
        param_sync 2 _ (arg_sync _ no _ c.type_bounds.sync-R),
      ),
    )

pub returns-clause-each : goal.returns-clause-each
returns-clause-each g c = λ k d lt.
    let ch = (c.for_each_mut.ensures k d lt).1 in
    subst (λ h. IsThrough h.pass h.scratch (get_or c.for_each_mut.new.s k d).pass (get_or c.for_each_mut.new.s k d).scratch) ch.argument_is
    (subst (λ i. IsThrough ch.argument.now.pass ch.argument.now.scratch i.pass i.scratch) ch.left ch.call)

pub returns-clause-finished : goal.returns-clause-finished
returns-clause-finished g c =
    finished_all (λ h. h.pass) (λ h. h.scratch) c.args.pipeline.now.table c.args.pipeline.now.key c.args.pool.now.table c.args.hands.now c.for_each_mut.new.s (c.for_each_mut.auto.s) c.requires.hands (returns-clause-each g c)
