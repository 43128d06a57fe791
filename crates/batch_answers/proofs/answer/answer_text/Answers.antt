use Rattle.std.proofs.Common.{ap, Vec, Global}
use Rattle.std.specs.Prelude.{Some}
use Rattle.fem_text.specs.Counts.{none_failed}
use Rattle.fem_text.specs.Memory.{held_of}
use Rattle.run_words.specs.Choice.{seen}
use Rattle.run_outputs.specs.declared.target.Target.{Target}
use Rattle.batch_answers.proofs.Ended.{of_texts, job_answered, job_refused}
use Rattle.batch_answers.proofs.answer.answer_text.Goals as goal

pub plain_targets-requires-clause-within : goal.plain_targets-requires-clause-within
plain_targets-requires-clause-within g c κs within = c.choices_are_within.ensures c.args.job.now (seen c.options-options.result) c.options-options.ensures.asked

pub ended-requires : goal.ended-requires
ended-requires g c =
    of_texts (Vec Target Global) (Some (held_of c.over-store.result.texts)) (seen c.options-options.result) (none_failed c.over-store.result.calls) c.plain_targets.new.store.calls c.in-Err.ending
    c.in-Err.ensures.ends c.in-Err.ensures.calls

pub returns-in-Ok : goal.returns-in-Ok
returns-in-Ok g c =
    job_answered (λ outcome. outcome.status) (λ outcome. outcome.text.items) c.args.job.now c.args.shelf.now c.over-store.result.texts (seen c.options-options.result) (ap (λ store. store.texts) c.over-store.ensures)
    c.options-options.ensures c.written.result c.in-Ok.targets.items c.as_slice.result.now c.as_slice.ensures.value c.in-Ok.ensures.ok c.written.ensures

pub returns-in-Err : goal.returns-in-Err
returns-in-Err g c =
    job_refused (λ outcome. outcome.status) (λ outcome. outcome.text.items) c.args.job.now c.args.shelf.now c.over-store.result.texts (seen c.options-options.result) (ap (λ store. store.texts) c.over-store.ensures)
    c.options-options.ensures c.ended.result c.in-Err.ending c.in-Err.ensures.ends c.ended.ensures
