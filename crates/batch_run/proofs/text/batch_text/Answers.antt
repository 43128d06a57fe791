use Rattle.batch_run.proofs.Parts.{few_answers, output_of_jobs}
use Rattle.batch_run.proofs.text.batch_text.Goals as goal

pub text_of-requires : goal.text_of-requires
text_of-requires g c = few_answers c.args.jobs.now c.args.shelf.now c.in_ok-answers.answers.items c.as_slice.result.now c.as_slice.ensures.value c.in_ok-answers.ensures c.requires.few

pub returns : goal.returns
returns g c = output_of_jobs (λ text. text.items) c.args.jobs.now c.args.shelf.now c.in_ok-answers.answers.items c.as_slice.result.now c.text_of.result c.as_slice.ensures.value c.in_ok-answers.ensures c.text_of.ensures
