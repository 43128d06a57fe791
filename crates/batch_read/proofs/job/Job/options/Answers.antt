use Rattle.std.proofs.Common.{map, string_bytes, subst, sym}
use Rattle.run_words.specs.Jobs.{AskForJob}
use Rattle.batch_read.proofs.job.Job.options.Goals as goal

pub unreachable-requires : goal.unreachable-requires
unreachable-requires c =
    let job = c.self.invariant in
    c.in-None.ensures.none job.choice (subst (λ l. AskForJob (map string_bytes l) job.choice) (sym c.as_slice.ensures.value) job.asks)
