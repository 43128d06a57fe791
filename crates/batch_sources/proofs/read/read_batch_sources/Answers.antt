use Rattle.std.proofs.Common.{arith, subst, sym, List, ℕ}
use Rattle.batch_sources.specs.Sources.{EndsSources}
use Rattle.batch_sources.specs.Steps.{ReadsJobs, EndsJobs}
use Rattle.batch_sources.proofs.Shelving.{first_ends, text_ends, all_read, jobs_end}
use Rattle.batch_sources.proofs.read.read_batch_sources.Goals as goal

pub jobs_of-requires : goal.jobs_of-requires
jobs_of-requires g c = record { there = c.in-Ok.ensures.there; few = c.in-Ok.ensures.ok.few (omega arith) }

pub returns-in-Ok-read_jobs-clause-ok : goal.returns-in-Ok-read_jobs-clause-ok
returns-in-Ok-read_jobs-clause-ok g c =
    let P : List (List (List ℕ)) → Type 0 = λ jobs. ReadsJobs (g.S.Store.holds c.of_name.new.store) jobs c.in-Ok.shelf c.read_jobs.new.shelf (g.S.Store.counts c.of_name.new.store) (g.S.Store.counts c.read_jobs.new.store) in
    all_read (g.S.Store.holds c.args.store.now) c.args.name.now (g.S.Store.counts c.args.store.now) c.in-Ok.shelf (g.S.Store.counts c.of_name.new.store) c.in-Ok.ensures.ok c.in-Ok-jobs_of.jobs.items c.in-Ok-jobs_of.ensures.ok
    (g.S.Store.holds c.of_name.new.store) c.read_jobs.new.shelf (g.S.Store.counts c.read_jobs.new.store) c.in-Ok.ensures.same (subst P c.as_slice.ensures.value c.in-Ok-read_jobs.ensures.ok)

pub returns-in-Err-read_jobs-clause-ends : goal.returns-in-Err-read_jobs-clause-ends
returns-in-Err-read_jobs-clause-ends g c =
    let P : List (List (List ℕ)) → Type 0 = λ jobs. EndsJobs (g.S.Store.holds c.of_name.new.store) jobs c.in-Ok.shelf (g.S.Store.counts c.of_name.new.store) (g.S.Store.counts c.read_jobs.new.store) c.in-Err-read_jobs.ending in
    jobs_end (g.S.Store.holds c.args.store.now) c.args.name.now (g.S.Store.counts c.args.store.now) c.in-Ok.shelf (g.S.Store.counts c.of_name.new.store) c.in-Ok.ensures.ok c.in-Ok-jobs_of.jobs.items c.in-Ok-jobs_of.ensures.ok
    (g.S.Store.holds c.of_name.new.store) (g.S.Store.counts c.read_jobs.new.store) c.in-Err-read_jobs.ending c.in-Ok.ensures.same (subst P c.as_slice.ensures.value c.in-Err-read_jobs.ensures.ends)

pub returns-in-Err-clause-ends : goal.returns-in-Err-clause-ends
returns-in-Err-clause-ends g c =
    subst (EndsSources (g.S.Store.holds c.args.store.now) c.args.name.now (g.S.Store.counts c.args.store.now) (g.S.Store.counts c.of_name.new.store)) (sym c.name_ending.ensures)
    (first_ends (g.S.Store.holds c.args.store.now) c.args.name.now (g.S.Store.counts c.args.store.now) (g.S.Store.counts c.of_name.new.store) c.in-Err.fault c.in-Err.ensures.err.0 c.in-Err.ensures.err.1)

pub returns-in-Err-jobs_of-clause-ends : goal.returns-in-Err-jobs_of-clause-ends
returns-in-Err-jobs_of-clause-ends g c =
    text_ends (g.S.Store.holds c.args.store.now) c.args.name.now (g.S.Store.counts c.args.store.now) c.in-Ok.shelf (g.S.Store.counts c.of_name.new.store) c.in-Ok.ensures.ok c.in-Err-jobs_of.ending c.in-Err-jobs_of.ensures.ends
