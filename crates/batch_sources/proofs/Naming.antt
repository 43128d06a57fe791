-- The reads of jobs, one job after another.
use Rattle.std.proofs.Common.{◌≡◌, ◌∙◌, ap, sym, subst, refl, ℕ, suc, ◌+◌, ◌<◌, ◌≤◌, List, [], ◌∷◌, ◌++◌, length, take, arith, append_assoc, append-nil}
use Rattle.std.specs.Prelude.{slice_index_or}
use Rattle.std.proofs.lemmas.Grind.{common_steps}
use Rattle.std.proofs.lemmas.List.{take_more}
use Rattle.run_words.specs.Choice.{Choice}
use Rattle.run_words.specs.Jobs.{AskForJob}
use Rattle.batch_sources.specs.Reads.{AskForAll, source_reads, reads_from, job_reads, AreReads}

asks_more : (jobs : List (List (List ℕ))) (choices : List Choice) (words : List (List ℕ)) (choice : Choice) → AskForAll jobs choices → AskForJob words choice → AskForAll (jobs ++ words ∷ []) (choices ++ choice ∷ [])
asks_more [] [] words choice all asks = (asks, tt)
asks_more [] (c ∷ cs) words choice all asks = absurd all
asks_more (w ∷ ws) [] words choice all asks = absurd all
asks_more (w ∷ ws) (c ∷ cs) words choice all asks = (all.0, asks_more ws cs words choice all.1 asks)

as_many : (jobs : List (List (List ℕ))) (choices : List Choice) → AskForAll jobs choices → length choices ≡ length jobs
as_many [] [] all = refl
as_many [] (c ∷ cs) all = absurd all
as_many (w ∷ ws) [] all = absurd all
as_many (w ∷ ws) (c ∷ cs) all = ap suc (as_many ws cs all.1)

reads_more : (job : ℕ) (choices : List Choice) (choice : Choice) → reads_from job (choices ++ choice ∷ []) ≡ reads_from job choices ++ source_reads (job + length choices) choice.source
reads_more job [] choice = append-nil (source_reads job choice.source) ∙ (let e : job ≡ job + 0 = omega arith in ap (λ k. source_reads k choice.source) e)
reads_more job (c ∷ cs) choice =
    let e : suc job + length cs ≡ job + suc (length cs) = omega arith in
    ap (λ reads. source_reads job c.source ++ reads) (reads_more (suc job) cs choice ∙ ap (λ k. reads_from (suc job) cs ++ source_reads k choice.source) e)
    ∙ sym (append_assoc (source_reads job c.source) (reads_from (suc job) cs) (source_reads (job + suc (length cs)) choice.source))

pub no_reads : AreReads [] []
no_reads = ([], tt, refl)

-- one job more
pub reads_next : (jobs : List (List (List ℕ))) (words : List (List ℕ)) (reads new : List (ℕ × List ℕ)) (choice : Choice) → AreReads jobs reads → AskForJob words choice → new ≡ reads ++ source_reads (length jobs) choice.source → AreReads (jobs ++ words ∷ []) new
reads_next jobs words reads new choice are asks is = (
  are.0 ++ choice ∷ [],
  asks_more jobs are.0 words choice are.1 asks,
  is ∙ ap (λ list. list ++ source_reads (length jobs) choice.source) are.2 ∙ ap (λ k. job_reads are.0 ++ source_reads k choice.source) (sym (as_many jobs are.0 are.1)) ∙ sym (reads_more 0 are.0 choice ∙ zero_more are.0 choice),
)
  where
    zero_more : (choices : List Choice) (choice : Choice) → job_reads choices ++ source_reads (0 + length choices) choice.source ≡ job_reads choices ++ source_reads (length choices) choice.source
    zero_more choices choice = let e : 0 + length choices ≡ length choices = omega arith in ap (λ k. job_reads choices ++ source_reads k choice.source) e

-- the same in a list
pub reads_at : (jobs : List (List (List ℕ))) (at : ℕ) (d : List (List ℕ)) (reads new : List (ℕ × List ℕ)) (choice : Choice) → at < length jobs → AreReads (take at jobs) reads → AskForJob (slice_index_or jobs at d) choice →
    new ≡ reads ++ source_reads at choice.source → AreReads (take (at + 1) jobs) new
reads_at jobs at d reads new choice lt are asks is =
    let long : at ≡ length (take at jobs) = grind (arith, common_steps) in
    subst (λ list. AreReads list new) (sym (take_more jobs at d lt)) (reads_next (take at jobs) (slice_index_or jobs at d) reads new choice are asks (is ∙ ap (λ k. reads ++ source_reads k choice.source) long))

pub reads_all : (jobs : List (List (List ℕ))) (at : ℕ) (reads : List (ℕ × List ℕ)) → length jobs ≤ at → AreReads (take at jobs) reads → AreReads jobs reads
reads_all jobs at reads end are = let whole : take at jobs ≡ jobs = grind (arith, common_steps) in subst (λ list. AreReads list reads) whole are

-- the same at an element
pub reads_item : (jobs : List (List (List ℕ))) (at : ℕ) (words : List (List ℕ)) (reads new : List (ℕ × List ℕ)) (choice : Choice) → at < length jobs → words ≡ slice_index_or jobs at words → AreReads (take at jobs) reads → AskForJob words choice →
    new ≡ reads ++ source_reads at choice.source → AreReads (take (at + 1) jobs) new
reads_item jobs at words reads new choice lt here are asks is = reads_at jobs at words reads new choice lt are (subst (λ w. AskForJob w choice) here asks) is
