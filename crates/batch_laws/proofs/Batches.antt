-- The answers of batches.
use Rattle.std.proofs.Common.{◌≡◌, ◌∙◌, ap, sym, subst, refl, ℕ, suc, List, [], ◌∷◌, map, true, false, All}
use Rattle.std.specs.Prelude.{Some, Ok, Err}
use Rattle.std.specs.declared.option.Option.{Option}
use Rattle.std.specs.declared.result.Result.{Result}
use Rattle.std.proofs.lemmas.Option.{same_Some}
use Rattle.fem_text.specs.Outside.{Held}
use Rattle.fem_text.specs.Memory.{Named, held_of}
use Rattle.fem_text.proofs.OneReading.{err_same, ok_err}
use Rattle.run_words.specs.Choice.{Choice}
use Rattle.run_words.specs.Words.{AskFor}
use Rattle.run_words.specs.Jobs.{AskForJob}
use Rattle.run_outputs.specs.Targets.{Target}
use Rattle.run_targets.specs.Defines.{Defines}
use Rattle.diagnostics.specs.declared.refusal.Refusal.{Refusal}
use Rattle.diagnostics.specs.Lines.{status_of, refusal_line}
use Rattle.diagnostics.specs.Stages.{stops, goes}
use Rattle.batch_read.specs.Batch.{BatchText}
use Rattle.batch_texts.specs.Names.{read_names}
use Rattle.batch_sources.specs.declared.ending.BatchRefusal.{BatchRefusal}
use Rattle.batch_sources.specs.Reads.{AskForAll, source_names, reads_from, job_reads}
use Rattle.batch_sources.specs.Laws as sources
use Rattle.batch_sources.proofs.Places.{all_tail, found_stands}
use Rattle.batch_answers.specs.Outcome.{JobOver, IsAnswer, IsOutcomeOf, text_of}
use Rattle.batch_run.specs.Output.{Outcome, parts_from, AreOutcomes}
use Rattle.assemble_core.specs.Modes.{all_modes}
use Rattle.assemble_core.specs.Answer.{Answers}
use Rattle.assemble_core.specs.Batch.{IsBatchText, BatchAnswers}
use Rattle.answer_laws.specs.Laws.{HaveOneAnswer}
use Rattle.answer_laws.specs.Existence.{HaveAnAnswer}
use Rattle.batch_laws.specs.Laws.{IsOutcomeOfWords, AreOutcomesOfWords, IsTextOfRuns, BatchesWriteWhatRunsWrite, BatchesHaveOneAnswer, BatchesHaveAnAnswer}
use Rattle.batch_laws.proofs.Agreeing.{Agrees, all_agree, split_reads, same_defines}

abbrev over : Named → List (List ℕ) → JobOver
over texts words = record { words = words; texts = texts }

-- an answer has one outcome
one_outcome : (answer : Result (List Target) Refusal) (a b : Outcome) → IsOutcomeOf answer a.status a.text → IsOutcomeOf answer b.status b.text → a ≡ b
one_outcome (Ok targets) a b h k =
    let status : a.status ≡ b.status = h.0 ∙ sym k.0 in
    let text : a.text ≡ b.text = h.1 ∙ sym k.1 in
    λ i. record { status = status i; text = text i }
one_outcome (Err refusal) a b h k =
    let status : a.status ≡ b.status = h.0 ∙ sym k.0 in
    let text : a.text ≡ b.text = h.1 ∙ sym k.1 in
    λ i. record { status = status i; text = text i }

abbrev outcome_of : Result (List Target) Refusal → Outcome
outcome_of (Ok targets) = record { status = 0; text = text_of targets }
outcome_of (Err refusal) = record { status = status_of refusal; text = refusal_line refusal }

is_outcome : (answer : Result (List Target) Refusal) → IsOutcomeOf answer (outcome_of answer).status (outcome_of answer).text
is_outcome (Ok targets) = (refl, refl)
is_outcome (Err refusal) = (refl, refl)

module _ (one_choice : (words : List (List ℕ)) (first second : Choice) → AskFor words first → AskFor words second → first ≡ second) where
  module _ (one : HaveOneAnswer) (held : Held) where
    -- one job
    of_words : (texts : Named) (words : List (List ℕ)) (choice : Choice) (outcome : Outcome) → AskForJob words choice → All (Agrees held texts) (source_names choice.source) → IsAnswer words texts outcome.status outcome.text →
        IsOutcomeOfWords held words outcome
    of_words texts words choice outcome asks agree is =
        let same : choice ≡ is.choice = one_choice words choice is.choice asks.asked is.asked.asked in
        let agree_there = subst (λ (c : Choice). All (Agrees held texts) (source_names c.source)) same agree in
        let answers : Answers all_modes words (Some held) is.made = goes is.choice (is.asked.asked, refl) (same_defines held texts is.choice is.made is.asked.mode agree_there is.defines) in
        (is.made, record { answers = answers; only = λ other also. one all_modes words held other is.made also answers }, is.outcome)

    -- each of them
    of_all : (texts : Named) (job : ℕ) (jobs : List (List (List ℕ))) (choices : List Choice) (outcomes : List Outcome) → AskForAll jobs choices → All (Agrees held texts) (read_names (reads_from job choices)) →
        AreOutcomes (map (over texts) jobs) outcomes → AreOutcomesOfWords held jobs outcomes
    of_all texts job [] [] [] asks agree are = tt
    of_all texts job [] [] (o ∷ os) asks agree are = absurd are
    of_all texts job [] (c ∷ cs) os asks agree are = absurd asks
    of_all texts job (words ∷ jobs) [] os asks agree are = absurd asks
    of_all texts job (words ∷ jobs) (c ∷ cs) [] asks agree are = absurd are
    of_all texts job (words ∷ jobs) (c ∷ cs) (o ∷ os) asks agree are =
        let parts = split_reads held texts job c cs agree in
        (of_words texts words c o asks.0 parts.0 are.0, of_all texts (suc job) jobs cs os asks.1 parts.1 are.1)

    of_batch : (name text : List ℕ) (texts : Named) → IsBatchText (Some held) name texts text → IsTextOfRuns held name text
    of_batch name text texts is =
        let there = is.sources.texts_are in
        let agree = all_tail (Agrees held texts) name (read_names (job_reads is.sources.choices)) (all_agree held texts (name ∷ read_names (job_reads is.sources.choices)) there.texts_are) in
        record {
          own = is.sources.text;
          stands = found_stands held texts name is.sources.text there.texts_are.stand there.own;
          jobs = is.jobs;
          jobs_are = is.sources.jobs_are.jobs_are;
          outcomes = is.output.outcomes;
          are = of_all texts 0 is.jobs is.sources.choices is.output.outcomes is.sources.jobs_are.asks agree is.output.are;
          text_is = is.output.text_is;
        }

    -- ---- one answer
    one_outcome_of_words : (words : List (List ℕ)) (a b : Outcome) → IsOutcomeOfWords held words a → IsOutcomeOfWords held words b → a ≡ b
    one_outcome_of_words words a b (answer, is, h) (other, also, k) = one_outcome answer a b h (subst (λ r. IsOutcomeOf r b.status b.text) (is.only other also.answers) k)

    one_list : (jobs : List (List (List ℕ))) (a b : List Outcome) → AreOutcomesOfWords held jobs a → AreOutcomesOfWords held jobs b → a ≡ b
    one_list [] [] [] h k = refl
    one_list [] [] (y ∷ ys) h k = absurd k
    one_list [] (x ∷ xs) b h k = absurd h
    one_list (words ∷ jobs) [] b h k = absurd h
    one_list (words ∷ jobs) (x ∷ xs) [] h k = absurd k
    one_list (words ∷ jobs) (x ∷ xs) (y ∷ ys) h k = ap (λ z. z ∷ xs) (one_outcome_of_words words x y h.0 k.0) ∙ ap (λ list. y ∷ list) (one_list jobs xs ys h.1 k.1)

    one_text : ((text : List ℕ) (first second : List (List (List ℕ))) → BatchText text first → BatchText text second → first ≡ second) → (name a b : List ℕ) → IsTextOfRuns held name a → IsTextOfRuns held name b → a ≡ b
    one_text one_jobs name a b h k =
        let own : h.own ≡ k.own = same_Some h.own k.own (sym h.stands ∙ k.stands) in
        let jobs : h.jobs ≡ k.jobs = one_jobs k.own h.jobs k.jobs (subst (λ t. BatchText t h.jobs) own h.jobs_are) k.jobs_are in
        let outcomes : h.outcomes ≡ k.outcomes = one_list k.jobs h.outcomes k.outcomes (subst (λ list. AreOutcomesOfWords held list h.outcomes) jobs h.are) k.are in
        h.text_is ∙ ap (parts_from 0) outcomes ∙ sym k.text_is

    one_answer : ((text : List ℕ) (first second : List (List (List ℕ))) → BatchText text first → BatchText text second → first ≡ second) → sources.HaveOneReading → (name : List ℕ) (a b : Result (List ℕ) BatchRefusal) →
        BatchAnswers (Some held) name a → BatchAnswers (Some held) name b → a ≡ b
    one_answer one_jobs one_reading name (Ok a) (Ok b) (texts, h) (those, k) = ap Ok (one_text one_jobs name a b (of_batch name a texts h) (of_batch name b those k))
    one_answer one_jobs one_reading name (Ok a) (Err r) (texts, h) k = ok_err (h.jobs, texts) r (one_reading held name (Ok (h.jobs, texts)) (Err r) h.sources k)
    one_answer one_jobs one_reading name (Err r) (Ok b) h (those, k) = ok_err (k.jobs, those) r (sym (one_reading held name (Err r) (Ok (k.jobs, those)) h k.sources))
    one_answer one_jobs one_reading name (Err r) (Err s) h k = ap Err (err_same {A = List (List (List ℕ)) × Named} r s (one_reading held name (Err r) (Err s) h k))

  -- ---- an answer
  module _ (some : HaveAnAnswer) where
    job_answered : (texts : Named) (words : List (List ℕ)) (choice : Choice) → AskForJob words choice → (answer : Result (List Target) Refusal) → Answers all_modes words (Some (held_of texts)) answer →
        IsAnswer words texts (outcome_of answer).status (outcome_of answer).text
    job_answered texts words choice asks answer (stops refusal refused e) = absurd (let f : true ≡ false = refused.0 choice asks.asked in cc)
    job_answered texts words choice asks answer (goes other asked defines) =
        let same : other ≡ choice = one_choice words other choice asked.0 asks.asked in
        record { choice = choice; asked = asks; made = answer; defines = subst (λ c. Defines (Some (held_of texts)) c answer) same defines; outcome = is_outcome answer }

    outcomes_are : (texts : Named) (jobs : List (List (List ℕ))) (choices : List Choice) → AskForAll jobs choices → (outcomes : List Outcome) × AreOutcomes (map (over texts) jobs) outcomes
    outcomes_are texts [] [] asks = ([], tt)
    outcomes_are texts [] (c ∷ cs) asks = absurd asks
    outcomes_are texts (words ∷ jobs) [] asks = absurd asks
    outcomes_are texts (words ∷ jobs) (c ∷ cs) asks =
        let first = some all_modes words (Some (held_of texts)) in
        let rest = outcomes_are texts jobs cs asks.1 in
        (outcome_of first.0 ∷ rest.0, (job_answered texts words c asks.0 first.0 first.1, rest.1))

    by_reading : (holds : Option Held) (name : List ℕ) (outcome : Result (List (List (List ℕ)) × Named) BatchRefusal) → sources.SourcesRead holds name outcome → (answer : Result (List ℕ) BatchRefusal) × BatchAnswers holds name answer
    by_reading holds name (Ok read) are =
        let outcomes = outcomes_are read.1 read.0 are.choices are.jobs_are.asks in
        (Ok (parts_from 0 outcomes.0), (read.1, record { jobs = read.0; sources = are; output = record { outcomes = outcomes.0; are = outcomes.1; text_is = refl } }))
    by_reading holds name (Err refusal) is = (Err refusal, is)

  pub write_what_runs_write : HaveOneAnswer → BatchesWriteWhatRunsWrite
  write_what_runs_write one held name text (texts, is) = of_batch one held name text texts is

  pub one_answer_of_batches : HaveOneAnswer → ((text : List ℕ) (first second : List (List (List ℕ))) → BatchText text first → BatchText text second → first ≡ second) → sources.HaveOneReading → BatchesHaveOneAnswer
  one_answer_of_batches one one_jobs one_reading held name a b h k = one_answer one held one_jobs one_reading name a b h k

  pub an_answer_of_batches : HaveAnAnswer → sources.HaveAReading → BatchesHaveAnAnswer
  an_answer_of_batches some reading holds name = let read = reading holds name in by_reading some holds name read.0 read.1
