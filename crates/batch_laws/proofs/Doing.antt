-- What runs of batches do with the answers of their batches.
use Rattle.std.proofs.Common.{◌≡◌, ◌≢◌, ◌∙◌, ◌⊎◌, inl, inr, ap, sym, subst, ℕ, ◌<◌, ◌-◌, ◌^◌, List, length, arith}
use Rattle.std.specs.Prelude.{Some, Ok, Err}
use Rattle.std.specs.declared.result.Result.{Result}
use Rattle.fem_text.specs.Counts.{one_more}
use Rattle.fem_text.specs.Outside.{Held}
use Rattle.fem_text.proofs.Counted.{good_faults, fault_rose, one_fault}
use Rattle.fem_text.proofs.OneReading.{ok_err}
use Rattle.run_words.specs.Choice.{Destination, standard, named}
use Rattle.run_words.specs.Words.{AskForNothing}
use Rattle.run_words.specs.BatchWords.{BatchChoice, AskForBatch}
use Rattle.run_outputs.specs.Targets.{World}
use Rattle.run_outputs.specs.Stops.{StandsInPart}
use Rattle.batch_sources.specs.declared.ending.BatchRefusal.{BatchRefusal}
use Rattle.batch_sources.specs.declared.ending.BatchRefusal.TheVariants.{Text, Count, Size, Absent}
use Rattle.batch_sources.specs.declared.ending.BatchEnding.{BatchEnding}
use Rattle.batch_sources.specs.declared.ending.BatchEnding.TheVariants.{Refused, ReadFault, WriteFault, NoMemory}
use Rattle.batch_sources.specs.Sources.{reads_made}
use Rattle.batch_sources.specs.Lines.{batch_status}
use Rattle.assemble_core.specs.Modes.{all_modes}
use Rattle.assemble_core.specs.Run.{Outside, after_reads}
use Rattle.assemble_core.specs.Batch.{BatchAnswers, after_texts, LeavesBatch, TellsBatch, batch_status_of, without_batch, with_batch}
use Rattle.answer_laws.specs.Runs.{IsOfOutside, NoCountRose}
use Rattle.answer_laws.specs.Runs as words_runs
use Rattle.batch_laws.specs.Laws.{BatchesHaveOneAnswer, BatchesHaveAnAnswer}
use Rattle.batch_laws.specs.Runs.{IsDone, answer_status, AnswersAreDone, RefusedBatchesWriteNothing, StatusTellsTheAnswer, BatchesAreComplete, RefusedWordsHaveStatus2, OthersRefuseBatches}

module _ (one : BatchesHaveOneAnswer) (choice : BatchChoice) (before now : Outside) (held : Held) (told : before.world.holds ≡ Some held) where
  -- the text that was made is the answer
  made_is : (text : List ℕ) → BatchAnswers before.world.holds choice.name (Ok text) → (answer : Result (List ℕ) BatchRefusal) → BatchAnswers (Some held) choice.name answer → Ok text ≡ answer
  made_is text made answer is = one held choice.name (Ok text) answer (subst (λ holds. BatchAnswers holds choice.name (Ok text)) told made) is

  refused_is : (refusal : BatchRefusal) → BatchAnswers before.world.holds choice.name (Err refusal) → (answer : Result (List ℕ) BatchRefusal) → BatchAnswers (Some held) choice.name answer → Err refusal ≡ answer
  refused_is refusal refused answer is = one held choice.name (Err refusal) answer (subst (λ holds. BatchAnswers holds choice.name (Err refusal)) told refused) is

  module _ (answer : Result (List ℕ) BatchRefusal) (is : BatchAnswers (Some held) choice.name answer) (status : ℕ) where
    answered : (actual : Result (List ℕ) BatchRefusal) → actual ≡ answer → status ≡ answer_status actual → IsDone choice before now actual → ((status ≡ answer_status answer) × IsDone choice before now answer) ⊎ IsOfOutside status
    answered actual same e done = inl (e ∙ ap answer_status same, subst (IsDone choice before now) same done)

    by_end : (end : Result Unit BatchEnding) → status ≡ batch_status_of end → LeavesBatch choice before.world now.world end → TellsBatch before now end →
        ((status ≡ answer_status answer) × IsDone choice before now answer) ⊎ IsOfOutside status
    by_end (Ok unit) e leaves tells =
        answered (Ok leaves.text) (made_is leaves.text (leaves.texts, leaves.made) answer is) e (record { texts = leaves.texts; written = leaves.written; told = tells.0; tells = tells.1 })
    by_end (Err (Refused refusal)) e leaves tells =
        answered (Err refusal) (refused_is refusal leaves.ends.0 answer is) e (record { reads = (reads_made before.world.holds choice.name refusal leaves.ends.0, leaves.ends.1); same = leaves.same; line = tells })
    by_end (Err (ReadFault role)) e leaves tells = inr (inr (inl e))
    by_end (Err WriteFault) e leaves tells = inr (inl e)
    by_end (Err NoMemory) e leaves tells = inr (inr (inr e))

  -- where it is a refusal, no text was made
  untouched : (refusal : BatchRefusal) → BatchAnswers (Some held) choice.name (Err refusal) → (end : Result Unit BatchEnding) → LeavesBatch choice before.world now.world end → now.world ≡ after_reads before.world now.world.store
  untouched refusal is (Ok unit) leaves = ok_err leaves.text refusal (made_is leaves.text (leaves.texts, leaves.made) (Err refusal) is)
  untouched refusal is (Err (Refused other)) leaves = leaves.same
  untouched refusal is (Err (ReadFault role)) leaves = leaves.same
  untouched refusal is (Err WriteFault) leaves = ok_err leaves.text refusal (made_is leaves.text (leaves.texts, leaves.made) (Err refusal) is)
  untouched refusal is (Err NoMemory) (inl leaves) = leaves.same
  untouched refusal is (Err NoMemory) (inr leaves) = ok_err leaves.text refusal (made_is leaves.text (leaves.texts, leaves.made) (Err refusal) is)

pub answers_are_done : BatchesHaveOneAnswer → AnswersAreDone
answers_are_done one choice before now status held answer told is run = by_end one choice before now held told answer is status run.end run.status_is run.leaves run.tells

pub refused_write_nothing : BatchesHaveOneAnswer → RefusedBatchesWriteNothing
refused_write_nothing one choice before now status held refusal told is run = untouched one choice before now held told refusal is run.end run.leaves

pub status_tells : BatchesHaveAnAnswer → AnswersAreDone → StatusTellsTheAnswer
status_tells some done choice before now status held told run inside =
    let answer = some (Some held) choice.name in
    chosen answer.0 answer.1 (done choice before now status held answer.0 told answer.1 run)
  where
    chosen : (answer : Result (List ℕ) BatchRefusal) → BatchAnswers (Some held) choice.name answer → ((status ≡ answer_status answer) × IsDone choice before now answer) ⊎ IsOfOutside status →
        (answer : Result (List ℕ) BatchRefusal) × BatchAnswers (Some held) choice.name answer × (status ≡ answer_status answer) × IsDone choice before now answer
    chosen answer is (inl both) = (answer, is, both.0, both.1)
    chosen answer is (inr outside) = absurd (inside outside)

-- ---- where no count rose
stays : {P : Type 0} (before now : ℕ) → now ≡ one_more before → now ≡ before → before < 2 ^ 64 - 1 → P
stays before now rose same below = absurd (omega (arith, rose, same, below))

part_rose : {P : Type 0} (before now : World) (destination : Destination) (text : List ℕ) → StandsInPart before now destination text → now.store.faults ≡ before.store.faults →
    now.out.faults ≡ before.out.faults → before.store.faults < 2 ^ 64 - 1 → before.out.faults < 2 ^ 64 - 1 → P
part_rose before now standard text part store out store_may out_may = stays before.out.faults now.out.faults (fault_rose before.out now.out part.puts) out out_may
part_rose before now (named name) text part store out store_may out_may =
    stays before.store.faults now.store.faults (fault_rose before.store now.store (one_fault before.store now.store part.write)) store store_may

-- no status of a refusal is that of a fault of the outside, or of words
others : (refusal : BatchRefusal) → (◌≢◌ {A = ℕ} (batch_status refusal) 10) × (◌≢◌ {A = ℕ} (batch_status refusal) 11) × (◌≢◌ {A = ℕ} (batch_status refusal) 2)
others (Text line) = (λ e. cc, λ e. cc, λ e. cc)
others (Count line) = (λ e. cc, λ e. cc, λ e. cc)
others Size = (λ e. cc, λ e. cc, λ e. cc)
others (Absent role) = (λ e. cc, λ e. cc, λ e. cc)

not_stopped : (choice : BatchChoice) (before now : Outside) → NoCountRose before now → (end : Result Unit BatchEnding) → LeavesBatch choice before.world now.world end →
    (◌≢◌ {A = ℕ} (batch_status_of end) 10) × (◌≢◌ {A = ℕ} (batch_status_of end) 11)
not_stopped choice before now none (Ok unit) leaves = (λ e. cc, λ e. cc)
not_stopped choice before now none (Err (Refused refusal)) leaves = ((others refusal).0, (others refusal).1)
not_stopped choice before now none (Err (ReadFault role)) leaves =
    stays before.world.store.faults now.world.store.faults (fault_rose before.world.store now.world.store (length leaves.ends.0, leaves.ends.2)) none.store none.store_may
not_stopped choice before now none (Err WriteFault) leaves =
    let start : World = after_texts before.world leaves.texts in
    let store : start.store.faults ≡ before.world.store.faults = good_faults (length leaves.texts) before.world.store in
    part_rose start now.world choice.destination leaves.text leaves.stops.1 (none.store ∙ sym store) none.out (omega (arith, store, none.store_may)) none.out_may
not_stopped choice before now none (Err NoMemory) leaves = (λ e. cc, λ e. cc)

pub batches_are_complete : AnswersAreDone → BatchesAreComplete
batches_are_complete done choice before now status held answer told is none run =
    let apart = not_stopped choice before now none run.end run.leaves in
    left ((λ e. apart.0 (sym run.status_is ∙ e)), (λ e. apart.1 (sym run.status_is ∙ e))) (done choice before now status held answer told is run)
  where
    left : (status ≢ 10) × (status ≢ 11) → ((status ≡ answer_status answer) × IsDone choice before now answer) ⊎ IsOfOutside status → (status ≡ answer_status answer) ⊎ (status ≡ 12)
    left apart (inl both) = inl both.0
    left apart (inr (inl e)) = absurd (apart.1 e)
    left apart (inr (inr (inl e))) = absurd (apart.0 e)
    left apart (inr (inr (inr e))) = inr e

-- ---- the status of refused words
not_2 : (end : Result Unit BatchEnding) → ◌≢◌ {A = ℕ} (batch_status_of end) 2
not_2 (Ok unit) = λ e. cc
not_2 (Err (Refused refusal)) = (others refusal).2
not_2 (Err (ReadFault role)) = λ e. cc
not_2 (Err WriteFault) = λ e. cc
not_2 (Err NoMemory) = λ e. cc

pub status_2 : words_runs.RefusedWordsHaveStatus2 → RefusedWordsHaveStatus2
status_2 words_of_runs words before now status (without_batch none run) =
    let law = words_of_runs all_modes words before now status run in
    ((λ e. (none, law.0 e)), (λ both. law.1 both.1))
status_2 words_of_runs words before now status (with_batch choice asks run) =
    ((λ e. absurd (not_2 run.end (sym run.status_is ∙ e))), (λ both. absurd (both.0 choice asks)))

pub others_refuse : words_runs.RefusedWordsHaveStatus2 → ((words : List (List ℕ)) (choice : BatchChoice) → AskForBatch words choice → AskForNothing words) → OthersRefuseBatches
others_refuse words_of_runs nothing takes words choice before now status asks run =
    (words_of_runs takes words before now status run).1 (λ other asked. absurd (nothing words choice asks other asked))
