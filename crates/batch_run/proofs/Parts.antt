-- The parts of outcomes, one more.
use Rattle.std.proofs.Common.{◌≡◌, ◌∙◌, ap, sym, subst, refl, ℕ, suc, ◌+◌, ◌<◌, ◌≤◌, List, [], ◌∷◌, ◌++◌, take, length, arith, append-nil, append_assoc}
use Rattle.std.specs.Prelude.{slice_index_or, map, IfOk, Ok, Err}
use Rattle.std.specs.List.{range_with_len}
use Rattle.std.specs.declared.result.Result.{Result}
use Rattle.std.proofs.lemmas.List.{length-map, get_or-map}
use Rattle.std.proofs.lemmas.List.FromFn.{fill_by_all}
use Rattle.std.proofs.lemmas.Grind.{common_steps}
use Rattle.fem_text.specs.Memory.{Named}
use Rattle.batch_answers.specs.Outcome.{JobOver, IsAnswer}
use Rattle.batch_run.specs.Output.{job_over, Outcome, part_of, parts_from, AreOutcomes, IsOutputOf, IsOutput}

outcomes_more : (jobs : List JobOver) (outcomes : List Outcome) (job : JobOver) (o : Outcome) → AreOutcomes jobs outcomes → IsAnswer job.words job.texts o.status o.text → AreOutcomes (jobs ++ job ∷ []) (outcomes ++ o ∷ [])
outcomes_more [] [] job o are is = (is, tt)
outcomes_more [] (q ∷ qs) job o are is = absurd are
outcomes_more (j ∷ js) [] job o are is = absurd are
outcomes_more (j ∷ js) (q ∷ qs) job o are is = (are.0, outcomes_more js qs job o are.1 is)

as_many : (jobs : List JobOver) (outcomes : List Outcome) → AreOutcomes jobs outcomes → length outcomes ≡ length jobs
as_many [] [] are = refl
as_many [] (q ∷ qs) are = absurd are
as_many (j ∷ js) [] are = absurd are
as_many (j ∷ js) (q ∷ qs) are = ap suc (as_many js qs are.1)

parts_more : (n : ℕ) (outcomes : List Outcome) (o : Outcome) → parts_from n (outcomes ++ o ∷ []) ≡ parts_from n outcomes ++ part_of (n + length outcomes) o.status o.text
parts_more n [] o = append-nil (part_of n o.status o.text) ∙ ap (λ k. part_of k o.status o.text) (let e : n ≡ n + 0 = omega arith in e)
parts_more n (q ∷ qs) o =
    ap (λ behind. part_of n q.status q.text ++ behind)
    (parts_more (suc n) qs o ∙ ap (λ k. parts_from (suc n) qs ++ part_of k o.status o.text) (let e : suc n + length qs ≡ n + suc (length qs) = omega arith in e))
    ∙ sym (append_assoc (part_of n q.status q.text) (parts_from (suc n) qs) (part_of (n + suc (length qs)) o.status o.text))

cut_at : (jobs : List JobOver) (k : ℕ) (job : JobOver) → k < length jobs → slice_index_or jobs k job ≡ job → take (k + 1) jobs ≡ take k jobs ++ job ∷ []
cut_at jobs k job lt is = grind (arith, common_steps)

cut_length : (jobs : List JobOver) (k : ℕ) → k < length jobs → length (take k jobs) ≡ k
cut_length jobs k lt = grind (arith, common_steps)

pub output_more : (jobs : List JobOver) (k : ℕ) (job : JobOver) (status : ℕ) (text old new : List ℕ) → k < length jobs → slice_index_or jobs k job ≡ job → IsOutputOf (take k jobs) old →
    IsAnswer job.words job.texts status text → new ≡ old ++ part_of k status text → IsOutputOf (take (k + 1) jobs) new
output_more jobs k job status text old new lt is so_far answer more =
    let o : Outcome = record { status = status; text = text } in
    let many : length so_far.outcomes ≡ k = as_many (take k jobs) so_far.outcomes so_far.are ∙ cut_length jobs k lt in
    record {
      outcomes = so_far.outcomes ++ o ∷ [];
      are = subst (λ list. AreOutcomes list (so_far.outcomes ++ o ∷ [])) (sym (cut_at jobs k job lt is)) (outcomes_more (take k jobs) so_far.outcomes job o so_far.are answer);
      text_is = more ∙ ap (λ front. front ++ part_of k status text) so_far.text_is ∙ ap (λ n. parts_from 0 so_far.outcomes ++ part_of n status text) (sym many ∙ (let e : length so_far.outcomes ≡ 0 + length so_far.outcomes = omega arith in e)) ∙ sym (parts_more 0 so_far.outcomes o);
    }

abbrev over : Named → List (List ℕ) → JobOver
over texts words = record { words = words; texts = texts }

-- the jobs by their numbers are the jobs
all_jobs : (jobs : List (List (List ℕ))) (texts : Named) → map (job_over jobs texts) (range_with_len 0 (length jobs)) ≡ map (over texts) jobs
all_jobs jobs texts = sym (fill_by_all (job_over jobs texts) (map (over texts) jobs) (length jobs) (over texts []) (length-map jobs (over texts)) (λ k lt. get_or-map (over texts) jobs k [] (over texts []) lt))

-- there are as many answers as jobs
pub few_answers : (jobs : List (List (List ℕ))) (texts : Named) (answers seen : List JobOver) → seen ≡ answers → answers ≡ map (job_over jobs texts) (range_with_len 0 (length jobs)) → length jobs ≤ 65536 →
    length seen ≤ 65536
few_answers jobs texts answers seen same are few = subst (λ n. n ≤ 65536) (sym (ap length (same ∙ are ∙ all_jobs jobs texts) ∙ length-map jobs (over texts))) few

-- the text of the answers is that of the jobs
pub output_of_jobs : {X E : Type 0} (text : X → List ℕ) (jobs : List (List (List ℕ))) (texts : Named) (answers seen : List JobOver) (result : Result X E) → seen ≡ answers →
    answers ≡ map (job_over jobs texts) (range_with_len 0 (length jobs)) → IfOk result (λ x. IsOutputOf seen (text x)) → IfOk result (λ x. IsOutput jobs texts (text x))
output_of_jobs text jobs texts answers seen (Ok x) same are is = subst (λ list. IsOutputOf list (text x)) (same ∙ are ∙ all_jobs jobs texts) is
output_of_jobs text jobs texts answers seen (Err e) same are is = tt
