-- The texts of a batch have a reading.
use Rattle.std.proofs.Common.{◌≡◌, ◌∙◌, ◌⊎◌, inl, inr, ⊎_elim, ap, sym, subst, refl, ℕ, zero, suc, ◌+◌, ◌<◌, ◌≤◌, List, [], ◌∷◌, ◌++◌, length, Bool, true, false, cond, arith, All, append_assoc, append-nil}
use Rattle.std.specs.Prelude.{Some, None, Ok, Err}
use Rattle.std.specs.declared.option.Option.{Option}
use Rattle.std.specs.declared.result.Result.{Result}
use Rattle.std.proofs.lemmas.Slice.Eq.{bytes_eq-Decides}
use Rattle.std.proofs.lemmas.List.{map-append}
use Rattle.std.proofs.lemmas.List.Elements.{All-append}
use Rattle.std.proofs.lemmas.List.Sums.{fold_push}
use Rattle.fem_text.specs.Outside.{Held}
use Rattle.fem_text.specs.Memory.{Named}
use Rattle.run_words.specs.Choice.{Choice}
use Rattle.batch_read.specs.declared.fault.BatchKind.{BatchKind}
use Rattle.batch_read.specs.declared.fault.BatchKind.TheVariants as kinds
use Rattle.batch_read.specs.Batch.{IsJob, BatchText, BatchFaultAt}
use Rattle.batch_texts.specs.Shelf.{size_limit, size_of, is_shelved}
use Rattle.batch_texts.specs.Names.{with_name, StandsIn, AreTextsOf, read_names}
use Rattle.batch_texts.proofs.Shelves.{size_more}
use Rattle.batch_sources.specs.declared.ending.BatchRole.TheVariants.{Batch, Job}
use Rattle.batch_sources.specs.declared.ending.BatchRefusal.{BatchRefusal}
use Rattle.batch_sources.specs.declared.ending.BatchRefusal.TheVariants.{Text, Count, Size, Absent}
use Rattle.batch_sources.specs.Reads.{AskForAll, job_reads}
use Rattle.batch_sources.specs.Sources.{AreJobs, HasRead, IsNextOfJob}
use Rattle.batch_sources.specs.Laws.{SourcesRead, HaveAReading}
use Rattle.batch_sources.proofs.Shelving.{found_before}
use Rattle.batch_sources.proofs.Places.{all_head, all_tail, new_name, old_name}

at_most_or_above : (a b : ℕ) → (a ≤ b) ⊎ (b < a)
at_most_or_above zero b = inl (omega arith)
at_most_or_above (suc a) zero = inr (omega arith)
at_most_or_above (suc a) (suc b) = ⊎_elim (λ (h : a ≤ b). inl (omega (arith, h))) (λ (h : b < a). inr (omega (arith, h))) (at_most_or_above a b)

all_one : {A : Type 0} (P : A → Type 0) (x : A) → P x → All P (x ∷ [])
all_one P x h zero d lt = h
all_one P x h (suc k) d lt = absurd (omega (arith, lt))

-- each of the jobs asks for something
choices_of : (jobs : List (List (List ℕ))) → All (λ words. IsJob words) jobs → (choices : List Choice) × AskForAll jobs choices
choices_of [] all = ([], tt)
choices_of (words ∷ jobs) all =
    let first = all_head (λ words. IsJob words) words jobs all in
    let rest = choices_of jobs (all_tail (λ words. IsJob words) words jobs all) in
    (first.choice ∷ rest.0, (first.asks, rest.1))

module _ (held : Held) where
  -- one name more, with a text that is there or with a new one
  stays_there : (names : List (List ℕ)) (texts : Named) (wanted : List ℕ) → AreTextsOf (Some held) names texts → is_shelved texts wanted ≡ true → AreTextsOf (Some held) (names ++ wanted ∷ []) texts
  stays_there names texts wanted are there = record {
    names_are = sym (fold_push with_name [] names wanted ∙ ap (λ list. with_name list wanted) (sym are.names_are) ∙ old_name texts wanted there);
    stand = are.stand;
    few = are.few;
  }

  is_added : (names : List (List ℕ)) (texts : Named) (wanted text : List ℕ) → AreTextsOf (Some held) names texts → is_shelved texts wanted ≡ false → held wanted ≡ Some text → size_of texts + length text ≤ size_limit →
      AreTextsOf (Some held) (names ++ wanted ∷ []) (texts ++ (wanted, text) ∷ [])
  is_added names texts wanted text are none here few = record {
    names_are = map-append (λ (t : List ℕ × List ℕ). t.0) texts ((wanted, text) ∷ []) ∙ sym (fold_push with_name [] names wanted ∙ ap (λ list. with_name list wanted) (sym are.names_are) ∙ new_name texts wanted none);
    stand = All-append (StandsIn (Some held)) texts ((wanted, text) ∷ []) are.stand (all_one (StandsIn (Some held)) (wanted, text) here);
    few = subst (λ n. n ≤ size_limit) (sym (size_more texts (wanted, text))) few;
  }

  module _ (name : List ℕ) where
    abbrev Outcome : Type 0
    Outcome = (outcome : Result (List (List (List ℕ)) × Named) BatchRefusal) × SourcesRead (Some held) name outcome

    module _ (text : List ℕ) (jobs : List (List (List ℕ))) (choices : List Choice) (are : AreJobs text jobs choices) where
      -- the next read
      module _ (front behind : List (ℕ × List ℕ)) (job : ℕ) (wanted : List ℕ) (before : Named) (cut : job_reads choices ≡ front ++ (job, wanted) ∷ behind) (read : HasRead (Some held) name text front before)
          (next : (texts : Named) → HasRead (Some held) name text (front ++ (job, wanted) ∷ []) texts → Outcome) where
        is_next : IsNextOfJob (Some held) name job wanted before
        is_next = record { text = text; jobs = jobs; choices = choices; jobs_are = are; front = front; behind = behind; reads_are = cut; texts_are = read }

        names_more : (texts : Named) → AreTextsOf (Some held) ((name ∷ read_names front) ++ wanted ∷ []) texts → AreTextsOf (Some held) (name ∷ read_names (front ++ (job, wanted) ∷ [])) texts
        names_more texts more = subst (λ names. AreTextsOf (Some held) (name ∷ names) texts) (sym (map-append (λ (r : ℕ × List ℕ). r.1) front ((job, wanted) ∷ []))) more

        by_size : (found : List ℕ) → is_shelved before wanted ≡ false → held wanted ≡ Some found → Outcome
        by_size found none here = ⊎_elim
            (λ (few : size_of before + length found ≤ size_limit). next (before ++ (wanted, found) ∷ []) (record {
              texts_are = names_more (before ++ (wanted, found) ∷ []) (is_added (name ∷ read_names front) before wanted found read.texts_are none here few);
              own = found_before before ((wanted, found) ∷ []) name text read.own;
            }))
            (λ (much : size_limit < size_of before + length found). (Err Size, (Job job, before, (wanted, is_next, record { new = none; cause = (found, here, much) }))))
            (at_most_or_above (size_of before + length found) size_limit)

        by_held : (known : Option (List ℕ)) → held wanted ≡ known → is_shelved before wanted ≡ false → Outcome
        by_held None here none = (Err (Absent (Job job)), (before, (wanted, is_next, record { new = none; cause = here })))
        by_held (Some found) here none = by_size found none here

        step : (shelved : Bool) → is_shelved before wanted ≡ shelved → Outcome
        step true there = next before (record { texts_are = names_more before (stays_there (name ∷ read_names front) before wanted read.texts_are there); own = read.own })
        step false none = by_held (held wanted) refl none

      reads_on : (behind front : List (ℕ × List ℕ)) (before : Named) → job_reads choices ≡ front ++ behind → HasRead (Some held) name text front before → Outcome
      reads_on [] front before cut read =
          (Ok (jobs, before), record { text = text; choices = choices; jobs_are = are; texts_are = subst (λ reads. HasRead (Some held) name text reads before) (sym (cut ∙ append-nil front)) read })
      reads_on (first ∷ behind) front before cut read =
          step front behind first.0 first.1 before cut read
          (λ texts more. reads_on behind (front ++ first ∷ []) texts (cut ∙ sym (append_assoc front (first ∷ []) behind)) more) (is_shelved before first.1) refl

    module _ (some_text : (text : List ℕ) → ((jobs : List (List (List ℕ))) × BatchText text jobs) ⊎ ((kind : BatchKind) × (line : ℕ) × BatchFaultAt text kind line)) where
      fault_is : (text : List ℕ) (texts : Named) → HasRead (Some held) name text [] texts → (kind : BatchKind) (line : ℕ) → BatchFaultAt text kind line → Outcome
      fault_is text texts read kinds.Words line fault = (Err (Text line), record { text = text; texts = texts; texts_are = read; fault = fault })
      fault_is text texts read kinds.Count line fault = (Err (Count line), record { text = text; texts = texts; texts_are = read; fault = fault })
      fault_is text texts read kinds.NoMemory line fault = absurd fault.fault

      first_read : (text : List ℕ) → held name ≡ Some text → length text ≤ size_limit → HasRead (Some held) name text [] ((name, text) ∷ [])
      first_read text here few = record {
        texts_are = record { names_are = refl; stand = all_one (StandsIn (Some held)) (name, text) here; few = omega (arith, few) };
        own = ap (λ b. cond b (Some text) None) ((bytes_eq-Decides name name).1 refl);
      }

      by_text : (text : List ℕ) → HasRead (Some held) name text [] ((name, text) ∷ []) → Outcome
      by_text text read = ⊎_elim
          (λ (are : (jobs : List (List (List ℕ))) × BatchText text jobs).
          let asks = choices_of are.0 are.1.each in
          reads_on text are.0 asks.0 (record { jobs_are = are.1; asks = asks.1 }) (job_reads asks.0) [] ((name, text) ∷ []) refl read)
          (λ (is : (kind : BatchKind) × (line : ℕ) × BatchFaultAt text kind line). fault_is text ((name, text) ∷ []) read is.0 is.1 is.2)
          (some_text text)

      by_known : (known : Option (List ℕ)) → held name ≡ known → Outcome
      by_known None here = (Err (Absent Batch), ([], (name, (refl, refl), record { new = refl; cause = here })))
      by_known (Some text) here = ⊎_elim
          (λ (few : length text ≤ size_limit). by_text text (first_read text here few))
          (λ (much : size_limit < length text). (Err Size, (Batch, [], (name, (refl, refl), record { new = refl; cause = (text, here, omega (arith, much)) }))))
          (at_most_or_above (length text) size_limit)

pub some_reading : ((text : List ℕ) → ((jobs : List (List (List ℕ))) × BatchText text jobs) ⊎ ((kind : BatchKind) × (line : ℕ) × BatchFaultAt text kind line)) → HaveAReading
some_reading some_text (Some held) name = by_known held name some_text (held name) refl
some_reading some_text None name = (Err Size, (Batch, [], (name, (refl, refl), record { new = refl; cause = tt })))
