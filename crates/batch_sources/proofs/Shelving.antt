-- The texts of a batch, step after step.
use Rattle.std.proofs.Common.{◌≡◌, ◌∙◌, ap, sym, subst, refl, ℕ, zero, suc, ◌+◌, ◌≤◌, List, [], ◌∷◌, ◌++◌, length, Bool, true, false, cond, arith, All, append_assoc, inl, inr}
use Rattle.std.specs.Prelude.{Some}
use Rattle.std.specs.declared.option.Option.{Option}
use Rattle.std.specs.Str.{bytes_eq}
use Rattle.std.proofs.lemmas.List.{length-append, length-map}
use Rattle.std.proofs.lemmas.List.Elements.{All-append}
use Rattle.std.proofs.lemmas.List.Sums.{fold-append}
use Rattle.fem_text.specs.declared.counts.Counts.{Counts}
use Rattle.fem_text.specs.Counts.{after_call, after_good}
use Rattle.fem_text.specs.Outside.{Held}
use Rattle.fem_text.specs.Memory.{Named, held_of}
use Rattle.batch_read.specs.declared.fault.BatchKind.{BatchKind}
use Rattle.batch_read.specs.declared.fault.BatchKind.TheVariants as kinds
use Rattle.batch_texts.specs.declared.shelf.NameFault.{NameFault}
use Rattle.batch_texts.specs.declared.shelf.NameFault.TheVariants as faults
use Rattle.batch_texts.specs.Shelf.{size_limit, size_of, IsNameFault, is_failed}
use Rattle.batch_texts.specs.Names.{names_of, with_name, with_names, StandsIn, read_names, ShelvesNames}
use Rattle.batch_sources.specs.declared.ending.BatchRole.TheVariants.{Batch, Job}
use Rattle.batch_sources.specs.declared.ending.BatchEnding.{BatchEnding}
use Rattle.batch_sources.specs.Sources.{HasRead, AreSources, IsNextOfJob, EndsSources}
use Rattle.batch_sources.specs.Steps.{name_ending, line_ending, HasJobs, HasLineFault, EndsText, ReadsJobs, StopsJobs, EndsJobs}

good_more : (m n : ℕ) (before : Counts) → after_good m (after_good n before) ≡ after_good (m + n) before
good_more zero n before = let e : n ≡ zero + n = omega arith in ap (λ k. after_good k before) e
good_more (suc m) n before = let e : suc (m + n) ≡ suc m + n = omega arith in ap (after_call false) (good_more m n before) ∙ ap (λ k. after_good k before) e

pub found_before : (texts more : Named) (name text : List ℕ) → held_of texts name ≡ Some text → held_of (texts ++ more) name ≡ Some text
found_before [] more name text is = cc
found_before (first ∷ texts) more name text is = behind_first (bytes_eq name first.0) (found_before texts more name text) is
  where
    behind_first : (b : Bool) → (held_of texts name ≡ Some text → held_of (texts ++ more) name ≡ Some text) → cond b (Some first.1) (held_of texts name) ≡ Some text → cond b (Some first.1) (held_of (texts ++ more) name) ≡ Some text
    behind_first true found is = is
    behind_first false found is = found is

-- a text among others is no longer than all of them
short_among : (texts : Named) (name text : List ℕ) → held_of texts name ≡ Some text → length text ≤ size_of texts
short_among [] name text is = cc
short_among (first ∷ texts) name text is = behind_first (bytes_eq name first.0) (short_among texts name text) is
  where
    same_Some : (x y : List ℕ) → Some x ≡ Some y → x ≡ y
    same_Some x y same = cc

    here : first.1 ≡ text → length text ≤ length first.1 + size_of texts
    here same = omega (arith, ap length same)

    behind_first : (b : Bool) → (held_of texts name ≡ Some text → length text ≤ size_of texts) → cond b (Some first.1) (held_of texts name) ≡ Some text → length text ≤ length first.1 + size_of texts
    behind_first true short is = here (same_Some first.1 text is)
    behind_first false short is = omega (arith, short is)

pub short_text : (texts : Named) (name text : List ℕ) → Some text ≡ held_of texts name → size_of texts ≤ size_limit → length text ≤ 4294967294
unfolding size_limit
short_text texts name text is few = omega (arith, short_among texts name text (sym is), few)

-- the texts of some names, and then of others
joined : (holds : Option Held) (front behind : List (List ℕ)) (old mid new : Named) (before reached now : Counts) → ShelvesNames holds front old mid before reached → ShelvesNames holds behind mid new reached now →
    ShelvesNames holds (front ++ behind) old new before now
joined holds front behind old mid new before reached now a b = record {
  added = a.added ++ b.added;
  new_is = b.new_is ∙ ap (λ texts. texts ++ b.added) a.new_is ∙ append_assoc old a.added b.added;
  names_are = b.names_are ∙ ap (λ names. with_names names behind) a.names_are ∙ sym (fold-append with_name (names_of old) front behind);
  stand = All-append (StandsIn holds) a.added b.added a.stand b.stand;
  few = λ few. b.few (a.few few);
  reads = b.reads ∙ ap (after_good (length b.added)) a.reads ∙ good_more (length b.added) (length a.added) before ∙ counted;
}
  where
    counted : after_good (length b.added + length a.added) before ≡ after_good (length (a.added ++ b.added)) before
    counted = let e : length b.added + length a.added ≡ length (a.added ++ b.added) = omega (arith, length-append a.added b.added) in ap (λ k. after_good k before) e

module _ (holds : Option Held) (name : List ℕ) (before : Counts) where
  -- all that was read, from nothing on
  has_read : (text : List ℕ) (reads : List (ℕ × List ℕ)) (texts : Named) (now : Counts) → ShelvesNames holds (name ∷ read_names reads) [] texts before now → held_of texts name ≡ Some text → HasRead holds name text reads texts
  has_read text reads texts now shelves own = record {
    texts_are = record { names_are = shelves.names_are; stand = subst (All (StandsIn holds)) (sym shelves.new_is) shelves.stand; few = shelves.few (omega arith) };
    own = own;
  }

  reads_made : (names : List (List ℕ)) (texts : Named) (now : Counts) → ShelvesNames holds names [] texts before now → now ≡ after_good (length texts) before
  reads_made names texts now shelves = shelves.reads ∙ ap (λ list. after_good (length list) before) (sym shelves.new_is)

  -- the batch text isn't to be had
  pub first_ends : (now : Counts) (fault : NameFault) → IsNameFault holds name [] fault → now ≡ after_call (is_failed fault) before → EndsSources holds name before now (name_ending Batch fault)
  first_ends now faults.Absent is read = (([], (name, (refl, refl), is)), read)
  first_ends now faults.Size is read = ((Batch, [], (name, (refl, refl), is)), read)
  first_ends now faults.Failed is read = ([], (name, (refl, refl), is), read)
  first_ends now faults.NoMemory is read = (1, read)

  module _ (shelf : Named) (reached : Counts) (first : ShelvesNames holds (name ∷ []) [] shelf before reached) where
    one_read : reached ≡ after_good 1 before
    one_read =
        let one : length first.added ≡ 1 = sym (length-map first.added (λ (text : List ℕ × List ℕ). text.0)) ∙ ap (λ texts. length (names_of texts)) (sym first.new_is) ∙ ap length first.names_are in
        first.reads ∙ ap (λ n. after_good n before) one

    -- the batch text has a fault
    fault_ends : (kind : BatchKind) (line : ℕ) → HasLineFault shelf name kind line → EndsSources holds name before reached (line_ending kind line)
    fault_ends kinds.Words line is = (record { text = is.text; texts = shelf; texts_are = has_read is.text [] shelf reached first is.text_is; fault = is.fault }, one_read)
    fault_ends kinds.Count line is = (record { text = is.text; texts = shelf; texts_are = has_read is.text [] shelf reached first is.text_is; fault = is.fault }, one_read)
    fault_ends kinds.NoMemory line is = (length first.added, first.reads)

    pub text_ends : (ending : BatchEnding) → EndsText shelf name ending → EndsSources holds name before reached ending
    text_ends ending (inl none) = subst (EndsSources holds name before reached) (sym none) (length first.added, first.reads)
    text_ends ending (inr (kind, line, is, e)) = subst (EndsSources holds name before reached) (sym e) (fault_ends kind line is)

    module _ (jobs : List (List (List ℕ))) (text_jobs : HasJobs shelf name jobs) where
      -- all texts are there
      pub all_read : (holds_mid : Option Held) (new : Named) (now : Counts) → holds_mid ≡ holds → ReadsJobs holds_mid jobs shelf new reached now → AreSources holds name jobs new × (now ≡ after_good (length new) before)
      all_read holds_mid new now same read =
          let more = subst (λ h. ShelvesNames h (read_names read.reads) shelf new reached now) same read.shelves in
          let all = joined holds (name ∷ []) (read_names read.reads) [] shelf new before reached now first more in
          let own : held_of new name ≡ Some text_jobs.0 = ap (λ texts. held_of texts name) more.new_is ∙ found_before shelf more.added name text_jobs.0 text_jobs.1 in (
            record {
              text = text_jobs.0;
              choices = read.reads_are.0;
              jobs_are = record { jobs_are = text_jobs.2; asks = read.reads_are.1 };
              texts_are = subst (λ reads. HasRead holds name text_jobs.0 reads new) read.reads_are.2 (has_read text_jobs.0 read.reads new now all own);
            },
            reads_made (name ∷ read_names read.reads) new now all,
          )

      -- one text of a job isn't to be had
      module _ (now : Counts) (job : ℕ) (fault : NameFault) (stop : StopsJobs holds jobs shelf reached now job fault) where
        all_before : ShelvesNames holds (name ∷ read_names stop.stops.front) [] stop.new before stop.stops.reached
        all_before = joined holds (name ∷ []) (read_names stop.stops.front) [] shelf stop.new before reached stop.stops.reached first stop.stops.shelves

        own_before : held_of stop.new name ≡ Some text_jobs.0
        own_before = ap (λ texts. held_of texts name) stop.stops.shelves.new_is ∙ found_before shelf stop.stops.shelves.added name text_jobs.0 text_jobs.1

        next_read : IsNextOfJob holds name job stop.stops.name stop.new
        next_read = record {
          text = text_jobs.0;
          jobs = jobs;
          choices = stop.reads_are.0;
          jobs_are = record { jobs_are = text_jobs.2; asks = stop.reads_are.1 };
          front = stop.stops.front;
          behind = stop.stops.behind;
          reads_are = sym stop.reads_are.2 ∙ stop.stops.reads_are;
          texts_are = has_read text_jobs.0 stop.stops.front stop.new stop.stops.reached all_before own_before;
        }

        calls_well : (made : Bool) → is_failed fault ≡ made → now ≡ after_call made (after_good (length stop.new) before)
        calls_well made is = stop.stops.read ∙ ap (λ b. after_call b stop.stops.reached) is ∙ ap (after_call made) (reads_made (name ∷ read_names stop.stops.front) stop.new stop.stops.reached all_before)

      stop_ends : (now : Counts) (job : ℕ) (fault : NameFault) → StopsJobs holds jobs shelf reached now job fault → EndsSources holds name before now (name_ending (Job job) fault)
      stop_ends now job faults.Absent stop = ((stop.new, (stop.stops.name, next_read now job faults.Absent stop, stop.stops.cause)), calls_well now job faults.Absent stop false refl)
      stop_ends now job faults.Size stop = ((Job job, stop.new, (stop.stops.name, next_read now job faults.Size stop, stop.stops.cause)), calls_well now job faults.Size stop false refl)
      stop_ends now job faults.Failed stop = (stop.new, (stop.stops.name, next_read now job faults.Failed stop, stop.stops.cause), calls_well now job faults.Failed stop true refl)
      stop_ends now job faults.NoMemory stop = (suc (length stop.new), calls_well now job faults.NoMemory stop false refl)

      pub jobs_end : (holds_mid : Option Held) (now : Counts) (ending : BatchEnding) → holds_mid ≡ holds → EndsJobs holds_mid jobs shelf reached now ending → EndsSources holds name before now ending
      jobs_end holds_mid now ending same (inl (none, stays)) = subst (EndsSources holds name before now) (sym none) (length first.added, stays ∙ first.reads)
      jobs_end holds_mid now ending same (inr (job, fault, stop, e)) =
          subst (EndsSources holds name before now) (sym e) (stop_ends now job fault (subst (λ h. StopsJobs h jobs shelf reached now job fault) same stop))
