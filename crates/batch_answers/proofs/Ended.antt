-- How jobs end over texts that are there.
use Rattle.std.proofs.Common.{◌≡◌, ◌∙◌, ap, sym, subst, ℕ, ◌+◌, ◌<◌, List, [], ◌∷◌, ◌++◌, Bool, true, false, map, take, length, arith, append-nil}
use Rattle.std.specs.List.{flat_map}
use Rattle.std.proofs.lemmas.Grind.{common_steps, flat_map-append}
use Rattle.std.proofs.lemmas.List.{map-append}
use Rattle.run_outputs.specs.declared.target.Target as rust
use Rattle.std.specs.Prelude.{Some, None, Ok, Err, IfOk, slice_index_or}
use Rattle.std.specs.declared.result.Result.{Result}
use Rattle.std.specs.declared.option.Option.{Option}
use Rattle.fem_text.specs.declared.counts.Counts.{Counts}
use Rattle.fem_text.specs.Counts.{none_failed, after_call, after_good}
use Rattle.fem_text.specs.Outside.{Held}
use Rattle.fem_text.specs.Memory.{Named, held_of}
use Rattle.run_words.specs.Choice.{Choice}
use Rattle.run_words.specs.Jobs.{AskForJob}
use Rattle.run_texts.specs.Read.{reads_before}
use Rattle.run_outputs.specs.Targets.{Target, seen_target}
use Rattle.diagnostics.specs.declared.refusal.Refusal.{Refusal}
use Rattle.diagnostics.specs.declared.ending.Ending.{Ending}
use Rattle.diagnostics.specs.declared.ending.Ending.TheVariants.{Refused, ReadFault, WriteFault, NoMemory}
use Rattle.diagnostics.specs.Lines.{status_of, refusal_line}
use Rattle.run_targets.specs.Defines.{Defines}
use Rattle.run_targets.specs.Ends.{EndsDefining}
use Rattle.run_targets.specs.Reads.{ChoiceReads}
use Rattle.batch_answers.specs.Outcome.{text_of, IsAnswer}
use Rattle.batch_answers.specs.Ends.{IsOfTexts, IsRefusalOf}

cut_at : (targets : List rust.Target) (k : ℕ) (t : rust.Target) → k < length targets → slice_index_or targets k t ≡ t → take (k + 1) targets ≡ take k targets ++ t ∷ []
cut_at targets k t lt is = grind (arith, common_steps)

-- one text more
pub text_more : (targets : List rust.Target) (k : ℕ) (t : rust.Target) (text new : List ℕ) → k < length targets → slice_index_or targets k t ≡ t → text ≡ text_of (map seen_target (take k targets)) → new ≡ text ++ t.text.items →
    new ≡ text_of (map seen_target (take (k + 1) targets))
text_more targets k t text new lt is so_far more =
    more ∙ ap (λ front. front ++ t.text.items) so_far ∙ sym (ap (λ list. text_of (map seen_target list)) (cut_at targets k t lt is) ∙ ap text_of (map-append seen_target (take k targets) (t ∷ []))
    ∙ flat_map-append (λ (target : Target). target.text) (map seen_target (take k targets)) (seen_target t ∷ []) ∙ ap (λ behind. text_of (map seen_target (take k targets)) ++ behind) (append-nil t.text.items))

-- a store none of whose calls failed has no last call that did
none_is_last : (calls : ℕ) (before : Counts) → none_failed calls ≡ after_call true before → ⊥
none_is_last calls before e = let f : false ≡ true = ap (λ (c : Counts). c.failed_last) e in cc

pub of_texts : (X : Type 0) (holds : Option Held) (choice : Choice) (before : Counts) (calls : ℕ) (ending : Ending) → EndsDefining holds choice ending → ChoiceReads {X = X} choice (Err ending) before (none_failed calls) → IsOfTexts ending
of_texts X holds choice before calls (Refused refusal) ends reads = tt
of_texts X holds choice before calls (ReadFault role) ends reads = none_is_last calls (after_good (reads_before choice.source role) before) reads
of_texts X holds choice before calls (WriteFault output) ends reads = absurd ends
of_texts X holds choice before calls NoMemory ends reads = tt

-- a job whose texts are written
pub answered : (words : List (List ℕ)) (texts : Named) (choice : Choice) (targets : List Target) (status : ℕ) (text : List ℕ) → AskForJob words choice → Defines (Some (held_of texts)) choice (Ok targets) →
    (status ≡ 0) × (text ≡ text_of targets) → IsAnswer words texts status text
answered words texts choice targets status text asked defines is = record { choice = choice; asked = asked; made = Ok targets; defines = defines; outcome = is }

-- a job that is refused
pub refused : (words : List (List ℕ)) (texts : Named) (choice : Choice) (ending : Ending) (status : ℕ) (text : List ℕ) → AskForJob words choice → EndsDefining (Some (held_of texts)) choice ending → IsRefusalOf ending status text →
    IsAnswer words texts status text
refused words texts choice ending status text asked ends is = record {
  choice = choice;
  asked = asked;
  made = Err is.0;
  defines = subst (EndsDefining (Some (held_of texts)) choice) is.1 ends;
  outcome = (is.2, is.3);
}

module _ {X E : Type 0} (status : X → ℕ) (text : X → List ℕ) (words : List (List ℕ)) (shelf texts : Named) (choice : Choice) (same : texts ≡ shelf) (asked : AskForJob words choice) where
  pub job_answered : (result : Result X E) (items seen : List rust.Target) → seen ≡ items → Defines (Some (held_of texts)) choice (Ok (map seen_target items)) →
      IfOk result (λ o. (status o ≡ 0) × (text o ≡ text_of (map seen_target seen))) → IfOk result (λ o. IsAnswer words shelf (status o) (text o))
  job_answered (Ok o) items seen are defines is =
      answered words shelf choice (map seen_target items) (status o) (text o) asked (subst (λ t. Defines (Some (held_of t)) choice (Ok (map seen_target items))) same defines)
      (is.0, is.1 ∙ ap (λ list. text_of (map seen_target list)) are)
  job_answered (Err e) items seen are defines is = tt

  pub job_refused : (result : Result X E) (ending : Ending) → EndsDefining (Some (held_of texts)) choice ending → IfOk result (λ o. IsRefusalOf ending (status o) (text o)) →
      IfOk result (λ o. IsAnswer words shelf (status o) (text o))
  job_refused (Ok o) ending ends is =
      refused words shelf choice ending (status o) (text o) asked (subst (λ t. EndsDefining (Some (held_of t)) choice ending) same ends) is
  job_refused (Err e) ending ends is = tt
