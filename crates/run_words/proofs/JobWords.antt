-- What the words of a job ask for, by their settings.
use Rattle.std.proofs.Common.{◌≡◌, ◌∙◌, ap, sym, ℕ, List, Bool, true, false, refl, not, inl, inr}
use Rattle.std.specs.Prelude.{Some, None, ◌&&◌, IfSome, IfNone}
use Rattle.std.specs.declared.option.Option.{Option}
use Rattle.std.specs.Option.{option_map, option_and_then}
use Rattle.std.proofs.lemmas.Option.{cond_some}
use Rattle.run_words.specs.declared.name.Name.{Name}
use Rattle.run_words.specs.declared.options.Options as rust
use Rattle.run_words.specs.Names.{place_of, all_names}
use Rattle.run_words.specs.Settings.{Given, given_by}
use Rattle.run_words.specs.Held.{Holds, CannotHold}
use Rattle.run_words.specs.Choice.{Choice, seen}
use Rattle.run_words.specs.Words.{AskFor}
use Rattle.run_words.specs.Jobs.{is_other, is_job_mode, reads_input, AskForJob, AskForNoJob, AskForJobOrNot}
use Rattle.run_words.specs.Reading.{reading}
use Rattle.run_words.specs.JobReading.{has_other, is_job, job_only, job_reading}
use Rattle.run_words.proofs.Cuts.{then_some}
use Rattle.run_words.proofs.NoOption.{stands_at, none_at, none_any, not_none}
use Rattle.run_words.proofs.SomeWords.{cases_Option, held_or_not}
use Rattle.run_words.proofs.Asked.{given_is, settings_are_one, ask_for_read, read_as_asked, cannot_ask}

none_other : (given : Given) (name : Name) → has_other given ≡ false → is_other given name ≡ false
none_other given name none = none_at (is_other given) all_names (place_of name) name none (stands_at name)

both : (a b : Bool) → a && not b ≡ true → (a ≡ true) × (b ≡ false)
both true true h = cc
both true false h = (refl, refl)
both false b h = cc

job_only_same : (found choice : Choice) → job_only found ≡ Some choice → (found ≡ choice) × (is_job_mode choice.mode ≡ true) × (reads_input choice.source ≡ false)
job_only_same found choice h =
    let is = cond_some (is_job found) found choice h in
    let of_choice : is_job choice ≡ true = ap is_job (sym is.1) ∙ is.0 in
    let parts = both (is_job_mode choice.mode) (reads_input choice.source) of_choice in
    (is.1, parts.0, parts.1)

-- what is read of a job
record IsReadJob (given : Given) (choice : Choice) : Type 0 where
  read : reading given ≡ Some choice
  options : has_other given ≡ false
  mode : is_job_mode choice.mode ≡ true
  named : reads_input choice.source ≡ false

job_reading_tells : (given : Given) (choice : Choice) → job_reading given ≡ Some choice → IsReadJob given choice
unfolding job_reading
job_reading_tells given choice read =
    let is = not_none (has_other given) (option_and_then job_only (reading given)) choice read in
    let found = then_some job_only (reading given) choice is.1 in
    let same = job_only_same found.0 choice found.2 in
    record { read = found.1 ∙ ap Some same.0; options = is.0; mode = same.1; named = same.2 }

job_reading_given : (given : Given) (choice : Choice) → IsReadJob given choice → job_reading given ≡ Some choice
unfolding job_reading
job_reading_given given choice is = rw (is.options, is.read, is.mode, is.named) refl

given_as_asked : (words : List (List ℕ)) (held : Given) (choice : Choice) → Holds words held → (asked : AskFor words choice) → held ≡ given_by asked.settings
given_as_asked words held choice holds asked =
    given_is holds.settings held holds.values_are ∙ ap given_by (settings_are_one holds.settings asked.settings (sym holds.words_are ∙ asked.words_are))

job_of_read : (words : List (List ℕ)) (held : Given) (choice : Choice) → Holds words held → IsReadJob held choice → AskForJob words choice
job_of_read words held choice holds read =
    let asked = ask_for_read words held choice holds read.read in
    let given = given_as_asked words held choice holds asked in
    record {
      asked = asked;
      options = λ name. ap (λ g. is_other g name) (sym given) ∙ none_other held name read.options;
      mode = read.mode;
      named = read.named;
    }

pub asks_job : (words : List (List ℕ)) (held : Given) (result : Option rust.Options) → Holds words held → option_map seen result ≡ job_reading held → IfSome result (λ options. AskForJob words (seen options))
asks_job words held None holds is = tt
asks_job words held (Some options) holds is = job_of_read words held (seen options) holds (job_reading_tells held (seen options) (sym is))

asked_is_read : (words : List (List ℕ)) (held : Given) (choice : Choice) → Holds words held → AskForJob words choice → IsReadJob held choice
asked_is_read words held choice holds job =
    let given = given_as_asked words held choice holds job.asked in
    record {
      read = read_as_asked words held choice holds job.asked;
      options = none_any (is_other held) all_names (λ name. ap (λ g. is_other g name) given ∙ job.options name);
      mode = job.mode;
      named = job.named;
    }

pub asks_no_job : (words : List (List ℕ)) (held : Given) (result : Option rust.Options) → Holds words held → option_map seen result ≡ job_reading held → IfNone result (AskForNoJob words)
asks_no_job words held None holds is = λ choice job. let e = is ∙ job_reading_given held choice (asked_is_read words held choice holds job) in cc
asks_no_job words held (Some options) holds is = tt

pub cannot_ask_job : (words : List (List ℕ)) → CannotHold words → AskForNoJob words
cannot_ask_job words cannot choice job = cannot_ask words cannot choice job.asked

pub job_or_not : (words : List (List ℕ)) → AskForJobOrNot words
job_or_not words = elim (held_or_not words) [
  | inl is ↦ elim (cases_Option (job_reading is.0)) [
    | inl none ↦ inr (λ choice job. let e = sym none ∙ job_reading_given is.0 choice (asked_is_read words is.0 choice is.1 job) in cc)
    | inr some ↦ inl (some.0, job_of_read words is.0 some.0 is.1 (job_reading_tells is.0 some.0 some.1))
  ]
  | inr cannot ↦ inr (cannot_ask_job words cannot)
]
