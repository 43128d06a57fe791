-- Runs of words that two ways of taking modes answer alike.
use Rattle.std.proofs.Common.{◌≡◌, ◌∙◌, sym, inl, inr, refl, ℕ, List, Bool, true, false}
use Rattle.std.specs.Prelude.{Ok, Err, IsTrue}
use Rattle.std.specs.declared.option.Option.{Option}
use Rattle.std.specs.declared.result.Result.{Result}
use Rattle.fem_text.specs.declared.counts.Counts.{Counts}
use Rattle.fem_text.specs.Outside.{Held}
use Rattle.run_words.specs.declared.options.SystemMode.TheVariants as systems
use Rattle.run_words.specs.Choice.{Mode, of_system, of_mesh, of_vector, Choice}
use Rattle.run_words.specs.Words.{AskFor, NameOrdered, NameBatch, MayWait}
use Rattle.run_outputs.specs.Targets.{Target, World}
use Rattle.diagnostics.specs.declared.refusal.Refusal.{Refusal}
use Rattle.diagnostics.specs.declared.ending.Ending.{Ending}
use Rattle.diagnostics.specs.declared.ending.Ending.TheVariants.{Refused, ReadFault, WriteFault, NoMemory}
use Rattle.diagnostics.specs.Stages.{stops, goes}
use Rattle.run_words.specs.BatchWords.{BatchChoice, AskForBatch, AskForNoBatch}
use Rattle.assemble_core.specs.Modes.{plain_modes, all_modes}
use Rattle.assemble_core.specs.Answer.{Asked, Answers}
use Rattle.assemble_core.specs.Run.{Outside, IsRun, Leaves, ReadsWell, IsUntouched, StopsWriting}

module _ (takes other : Mode → Bool) (words : List (List ℕ)) (alike : (outcome : Result Choice Refusal) → Asked takes words outcome → Asked other words outcome) where
  answers : (holds : Option Held) (outcome : Result (List Target) Refusal) → Answers takes words holds outcome → Answers other words holds outcome
  answers holds outcome (stops refusal asked e) = stops refusal (alike (Err refusal) asked) e
  answers holds outcome (goes choice asked defines) = goes choice (alike (Ok choice) asked) defines

  reads : (before now : Counts) → ReadsWell takes words before now → ReadsWell other words before now
  reads before now (inl none) = inl none
  reads before now (inr (choice, asked, some)) = inr (choice, alike (Ok choice) asked, some)

  untouched : (before now : World) → IsUntouched takes words before now → IsUntouched other words before now
  untouched before now is = record { reads = reads before.store now.store is.reads; same = is.same }

  writing : (before now : World) (e : Ending) → StopsWriting takes words before now e → StopsWriting other words before now e
  writing before now e is =
      record { choice = is.choice; asked = alike (Ok is.choice) is.asked; targets = is.targets; answer = answers before.holds (Ok is.targets) is.answer; stops = is.stops }

  leaves : (before now : World) (end : Result Unit Ending) → Leaves takes words before now end → Leaves other words before now end
  leaves before now (Ok unit) is =
      record { choice = is.choice; asked = alike (Ok is.choice) is.asked; targets = is.targets; answer = answers before.holds (Ok is.targets) is.answer; written = is.written }
  leaves before now (Err (Refused refusal)) is = (answers before.holds (Err refusal) is.0, untouched before now is.1)
  leaves before now (Err (ReadFault role)) is = record { choice = is.choice; asked = alike (Ok is.choice) is.asked; goes_on = is.goes_on; reads = is.reads; same = is.same }
  leaves before now (Err (WriteFault output)) is = writing before now (WriteFault output) is
  leaves before now (Err NoMemory) (inl (choice, asked, is)) = inl (choice, alike (Ok choice) asked, untouched before now is)
  leaves before now (Err NoMemory) (inr is) = inr (writing before now NoMemory is)

  run_alike : (before now : Outside) (status : ℕ) → IsRun takes words before now status → IsRun other words before now status
  run_alike before now status is = record { end = is.end; status_is = is.status_is; leaves = leaves before.world now.world is.end is.leaves; tells = is.tells }

-- only the mode `ordered` isn't taken by a run that does not wait
not_plain : (mode : Mode) → plain_modes mode ≡ false → mode ≡ of_system systems.Ordered
not_plain (of_system systems.Serial) h = cc
not_plain (of_system systems.Colored) h = cc
not_plain (of_system systems.Pattern) h = cc
not_plain (of_system systems.Colors) h = cc
not_plain (of_system systems.Ordered) h = refl
not_plain of_mesh h = cc
not_plain (of_vector name task) h = cc

asked_alike : (words : List (List ℕ)) → ((choice : Choice) → AskFor words choice → choice.mode ≡ of_system systems.Ordered → ⊥) → (outcome : Result Choice Refusal) → Asked plain_modes words outcome →
    Asked all_modes words outcome
asked_alike words never (Ok choice) asked = (asked.0, refl)
asked_alike words never (Err refusal) refused = ((λ choice asks. absurd (never choice asks (not_plain choice.mode (refused.0 choice asks)))), refused.1)

not_both : (waits : Bool) → IsTrue waits → waits ≡ false → ⊥
not_both waits is never = (let e : true ≡ false = sym is ∙ never in cc)

-- words that name nothing that may wait don't ask for the mode `ordered`
pub not_asked : (words : List (List ℕ)) (waits : Bool) → ((IsTrue waits → MayWait words) × (MayWait words → IsTrue waits)) → waits ≡ false →
    ((all : List (List ℕ)) (choice : Choice) → AskFor all choice → choice.mode ≡ of_system systems.Ordered → NameOrdered all) → (choice : Choice) → AskFor words choice → choice.mode ≡ of_system systems.Ordered → ⊥
not_asked words waits names never named choice asks ordered = not_both waits (names.1 (inl (named words choice asks ordered))) never

-- a run that does not wait, of words that don't ask for the mode `ordered`
pub plain_is_all : (words : List (List ℕ)) (before now : Outside) (status : ℕ) → ((choice : Choice) → AskFor words choice → choice.mode ≡ of_system systems.Ordered → ⊥) →
    IsRun plain_modes words before now status → IsRun all_modes words before now status
plain_is_all words before now status never is = run_alike plain_modes all_modes words (asked_alike words never) before now status is

-- words that name nothing that may wait ask for no batch
pub no_batch : (words : List (List ℕ)) (waits : Bool) → ((IsTrue waits → MayWait words) × (MayWait words → IsTrue waits)) → waits ≡ false →
    ((all : List (List ℕ)) (choice : BatchChoice) → AskForBatch all choice → NameBatch all) → AskForNoBatch words
no_batch words waits names never named choice asks = not_both waits (names.1 (inr (named words choice asks))) never
