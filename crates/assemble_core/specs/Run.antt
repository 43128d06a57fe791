-- What a run leaves, and its status.
use Rattle.std.specs.Prelude.{◌≡◌, ◌⊎◌, ℕ, List, [], ◌∷◌, Bool, ◌==◌, true, Ok, Err}
use Rattle.std.specs.declared.option.Option.{Option}
use Rattle.std.specs.declared.result.Result.{Result}
use Rattle.std.specs.List.{list_any}
use Rattle.fem_text.specs.declared.counts.Counts.{Counts}
use Rattle.fem_text.specs.Counts.{after_call, after_good}
use Rattle.fem_text.specs.Outside.{Held}
use Rattle.run_words.specs.Choice.{Mode, Choice}
use Rattle.run_texts.specs.Read.{SomeRead, reads_before}
use Rattle.run_targets.specs.Reads.{reads_in, ComesTo}
use Rattle.run_outputs.specs.Targets.{Target, World, after_targets}
use Rattle.run_outputs.specs.Stops.{StopsAmong}
use Rattle.diagnostics.specs.declared.ending.Role.{Role}
use Rattle.diagnostics.specs.declared.ending.Ending.{Ending}
use Rattle.diagnostics.specs.declared.ending.Ending.TheVariants.{Refused, ReadFault, WriteFault, NoMemory}
use Rattle.diagnostics.specs.Lines.{ending_status, ending_line, TookLine}
use Rattle.assemble_core.specs.Answer.{Asked, Answers}

-- some of the reads that the words name were made, none where they are refused, and all went well
abbrev pub ReadsWell : (Mode → Bool) → List (List ℕ) → Counts → Counts → Type 0
ReadsWell takes words before now = (now ≡ before) ⊎ ((choice : Choice) × Asked takes words (Ok choice) × SomeRead (reads_in choice) before now)

-- the same outside, with these counts of the store
abbrev pub after_reads : World → Counts → World
after_reads before reads = record { holds = before.holds; taken = before.taken; store = reads; out = before.out }

-- the same outside, after all reads that a choice names, each of which went well
abbrev pub after_choice : World → Choice → World
after_choice before choice = after_reads before (after_good (reads_in choice) before.store)

-- nothing was written or put, and no call failed
pub record IsUntouched (takes : Mode → Bool) (words : List (List ℕ)) (before now : World) : Type 0 where
  pub reads : ReadsWell takes words before.store now.store
  pub same : now ≡ after_reads before now.store

-- a read failed: the first where this text is the mesh, the second, behind one that went well, where it is the problem, and
-- the last, behind all that went well, where it is the vector; nothing is refused before this text, and nothing was written or put
pub record IsReadFault (takes : Mode → Bool) (words : List (List ℕ)) (before now : World) (role : Role) : Type 0 where
  pub choice : Choice
  pub asked : Asked takes words (Ok choice)
  pub goes_on : ComesTo before.holds choice role
  pub reads : now.store ≡ after_call true (after_good (reads_before choice.source role) before.store)
  pub same : now ≡ after_reads before now.store

-- all reads that the words name went well, and what they define was written, and nothing else
pub record IsWritten (takes : Mode → Bool) (words : List (List ℕ)) (before now : World) : Type 0 where
  pub choice : Choice
  pub asked : Asked takes words (Ok choice)
  pub targets : List Target
  pub answer : Answers takes words before.holds (Ok targets)
  pub written : now ≡ after_targets (after_choice before choice) targets

-- all reads that the words name went well, and the writing of what they define stopped so
pub record StopsWriting (takes : Mode → Bool) (words : List (List ℕ)) (before now : World) (ending : Ending) : Type 0 where
  pub choice : Choice
  pub asked : Asked takes words (Ok choice)
  pub targets : List Target
  pub answer : Answers takes words before.holds (Ok targets)
  pub stops : StopsAmong targets (after_choice before choice) now ending

-- what a run of these words leaves by its end: all is written; the words define a refusal; a read failed; a write
-- failed; or memory ran out, before anything was written or in a write
abbrev pub Leaves : (Mode → Bool) → List (List ℕ) → World → World → Result Unit Ending → Type 0
Leaves takes words before now (Ok unit) = IsWritten takes words before now
Leaves takes words before now (Err (Refused refusal)) = Answers takes words before.holds (Err refusal) × IsUntouched takes words before now
Leaves takes words before now (Err (ReadFault role)) = IsReadFault takes words before now role
Leaves takes words before now (Err (WriteFault output)) = StopsWriting takes words before now (WriteFault output)
Leaves takes words before now (Err NoMemory) =
    ((choice : Choice) × Asked takes words (Ok choice) × IsUntouched takes words before now) ⊎ StopsWriting takes words before now NoMemory

-- all that a run may change: the store, standard output, and what the diagnostics took and count
pub record Outside : Type 0 where
  pub world : World
  pub told : Option (List ℕ)
  pub tells : Counts

-- the outside of a store and two sinks, of which the second takes the diagnostics
abbrev pub outside : {S K : Type 0} → (S → Option Held) → (S → Counts) → (K → Option (List ℕ)) → (K → Counts) → S → K → K → Outside
outside holds counts taken puts store out err = record {
  world = record { holds = holds store; taken = taken out; store = counts store; out = puts out };
  told = taken err;
  tells = puts err;
}

-- the diagnostics took the line of an end, or a prefix of it, and nothing where all is well
abbrev pub Tells : Outside → Outside → Result Unit Ending → Type 0
Tells before now (Ok unit) = (now.told ≡ before.told) × (now.tells ≡ before.tells)
Tells before now (Err ending) = TookLine before.told now.told before.tells now.tells (ending_line ending)

-- 0 where all is well
abbrev pub status_of : Result Unit Ending → ℕ
status_of (Ok unit) = 0
status_of (Err ending) = ending_status ending

-- a run of these words ended with this status
pub record IsRun (takes : Mode → Bool) (words : List (List ℕ)) (before now : Outside) (status : ℕ) : Type 0 where
  pub end : Result Unit Ending
  pub status_is : status ≡ status_of end
  pub leaves : Leaves takes words before.world now.world end
  pub tells : Tells before now end

-- the statuses of runs
abbrev pub is_status : ℕ → Bool
is_status status = list_any (λ number. number == status) (0 ∷ 2 ∷ 3 ∷ 4 ∷ 5 ∷ 6 ∷ 7 ∷ 8 ∷ 9 ∷ 10 ∷ 11 ∷ 12 ∷ 14 ∷ 15 ∷ 16 ∷ 17 ∷ [])
