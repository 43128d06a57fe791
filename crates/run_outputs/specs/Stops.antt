-- How the writing of texts stops.
use Rattle.std.specs.Prelude.{◌≡◌, ℕ, List, ◌∷◌, ◌++◌, true, false}
use Rattle.fem_text.specs.Counts.{after_call, EndsInFault}
use Rattle.fem_text.specs.Outside.{TookPrefix, WritesPrefix}
use Rattle.run_words.specs.Choice.{Destination, standard, named}
use Rattle.diagnostics.specs.declared.ending.Ending.{Ending}
use Rattle.diagnostics.specs.declared.ending.Ending.TheVariants.{Refused, ReadFault, WriteFault, NoMemory}
use Rattle.run_outputs.specs.Targets.{Target, World, after_targets}

-- the last put failed, and standard output took a prefix of the text
pub record IsPutInPart (before now : World) (text : List ℕ) : Type 0 where
  pub taken : TookPrefix before.taken now.taken text
  pub puts : EndsInFault before.out now.out
  pub holds : now.holds ≡ before.holds
  pub store : now.store ≡ before.store

-- the one write failed, and the name is as before or holds a prefix of the text
pub record IsWrittenInPart (before now : World) (name text : List ℕ) : Type 0 where
  pub holds : WritesPrefix before.holds now.holds name text
  pub write : now.store ≡ after_call true before.store
  pub taken : now.taken ≡ before.taken
  pub out : now.out ≡ before.out

-- a part of the text stands there
abbrev pub StandsInPart : World → World → Destination → List ℕ → Type 0
StandsInPart before now standard text = IsPutInPart before now text
StandsInPart before now (named name) text = IsWrittenInPart before now name text

abbrev pub IsNamed : Destination → Type 0
IsNamed standard = ⊥
IsNamed (named name) = Unit {0}

-- a write ran out of memory
abbrev pub after_no_write : World → World
after_no_write world = record { holds = world.holds; taken = world.taken; store = after_call false world.store; out = world.out }

-- the writing of a text ends so: its write failed, or ran out of memory, which comes under a name alone
abbrev pub StopsAt : Target → World → World → Ending → Type 0
StopsAt target before now (Refused refusal) = ⊥
StopsAt target before now (ReadFault role) = ⊥
StopsAt target before now (WriteFault output) = (output ≡ target.output) × StandsInPart before now target.destination target.text
StopsAt target before now NoMemory = IsNamed target.destination × (now ≡ after_no_write before)

-- the writing of texts ends so at one of them: those before it are whole, and no later one was begun
pub record StopsAmong (targets : List Target) (before now : World) (ending : Ending) : Type 0 where
  pub whole : List Target
  pub target : Target
  pub left : List Target
  pub targets_are : targets ≡ whole ++ target ∷ left
  pub stops : StopsAt target (after_targets before whole) now ending
