-- What is read and then made is what a choice defines.
use Rattle.std.proofs.Common.{◌≡◌, ◌∙◌, ap, sym, subst, refl, ℕ, suc, ◌+◌, List, ◌≤◌, arith, Bool, true, false}
use Rattle.std.specs.Prelude.{Ok, Err, IfOk, IfErr, Some, None, IsSome}
use Rattle.std.specs.declared.option.Option.{Option}
use Rattle.std.specs.declared.result.Result.{Result}
use Rattle.fem_fixed.specs.Mesh.{Mesh}
use Rattle.fem_text.specs.declared.counts.Counts.{Counts}
use Rattle.fem_text.specs.Counts.{after_call, after_good}
use Rattle.fem_text.specs.Outside.{Held}
use Rattle.problem_read.specs.Entries.{ProblemParts}
use Rattle.run_words.specs.Choice.{Choice, Source, texts, generated, vector_in}
use Rattle.run_texts.specs.Read.{SourceRead, GoesOnTo, EndsReading, SomeRead, SourceReads, names_in, name_count, after_read, is_read_fault, reads_before}
use Rattle.run_outputs.specs.Targets.{Target}
use Rattle.diagnostics.specs.declared.ending.Role.{Role}
use Rattle.diagnostics.specs.declared.ending.Role.TheVariants as roles
use Rattle.diagnostics.specs.declared.ending.Ending.{Ending}
use Rattle.diagnostics.specs.declared.ending.Ending.TheVariants.{Refused, ReadFault, WriteFault, NoMemory}
use Rattle.diagnostics.specs.Stages.{stops, goes}
use Rattle.run_targets.specs.Defines.{Made, Defines}
use Rattle.run_targets.specs.Reads.{reads_in, ComesTo, ChoiceReads}
use Rattle.run_targets.specs.Ends.{EndsDefining, EndsMaking}

source_has_none : (holds : Option Held) (source : Source) → GoesOnTo holds source roles.Vector → ⊥
source_has_none holds (texts mesh format None) h = h
source_has_none holds (texts mesh format (Some problem)) h = h
source_has_none holds (generated n seed) h = h

comes_to : (holds : Option Held) (choice : Choice) (role : Role) → GoesOnTo holds choice.source role → ComesTo holds choice role
comes_to holds choice roles.Mesh h = h
comes_to holds choice roles.Problem h = h
comes_to holds choice roles.Vector h = absurd (source_has_none holds choice.source h)

-- the reading ends it
pub reading_ends : (holds : Option Held) (choice : Choice) (e : Ending) → EndsReading holds choice.source e → EndsDefining holds choice e
reading_ends holds choice (Refused refusal) h = stops refusal h refl
reading_ends holds choice (ReadFault role) h = comes_to holds choice role h
reading_ends holds choice (WriteFault output) h = h
reading_ends holds choice NoMemory h = h

making_end : (holds : Option Held) (choice : Choice) (read : Mesh × ProblemParts) (e : Ending) → SourceRead holds choice.source (Ok read) → EndsMaking holds choice read e → EndsDefining holds choice e
making_end holds choice read (Refused refusal) r h = goes read r h
making_end holds choice read (ReadFault role) r (is, named) = subst (ComesTo holds choice) (sym is) (named, (read, r))
making_end holds choice read (WriteFault output) r h = h
making_end holds choice read NoMemory r h = h

-- the making ends it, behind the reading, over a store that holds what it held
pub making_ends : {X : Type 0} (holds now : Option Held) (choice : Choice) (read : Mesh × ProblemParts) (result : Result X Ending) → now ≡ holds → SourceRead holds choice.source (Ok read) →
    IfErr result (EndsMaking now choice read) → IfErr result (EndsDefining holds choice)
making_ends holds now choice read (Ok x) same r h = tt
making_ends holds now choice read (Err e) same r h = making_end holds choice read e r (subst (λ held. EndsMaking held choice read e) same h)

-- what is made is defined
pub made_defined : {X : Type 0} (holds now : Option Held) (choice : Choice) (read : Mesh × ProblemParts) (f : X → List Target) (result : Result X Ending) → now ≡ holds → SourceRead holds choice.source (Ok read) →
    IfOk result (λ x. Made now choice.mode choice read (Ok (f x))) → IfOk result (λ x. Defines holds choice (Ok (f x)))
made_defined holds now choice read f (Ok x) same r h = goes read r (subst (λ held. Made held choice.mode choice read (Ok (f x))) same h)
made_defined holds now choice read f (Err e) same r h = tt

-- the reads of the source are some of those of the choice
more_than : (n m : ℕ) (k : ℕ) → k ≤ n → k ≤ n + m
more_than n m k h = omega (arith, h)

some_of_all : (choice : Choice) (before now : Counts) → SomeRead (names_in choice.source) before now → SomeRead (reads_in choice) before now
some_of_all choice before now (k, few, is) = (k, more_than (names_in choice.source) (name_count (vector_in choice.mode)) k few, is)

pub reading_reads : (X Y : Type 0) (choice : Choice) (e : Ending) (before now : Counts) → SourceReads {X = X} choice.source (Err e) before now → ChoiceReads {X = Y} choice (Err e) before now
reading_reads X Y choice (Refused refusal) before now h = some_of_all choice before now h
reading_reads X Y choice (ReadFault role) before now h = h
reading_reads X Y choice (WriteFault output) before now h = some_of_all choice before now h
reading_reads X Y choice NoMemory before now h = some_of_all choice before now h

all_good : (name : Option (List ℕ)) (n : ℕ) (before middle now : Counts) → middle ≡ after_good n before → now ≡ after_read name false middle → now ≡ after_good (n + name_count name) before
all_good None n before middle now first is = is ∙ first ∙ ap (λ k. after_good k before) (let e : n ≡ n + 0 = omega arith in e)
all_good (Some name) n before middle now first is = is ∙ ap (after_call false) first ∙ ap (λ k. after_good k before) (let e : suc n ≡ n + 1 = omega arith in e)

abbrev IsNamed : Option (List ℕ) → Type 0
IsNamed None = ⊥
IsNamed (Some name) = Unit {0}

is_named : (name : Option (List ℕ)) → IsSome name → IsNamed name
is_named None some = cc
is_named (Some name) some = tt

failed_read : (name : Option (List ℕ)) (n : ℕ) (before middle now : Counts) → IsNamed name → middle ≡ after_good n before → now ≡ after_read name true middle → now ≡ after_call true (after_good n before)
failed_read None n before middle now named first is = absurd named
failed_read (Some name) n before middle now named first is = is ∙ ap (after_call true) first

all_of_them : (n : ℕ) → n ≤ n
all_of_them n = omega arith

module _ (choice : Choice) (before middle now : Counts) (first : middle ≡ after_good (names_in choice.source) before) where
  all_made : now ≡ after_read (vector_in choice.mode) false middle → now ≡ after_good (reads_in choice) before
  all_made is = all_good (vector_in choice.mode) (names_in choice.source) before middle now first is

  some_made : now ≡ after_read (vector_in choice.mode) false middle → SomeRead (reads_in choice) before now
  some_made is = (reads_in choice, all_of_them (reads_in choice), all_made is)

  ended : (X : Type 0) (holds : Option Held) (read : Mesh × ProblemParts) (e : Ending) → EndsMaking holds choice read e → now ≡ after_read (vector_in choice.mode) (is_read_fault {X = X} (Err e)) middle →
      ChoiceReads {X = X} choice (Err e) before now
  ended X holds read (Refused refusal) h is = some_made is
  ended X holds read (ReadFault role) (vector, named) is =
      subst (λ r. now ≡ after_call true (after_good (reads_before choice.source r) before)) (sym vector)
      (failed_read (vector_in choice.mode) (names_in choice.source) before middle now (is_named (vector_in choice.mode) named) first is)
  ended X holds read (WriteFault output) h is = absurd h
  ended X holds read NoMemory h is = some_made is

  -- the reads behind those of the source
  pub making_reads : {X : Type 0} (holds : Option Held) (read : Mesh × ProblemParts) (result : Result X Ending) → IfErr result (EndsMaking holds choice read) →
      now ≡ after_read (vector_in choice.mode) (is_read_fault result) middle → ChoiceReads choice result before now
  making_reads {X} holds read (Ok value) h is = all_made is
  making_reads {X} holds read (Err e) h is = ended X holds read e h is
