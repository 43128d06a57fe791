-- What is made in a mode.
use Rattle.std.proofs.Common.{◌≡◌, sym, subst, refl, ℕ, List, Bool}
use Rattle.std.specs.Prelude.{Ok, Err, IfOk, IfErr, Some, None, IsSome}
use Rattle.std.specs.declared.option.Option.{Option}
use Rattle.std.specs.declared.result.Result.{Result}
use Rattle.fem_fixed.specs.Mesh.{Mesh}
use Rattle.fem_text.specs.declared.counts.Counts.{Counts}
use Rattle.fem_text.specs.Counts.{after_call}
use Rattle.fem_text.specs.Outside.{Held}
use Rattle.problem_read.specs.Entries.{ProblemParts}
use Rattle.run_words.specs.declared.options.VectorTask.{VectorTask}
use Rattle.run_words.specs.Choice.{Mode, of_system, of_mesh, of_vector, vector_in, Choice}
use Rattle.run_texts.specs.Read.{after_read}
use Rattle.run_texts.specs.Read as reading
use Rattle.run_outputs.specs.Targets.{Target}
use Rattle.diagnostics.specs.declared.ending.Role.TheVariants as roles
use Rattle.diagnostics.specs.declared.ending.Ending.{Ending}
use Rattle.diagnostics.specs.declared.ending.Ending.TheVariants.{Refused, ReadFault, WriteFault, NoMemory}
use Rattle.diagnostics.specs.Stages.{EndsIn}
use Rattle.run_targets.specs.Defines.{Made, VectorTexts}
use Rattle.run_targets.specs.Ends.{EndsMaking}

module _ (holds : Option Held) (choice : Choice) (read : Mesh × ProblemParts) where
  pub made_in : {X : Type 0} (mode : Mode) (f : X → List Target) (result : Result X Ending) → choice.mode ≡ mode → IfOk result (λ x. Made holds mode choice read (Ok (f x))) →
      IfOk result (λ x. Made holds choice.mode choice read (Ok (f x)))
  made_in mode f result is h = subst (λ m. IfOk result (λ x. Made holds m choice read (Ok (f x)))) (sym is) h

  ends_so : (mode : Mode) (e : Ending) → choice.mode ≡ mode → EndsIn (Made holds mode choice read) e → EndsMaking holds choice read e
  ends_so mode (Refused refusal) is h = subst (λ m. Made holds m choice read (Err refusal)) (sym is) h
  ends_so mode (ReadFault role) is h = absurd h
  ends_so mode (WriteFault output) is h = h
  ends_so mode NoMemory is h = h

  -- without a read
  pub ends_in : {X : Type 0} (mode : Mode) (result : Result X Ending) → choice.mode ≡ mode → IfErr result (EndsIn (Made holds mode choice read)) → IfErr result (EndsMaking holds choice read)
  ends_in mode (Ok x) is h = tt
  ends_in mode (Err e) is h = ends_so mode e is h

  ends_vector : (name : List ℕ) (task : VectorTask) (e : Ending) → choice.mode ≡ of_vector name task → reading.EndsIn roles.Vector (VectorTexts holds name task choice read) e → EndsMaking holds choice read e
  ends_vector name task (Refused refusal) is h = subst (λ m. Made holds m choice read (Err refusal)) (sym is) h
  ends_vector name task (ReadFault role) is h = (h, subst (λ m. IsSome (vector_in m)) (sym is) refl)
  ends_vector name task (WriteFault output) is h = h
  ends_vector name task NoMemory is h = h

  -- with the read of a vector
  pub ends_in_vector : {X : Type 0} (name : List ℕ) (task : VectorTask) (result : Result X Ending) → choice.mode ≡ of_vector name task →
      IfErr result (reading.EndsIn roles.Vector (VectorTexts holds name task choice read)) → IfErr result (EndsMaking holds choice read)
  ends_in_vector name task (Ok x) is h = tt
  ends_in_vector name task (Err e) is h = ends_vector name task e is h

-- no vector is read
pub none_read : (mode other : Mode) (failed : Bool) (counts : Counts) → other ≡ mode → vector_in mode ≡ None → counts ≡ after_read (vector_in other) failed counts
none_read mode other failed counts is none = subst (λ m. counts ≡ after_read (vector_in m) failed counts) (sym is) (subst (λ name. counts ≡ after_read name failed counts) (sym none) refl)

-- a vector is read
pub vector_read : (name : List ℕ) (task : VectorTask) (other : Mode) (failed : Bool) (before now : Counts) → other ≡ of_vector name task → now ≡ after_call failed before → now ≡ after_read (vector_in other) failed before
vector_read name task other failed before now is h = subst (λ m. now ≡ after_read (vector_in m) failed before) (sym is) h
