-- The texts of a system, step after step.
use Rattle.std.proofs.Common.{List}
use Rattle.std.specs.Prelude.{Ok, Err, IfOk, IfErr}
use Rattle.std.specs.declared.option.Option.{Option}
use Rattle.std.specs.declared.result.Result.{Result}
use Rattle.fem_fixed.specs.Mesh.{Mesh}
use Rattle.problem_read.specs.Entries.{ProblemParts}
use Rattle.sparsity.specs.declared.rows.Row.{Row}
use Rattle.mesh_loop.specs.Setup.{MeshProblem}
use Rattle.run_words.specs.declared.options.SystemMode.{SystemMode}
use Rattle.run_words.specs.Choice.{Choice}
use Rattle.run_outputs.specs.Targets.{Target}
use Rattle.diagnostics.specs.declared.refusal.Refusal.{Refusal}
use Rattle.diagnostics.specs.declared.ending.Ending.{Ending}
use Rattle.diagnostics.specs.Stages.{EndsIn}
use Rattle.diagnostics.proofs.StageLaws.{ends_first, ends_next, goes_well}
use Rattle.system_setup.specs.SetUp.{IsSetUp}
use Rattle.system_texts.specs.Sums.{Summed}
use Rattle.system_texts.specs.Texts.{AreTargets, TextsOf, SystemTexts}
use Rattle.run_targets.specs.Defines.{scheme_of, Assembled}

abbrev SetUpOf : Choice → (Mesh × ProblemParts) → Result MeshProblem Refusal → Type 0
SetUpOf choice read = IsSetUp (scheme_of choice) read.0 read.1

module _ (mode : SystemMode) (choice : Choice) (read : Mesh × ProblemParts) where
  -- the set-up ends it
  pub set_up_ends : (e : Ending) → EndsIn (SetUpOf choice read) e → EndsIn (Assembled mode choice read) e
  set_up_ends e h = ends_first (SetUpOf choice read) (SystemTexts mode choice) e h

  -- the sums end it
  pub sums_end : (s : MeshProblem) (e : Ending) → SetUpOf choice read (Ok s) → EndsIn (Summed mode choice.digits s) e → EndsIn (Assembled mode choice read) e
  sums_end s e is h =
      ends_next (SetUpOf choice read) (SystemTexts mode choice) s e is (ends_first (Summed mode choice.digits s) (TextsOf mode choice.output s) e h)

  -- the texts are made, or end it
  pub texts_made : {X : Type 0} (s : MeshProblem) (f : X → List Target) (result : Result X Ending) → SetUpOf choice read (Ok s) → IfOk result (λ x. SystemTexts mode choice s (Ok (f x))) →
      IfOk result (λ x. Assembled mode choice read (Ok (f x)))
  texts_made s f (Ok x) is h = goes_well (SetUpOf choice read) (SystemTexts mode choice) s (f x) is h
  texts_made s f (Err e) is h = tt

  pub texts_end : {X : Type 0} (s : MeshProblem) (result : Result X Ending) → SetUpOf choice read (Ok s) → IfErr result (EndsIn (SystemTexts mode choice s)) →
      IfErr result (EndsIn (Assembled mode choice read))
  texts_end s (Ok x) is h = tt
  texts_end s (Err e) is h = ends_next (SetUpOf choice read) (SystemTexts mode choice) s e is h

-- the texts of sums
pub sums_texts : (mode : SystemMode) (choice : Choice) (s : MeshProblem) (rows : Option (List Row)) (targets : List Target) → Summed mode choice.digits s (Ok rows) →
    AreTargets mode choice.output s rows targets → SystemTexts mode choice s (Ok targets)
sums_texts mode choice s rows targets sum are = goes_well (Summed mode choice.digits s) (TextsOf mode choice.output s) rows targets sum are
