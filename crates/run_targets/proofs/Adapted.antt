-- The texts of the system on a mesh that is refined once more, step after step.
use Rattle.std.proofs.Common.{◌≡◌, subst, ℕ, ℤ, List}
use Rattle.std.specs.Prelude.{Ok, Err, IfOk, IfErr}
use Rattle.std.specs.declared.result.Result.{Result}
use Rattle.fem_fixed.specs.Mesh.{Mesh}
use Rattle.hanging_refine.specs.Refined.{RefinedMesh}
use Rattle.problem_read.specs.Entries.{ProblemParts}
use Rattle.run_words.specs.declared.options.VectorTask.TheVariants as tasks
use Rattle.run_words.specs.Choice.{Choice}
use Rattle.run_outputs.specs.Targets.{Target}
use Rattle.diagnostics.specs.declared.refusal.Refusal.{Refusal}
use Rattle.diagnostics.specs.declared.ending.Ending.{Ending}
use Rattle.diagnostics.specs.Stages.{Then, EndsIn}
use Rattle.diagnostics.proofs.StageLaws.{ends_first}
use Rattle.system_setup.specs.SetUp.{ForestOf, RefinedFurther}
use Rattle.vector_texts.specs.Marks.{Marks, MarkedOn}
use Rattle.run_targets.specs.Defines.{FinerMesh, AssembledOn, VectorMade}
use Rattle.run_targets.proofs.Steps.{next_goes, next_ends}

module _ (choice : Choice) (read : Mesh × ProblemParts) (count : ℕ) (values : List ℤ) where
  abbrev Finer : RefinedMesh → Result (List Target) Refusal → Type 0
  Finer forest = Then (FinerMesh count values forest) (AssembledOn choice read.0.ids read.1)

  pub forest_ends_adapted : (e : Ending) → EndsIn (ForestOf read.0 read.1) e → EndsIn (VectorMade (tasks.Adapt count) choice read values) e
  forest_ends_adapted e h = ends_first (ForestOf read.0 read.1) Finer e h

  module _ (forest : RefinedMesh) (made : ForestOf read.0 read.1 (Ok forest)) (ids : List ℕ) (are : ids ≡ read.0.ids) where
    abbrev FinerWith : List ℕ → Result (List Target) Refusal → Type 0
    FinerWith list = Then (FinerMesh count values forest) (AssembledOn choice list read.1)

    pub adapted_goes : {Z : Type 0} (f : Z → List Target) (result : Result Z Ending) → IfOk result (λ z. FinerWith ids (Ok (f z))) →
        IfOk result (λ z. VectorMade (tasks.Adapt count) choice read values (Ok (f z)))
    adapted_goes f result h =
        next_goes (ForestOf read.0 read.1) Finer f forest result made (subst (λ list. IfOk result (λ z. FinerWith list (Ok (f z)))) are h)

    pub adapted_ends : {Z : Type 0} (result : Result Z Ending) → IfErr result (EndsIn (FinerWith ids)) → IfErr result (EndsIn (VectorMade (tasks.Adapt count) choice read values))
    adapted_ends result h = next_ends (ForestOf read.0 read.1) Finer forest result made (subst (λ list. IfErr result (EndsIn (FinerWith list))) are h)

-- one more step of refinement, of the marked cells
pub finer_goes : (count : ℕ) (values : List ℤ) (forest : RefinedMesh) (marks : Marks) (cells : List ℕ) (result : Result RefinedMesh Ending) → MarkedOn count values forest (Ok marks) → cells ≡ marks.1 →
    IfOk result (λ finer. RefinedFurther forest cells (Ok finer)) → IfOk result (λ finer. FinerMesh count values forest (Ok finer))
finer_goes count values forest marks cells result marked are h =
    next_goes (MarkedOn count values forest) (λ (marks : Marks). RefinedFurther forest marks.1) (λ finer. finer) marks result marked
    (subst (λ list. IfOk result (λ finer. RefinedFurther forest list (Ok finer))) are h)

pub finer_stops : (count : ℕ) (values : List ℤ) (forest : RefinedMesh) (marks : Marks) (cells : List ℕ) (result : Result RefinedMesh Ending) → MarkedOn count values forest (Ok marks) → cells ≡ marks.1 →
    IfErr result (EndsIn (RefinedFurther forest cells)) → IfErr result (EndsIn (FinerMesh count values forest))
finer_stops count values forest marks cells result marked are h =
    next_ends (MarkedOn count values forest) (λ (marks : Marks). RefinedFurther forest marks.1) marks result marked
    (subst (λ list. IfErr result (EndsIn (RefinedFurther forest list))) are h)
