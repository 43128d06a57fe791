-- The steps of a set-up, one after another.
use Rattle.std.proofs.Common.{◌≡◌, sym, refl, ℕ, List, Ok, Err, IfOk, IfErr, subst}
use Rattle.std.specs.declared.result.Result.{Result}
use Rattle.std.specs.declared.option.Option.{Option}
use Rattle.fem_fixed.specs.Mesh.{Mesh}
use Rattle.hanging_refine.specs.declared.fault.RefineFault.{RefineFault}
use Rattle.hanging_refine.specs.declared.fault.RefineFault.TheVariants as refining
use Rattle.hanging_refine.specs.Refined.{RefinedMesh}
use Rattle.hanging_refine.specs.Refinement.{IsRefusal}
use Rattle.affine_constraints.specs.Lines.{AffineLine}
use Rattle.problem_read.specs.Entries.{ProblemParts}
use Rattle.mesh_loop.specs.Setup.{MeshProblem}
use Rattle.diagnostics.specs.declared.refusal.Refusal.{Refusal}
use Rattle.diagnostics.specs.declared.ending.Ending.{Ending}
use Rattle.diagnostics.specs.declared.ending.Ending.TheVariants.{Refused, ReadFault, WriteFault, NoMemory}
use Rattle.diagnostics.specs.Stages.{Then, stops, goes, EndsIn}
use Rattle.diagnostics.proofs.StageLaws.{ends_next}
use Rattle.system_setup.specs.declared.scheme.Scheme.{Scheme}
use Rattle.system_setup.specs.Endings.{of_refining}
use Rattle.system_setup.specs.Scheme.{number_of}
use Rattle.system_setup.specs.SetUp.{ForestOf, RefinedFurther, LinesFor, PatternedFor, SetUpOn, IsSetUp}

same_refusal : {Y : Type 0} (r q : Refusal) → ◌≡◌ {A = Result Y Refusal} (Err r) (Err q) → r ≡ q
same_refusal r q same = cc

no_value : {Y : Type 0} {P : Type 0} (y : Y) (r : Refusal) → ◌≡◌ {A = Result Y Refusal} (Ok y) (Err r) → P
no_value y r same = cc

-- two steps and a third are a step and two
regrouped : {X Y Z : Type 0} (first : Result X Refusal → Type 0) (second : X → Result Y Refusal → Type 0) (third : Y → Result Z Refusal → Type 0) (outcome : Result Z Refusal) →
    Then (Then first second) third outcome → Then first (λ x. Then (second x) third) outcome
regrouped {Y = Y} first second third outcome (stops refusal (stops other f same) is) = stops refusal (subst (λ r. first (Err r)) (sym (same_refusal {Y = Y} refusal other same)) f) is
regrouped first second third outcome (stops refusal (goes x f s) is) = goes x f (stops refusal s is)
regrouped {Y = Y} first second third outcome (goes y (stops other f same) t) = no_value {Y = Y} y other same
regrouped first second third outcome (goes y (goes x f s) t) = goes x f (goes y s t)

pub set_up_of : (scheme : Scheme) (parts : Mesh) (problem : ProblemParts) (outcome : Result MeshProblem Refusal) → Then (ForestOf parts problem) (SetUpOn scheme parts.ids problem) outcome →
    IsSetUp scheme parts problem outcome
set_up_of scheme parts problem outcome h = regrouped _ _ _ outcome h

ends_of : (scheme : Scheme) (parts : Mesh) (problem : ProblemParts) (e : Ending) → EndsIn (Then (ForestOf parts problem) (SetUpOn scheme parts.ids problem)) e →
    EndsIn (IsSetUp scheme parts problem) e
ends_of scheme parts problem (Refused refusal) h = set_up_of scheme parts problem (Err refusal) h
ends_of scheme parts problem (ReadFault role) h = h
ends_of scheme parts problem (WriteFault output) h = h
ends_of scheme parts problem NoMemory h = h

forest_ends_both : (scheme : Scheme) (parts : Mesh) (problem : ProblemParts) (e : Ending) → EndsIn (ForestOf parts problem) e →
    EndsIn (Then (ForestOf parts problem) (SetUpOn scheme parts.ids problem)) e
forest_ends_both scheme parts problem (Refused refusal) h = stops refusal h refl
forest_ends_both scheme parts problem (ReadFault role) h = h
forest_ends_both scheme parts problem (WriteFault output) h = h
forest_ends_both scheme parts problem NoMemory h = h

-- the refined mesh ends it
pub forest_ends : (scheme : Scheme) (parts : Mesh) (problem : ProblemParts) (e : Ending) → EndsIn (ForestOf parts problem) e → EndsIn (IsSetUp scheme parts problem) e
forest_ends scheme parts problem e h = ends_of scheme parts problem e (forest_ends_both scheme parts problem e h)

-- what is set up on the refined mesh, or ends it
pub result_goes : (scheme : Scheme) (parts : Mesh) (problem : ProblemParts) (forest : RefinedMesh) (ids seen : List ℕ) (result : Result MeshProblem Ending) →
    ForestOf parts problem (Ok forest) → ids ≡ parts.ids → seen ≡ ids → IfOk result (λ s. SetUpOn scheme seen problem forest (Ok s)) → IfOk result (λ s. IsSetUp scheme parts problem (Ok s))
result_goes scheme parts problem forest ids seen (Ok s) f is same h =
    set_up_of scheme parts problem (Ok s) (goes forest f (subst (λ xs. SetUpOn scheme xs problem forest (Ok s)) is (subst (λ xs. SetUpOn scheme xs problem forest (Ok s)) same h)))
result_goes scheme parts problem forest ids seen (Err e) f is same h = tt

pub result_ends : (scheme : Scheme) (parts : Mesh) (problem : ProblemParts) (forest : RefinedMesh) (ids seen : List ℕ) (result : Result MeshProblem Ending) →
    ForestOf parts problem (Ok forest) → ids ≡ parts.ids → seen ≡ ids → IfErr result (EndsIn (SetUpOn scheme seen problem forest)) → IfErr result (EndsIn (IsSetUp scheme parts problem))
result_ends scheme parts problem forest ids seen (Ok s) f is same h = tt
result_ends scheme parts problem forest ids seen (Err e) f is same h =
    ends_of scheme parts problem e
    (ends_next (ForestOf parts problem) (SetUpOn scheme parts.ids problem) forest e f
    (subst (λ xs. EndsIn (SetUpOn scheme xs problem forest) e) is (subst (λ xs. EndsIn (SetUpOn scheme xs problem forest) e) same h)))

-- the pattern on the refined mesh, behind the lines
pub pattern_goes : (scheme : Scheme) (ids : List ℕ) (problem : ProblemParts) (forest : RefinedMesh) (table : List (Option AffineLine)) (result : Result MeshProblem Ending) →
    LinesFor (number_of scheme.degree) ids problem forest (Ok table) → IfOk result (λ s. PatternedFor scheme problem forest table (Ok s)) → IfOk result (λ s. SetUpOn scheme ids problem forest (Ok s))
pattern_goes scheme ids problem forest table (Ok s) l h = goes table l h
pattern_goes scheme ids problem forest table (Err e) l h = tt

pub pattern_ends : (scheme : Scheme) (ids : List ℕ) (problem : ProblemParts) (forest : RefinedMesh) (table : List (Option AffineLine)) (result : Result MeshProblem Ending) →
    LinesFor (number_of scheme.degree) ids problem forest (Ok table) → IfErr result (EndsIn (PatternedFor scheme problem forest table)) → IfErr result (EndsIn (SetUpOn scheme ids problem forest))
pattern_ends scheme ids problem forest table (Ok s) l h = tt
pattern_ends scheme ids problem forest table (Err e) l h = ends_next (LinesFor (number_of scheme.degree) ids problem forest) (PatternedFor scheme problem forest) table e l h

-- a refused step
pub further_ends : (forest : RefinedMesh) (cells : List ℕ) (fault : RefineFault) (e : Ending) → e ≡ of_refining fault → ((fault ≡ refining.NoMemory → ⊥) → IsRefusal forest cells fault) →
    EndsIn (RefinedFurther forest cells) e
further_ends forest cells (refining.NoSuchCell cell) e is h = subst (EndsIn (RefinedFurther forest cells)) (sym is) (refining.NoSuchCell cell, h (λ same. cc), refl)
further_ends forest cells (refining.Level cell) e is h = subst (EndsIn (RefinedFurther forest cells)) (sym is) (refining.Level cell, h (λ same. cc), refl)
further_ends forest cells refining.Limit e is h = subst (EndsIn (RefinedFurther forest cells)) (sym is) (refining.Limit, h (λ same. cc), refl)
further_ends forest cells (refining.Flat cell) e is h = subst (EndsIn (RefinedFurther forest cells)) (sym is) (refining.Flat cell, h (λ same. cc), refl)
further_ends forest cells refining.NoMemory e is h = subst (EndsIn (RefinedFurther forest cells)) (sym is) tt
