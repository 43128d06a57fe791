-- Steps of refinement, one more or the one that is refused.
use Rattle.std.proofs.Common.{◌≡◌, ◌∙◌, sym, ap, refl, subst, ℕ, ◌+◌, ◌<◌, List, [], ◌∷◌, ◌++◌, length, take, drop, slice_index_or, add-one, Ok, Err}
use Rattle.std.proofs.Math.Seq.{drop-cons}
use Rattle.std.proofs.lemmas.List.{take_more, take-append-drop}
use Rattle.hanging_refine.specs.declared.fault.RefineFault.{RefineFault}
use Rattle.hanging_refine.specs.Refined.{RefinedMesh}
use Rattle.hanging_refine.specs.Refinement.{IsRefinedBy, IsRefusal}
use Rattle.constrained_mesh.specs.Steps.{Outcome, refused, refined, RefinesBy}

same_mesh : (a b : RefinedMesh) → (let r : Outcome = Ok a in r) ≡ Ok b → a ≡ b
same_mesh a b e = cc

no_fault : (a : RefinedMesh) (fault : RefineFault) → (let r : Outcome = Ok a in r) ≡ Err fault → ⊥
no_fault a fault e = cc

-- the steps of the first list, and then those of the second
pub steps_join : (steps more : List (List ℕ)) (old now : RefinedMesh) (outcome : Outcome) → RefinesBy steps old (Ok now) → RefinesBy more now outcome → RefinesBy (steps ++ more) old outcome
steps_join [] more old now outcome first rest = (let P : RefinedMesh → Type 0 = λ m. RefinesBy more m outcome in subst P (same_mesh now old first) rest)
steps_join (asked ∷ steps) more old now outcome (refused fault is e) rest = absurd (no_fault now fault e)
steps_join (asked ∷ steps) more old now outcome (refined new count is after) rest = refined new count is (steps_join steps more new now outcome after rest)

pub step_more : (steps : List (List ℕ)) (k count : ℕ) (old now new : RefinedMesh) → k < length steps → RefinesBy (take k steps) old (Ok now) → IsRefinedBy now (slice_index_or steps k []) new count →
    RefinesBy (take (k + 1) steps) old (Ok new)
step_more steps k count old now new h first is =
    let P : List (List ℕ) → Type 0 = λ xs. RefinesBy xs old (Ok new) in
    subst P (sym (take_more steps k [] h)) (steps_join (take k steps) (slice_index_or steps k [] ∷ []) old now (Ok new) first (refined new count is refl))

pub step_refused : (steps : List (List ℕ)) (k : ℕ) (old now : RefinedMesh) (fault : RefineFault) → k < length steps → RefinesBy (take k steps) old (Ok now) → IsRefusal now (slice_index_or steps k []) fault →
    RefinesBy steps old (Err fault)
step_refused steps k old now fault h first is =
    let P : List (List ℕ) → Type 0 = λ xs. RefinesBy xs old (Err fault) in
    let parts : take k steps ++ slice_index_or steps k [] ∷ drop (k + 1) steps ≡ steps =
    ap (λ xs. take k steps ++ xs) (rw add-one (sym (drop-cons steps k [] h))) ∙ take-append-drop k steps in
    subst P parts (steps_join (take k steps) (slice_index_or steps k [] ∷ drop (k + 1) steps) old now (Err fault) first (refused fault is refl))
