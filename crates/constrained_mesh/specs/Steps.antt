-- Steps of refinement, one after another.
use Rattle.std.specs.Prelude.{◌≡◌, ◌≢◌, ◌<◌, ℕ, List, [], ◌∷◌, length, take, slice_index_or, Ok, Err}
use Rattle.std.specs.declared.result.Result.{Result}
use Rattle.hanging_refine.specs.declared.fault.RefineFault.{RefineFault}
use Rattle.hanging_refine.specs.declared.fault.RefineFault.TheVariants.{NoMemory as Memory}
use Rattle.hanging_refine.specs.Refined.{RefinedMesh}
use Rattle.hanging_refine.specs.Refinement.{IsRefinedBy, IsRefusal}

-- a refined mesh, or the fault of a step
abbrev pub Outcome : Type 0
Outcome = Result RefinedMesh RefineFault

-- the step is refused, or the rest goes on from the mesh that it gives
pub data StepThen (old : RefinedMesh) (asked : List ℕ) (rest : RefinedMesh → Outcome → Type 0) (outcome : Outcome) : Type 0 where
  refused : (fault : RefineFault) → IsRefusal old asked fault → outcome ≡ Err fault → StepThen old asked rest outcome
  refined : (new : RefinedMesh) (count : ℕ) → IsRefinedBy old asked new count → rest new outcome → StepThen old asked rest outcome

-- the steps in order, up to the first that is refused
abbrev pub RefinesBy : List (List ℕ) → RefinedMesh → Outcome → Type 0
RefinesBy [] old outcome = outcome ≡ Ok old
RefinesBy (asked ∷ steps) old outcome = StepThen old asked (RefinesBy steps) outcome

-- the steps before this one led to the mesh `now`, and this one is refused there, with this fault; memory may run out in
-- any step
pub record StopsAt (steps : List (List ℕ)) (old now : RefinedMesh) (fault : RefineFault) (step : ℕ) : Type 0 where
  pub within : step < length steps
  pub before : RefinesBy (take step steps) old (Ok now)
  pub refused : fault ≢ Memory → IsRefusal now (slice_index_or steps step []) fault
