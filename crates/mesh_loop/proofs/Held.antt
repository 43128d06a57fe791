-- The blocks of a cell are held by the pattern.
use Rattle.std.proofs.Common.{◌≡◌, sym, ap, subst, ℕ, ◌<◌, List, [], ◌∷◌, length, map, slice_index_or}
use Rattle.std.specs.List.{All}
use Rattle.std.specs.declared.option.Option.{Option}
use Rattle.std.specs.declared.result.Result.{Result}
use Rattle.std.specs.declared.result.Result.TheVariants.{Ok, Err}
use Rattle.std.proofs.lemmas.List.Elements.{All-nil, All-cons, All-head, All-tail}
use Rattle.affine_constraints.specs.Lines.{AffineLine, lines_in}
use Rattle.block_sums.specs.Masters.{Holds}
use Rattle.cell_blocks.specs.Blocks.{Given, visit_dofs, visit_form, with_dofs, block_of, blocks_of, all_blocks, in_front, cell_blocks}
use Rattle.cell_blocks.specs.Visited.{blocks_in}
use Rattle.block_sums.specs.Parts.{IsHeld, HoldsAll}
use Rattle.fixed_q1.specs.declared.fault.LocalFault.{LocalFault}
use Rattle.fixed_q1.specs.LocalForm.{LocalForm}
use Rattle.cell_blocks.specs.LocalBlocks.{LocalBlock}
use Rattle.mesh_visits.specs.declared.visit.Visit.{Visit}
use Rattle.mesh_loop.specs.Setup.{MeshProblem, IsMatched, cell_visits, pattern_of, HoldsVisit}
use Rattle.mesh_loop.specs.Parts.{IsVisitBelow, IsCellFit}
use Rattle.mesh_loop.proofs.Holding.{all_hold}

-- dofs that have a place in the table of lines, with masters that the pattern couples
record AreHeld (pattern : List (List ℕ)) (table : List (Option AffineLine)) (dofs : List ℕ) : Type 0 where
  places : All (λ dof. dof < length table) dofs
  pairs : Holds pattern (lines_in table) dofs

abbrev IsHeldResult : List (List ℕ) → List (Option AffineLine) → Result LocalBlock LocalFault → Type 0
IsHeldResult pattern table (Ok block) = IsHeld pattern table block
IsHeldResult pattern table (Err fault) = Unit {0}

form_held : (pattern : List (List ℕ)) (table : List (Option AffineLine)) (dofs : List ℕ) (form : Result LocalForm LocalFault) → AreHeld pattern table dofs → IsHeldResult pattern table (with_dofs dofs form)
form_held pattern table dofs (Ok form) held = record { dofs = held.places; pairs = held.pairs }
form_held pattern table dofs (Err fault) held = tt

block_held : (pattern : List (List ℕ)) (table : List (Option AffineLine)) (given : Given) (cell : ℕ) (visit : Visit) → AreHeld pattern table (visit_dofs given cell visit) → IsHeldResult pattern table (block_of given cell visit)
unfolding block_of
block_held pattern table given cell visit held = form_held pattern table (visit_dofs given cell visit) (visit_form given cell visit) held

front_held : (pattern : List (List ℕ)) (table : List (Option AffineLine)) (block : Result LocalBlock LocalFault) (blocks : Result (List LocalBlock) LocalFault) → IsHeldResult pattern table block →
    HoldsAll pattern table (blocks_in blocks) → HoldsAll pattern table (blocks_in (in_front block blocks))
front_held pattern table (Ok block) (Ok blocks) one rest = All-cons (IsHeld pattern table) block blocks one rest
front_held pattern table (Ok block) (Err fault) one rest = All-nil (IsHeld pattern table)
front_held pattern table (Err fault) blocks one rest = All-nil (IsHeld pattern table)

blocks_held : (pattern : List (List ℕ)) (table : List (Option AffineLine)) (given : Given) (cell : ℕ) (visits : List Visit) → All (λ visit. AreHeld pattern table (visit_dofs given cell visit)) visits →
    HoldsAll pattern table (blocks_in (all_blocks (map (block_of given cell) visits)))
blocks_held pattern table given cell [] held = All-nil (IsHeld pattern table)
blocks_held pattern table given cell (visit ∷ visits) held =
    front_held pattern table (block_of given cell visit) (all_blocks (map (block_of given cell) visits))
    (block_held pattern table given cell visit (All-head (λ (v : Visit). AreHeld pattern table (visit_dofs given cell v)) visit visits held))
    (blocks_held pattern table given cell visits (All-tail (λ (v : Visit). AreHeld pattern table (visit_dofs given cell v)) visit visits held))

all_held : (pattern : List (List ℕ)) (table : List (Option AffineLine)) (given : Given) (cell : ℕ) (visits : List Visit) → All (λ visit. AreHeld pattern table (visit_dofs given cell visit)) visits →
    HoldsAll pattern table (blocks_in (blocks_of given cell visits))
unfolding blocks_of
all_held pattern table given cell visits held = blocks_held pattern table given cell visits held

one_held : (s : MeshProblem) (cell : ℕ) (visit : Visit) → IsMatched s → IsVisitBelow s cell visit → HoldsVisit s cell visit → AreHeld (pattern_of s) s.closed (visit_dofs s.given cell visit)
one_held s cell visit matched below holds = record {
  places = (let P : ℕ → Type 0 = λ n. All (λ dof. dof < n) (visit_dofs s.given cell visit) in subst P (sym matched.lines) below.dofs);
  pairs = holds;
}

pub cell_held : (s : MeshProblem) (cell : ℕ) → IsMatched s → IsCellFit s cell → cell < length s.given.forest.cells → HoldsAll (pattern_of s) s.closed (blocks_in (cell_blocks s.flags s.given cell))
cell_held s cell matched fit within =
    let hold = all_hold s cell within fit.below in
    all_held (pattern_of s) s.closed s.given cell (cell_visits s cell) (λ k v h. one_held s cell (slice_index_or (cell_visits s cell) k v) matched (fit.below k v h) (hold k v h))

pub copy_held : (s now : MeshProblem) (cell : ℕ) (copy : Result (List LocalBlock) LocalFault) → s ≡ now → IsMatched s → ((c : ℕ) → c < length s.given.forest.cells → IsCellFit s c) → cell < length now.given.forest.cells →
    copy ≡ cell_blocks now.flags now.given cell → HoldsAll (pattern_of now) now.closed (blocks_in copy)
copy_held s now cell copy view matched fit within made =
    let P : MeshProblem → Type 0 = λ t. cell < length t.given.forest.cells in
    let Q : MeshProblem → Type 0 = λ t. HoldsAll (pattern_of t) t.closed (blocks_in (cell_blocks t.flags t.given cell)) in
    let R : Result (List LocalBlock) LocalFault → Type 0 = λ r. HoldsAll (pattern_of now) now.closed (blocks_in r) in
    let inside : cell < length s.given.forest.cells = subst P (sym view) within in
    subst R (sym made) (subst Q view (cell_held s cell matched (fit cell inside) inside))

-- held by what is equal
pub held_by : (s : MeshProblem) (pattern : List (List ℕ)) (table : List (Option AffineLine)) (blocks : List LocalBlock) → pattern ≡ pattern_of s → table ≡ s.closed → HoldsAll (pattern_of s) s.closed blocks → HoldsAll pattern table blocks
held_by s pattern table blocks is closed held =
    let P : List (List ℕ) → Type 0 = λ p. HoldsAll p table blocks in
    let Q : List (Option AffineLine) → Type 0 = λ t. HoldsAll (pattern_of s) t blocks in
    subst P (sym is) (subst Q (sym closed) held)
