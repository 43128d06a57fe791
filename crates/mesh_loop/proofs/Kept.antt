-- What a set-up keeps, by cell.
use Rattle.std.proofs.Common.{◌≡◌, ◌∙◌, sym, ap, ap₂, refl, subst, ℕ, ◌+◌, ◌<◌, ◌≤◌, List, length, map, arith, slice_index, slice_index_or}
use Rattle.std.specs.List.{All, flat_map, range_with_len}
use Rattle.std.specs.List.Sorted.{IsStrictlyIncreasing}
use Rattle.std.specs.declared.result.Result.{Result}
use Rattle.std.proofs.lemmas.List.FromFn.{length-range_with_len, length-map-range_with_len, get_or-range_with_len, get_or-map-range_with_len}
use Rattle.std.proofs.lemmas.List.Kept.{IsStrictlyIncreasing-filter}
use Rattle.cell_blocks.specs.Blocks.{blocks_of, cell_blocks}
use Rattle.fixed_q1.specs.declared.fault.LocalFault.{LocalFault}
use Rattle.cell_blocks.specs.LocalBlocks.{LocalBlock}
use Rattle.mesh_visits.specs.declared.visit.Visit.{Visit}
use Rattle.mesh_visits.specs.Within.{IsVisitWithin, IsFit}
use Rattle.sparsity.specs.Coupled.{has}
use Rattle.mesh_loop.specs.Setup.{MeshProblem, cells_of, cell_visits, visit_rows, written_rows, HoldsVisit}
use Rattle.mesh_loop.specs.Parts.{IsVisitBelow, IsCellFit}
use Rattle.mesh_loop.proofs.Holding.{all_hold}

-- a list a cell
pub listed : {A : Type 0} (f : ℕ → A) (n cell : ℕ) (lists : List A) → lists ≡ map f (range_with_len 0 n) → cell < n → cell < length lists
listed f n cell lists are within = omega (arith, within, ap length are, length-map-range_with_len f 0 n)

pub list_is : {A : Type 0} (f : ℕ → A) (n cell : ℕ) (lists : List A) (d : A) → lists ≡ map f (range_with_len 0 n) → cell < n → slice_index_or lists cell d ≡ f cell
list_is f n cell lists d are within = ap (λ ls. slice_index_or ls cell d) are ∙ get_or-map-range_with_len f 0 n cell cell d within (omega arith)

-- the same where a value shows what is kept
pub kept_listed : {A : Type 0} (f : MeshProblem → ℕ → A) (s now : MeshProblem) (cell : ℕ) (lists : List A) → s ≡ now → lists ≡ map (f s) (cells_of s) → cell < length now.given.forest.cells → cell < length lists
kept_listed f s now cell lists view are within =
    listed (f s) (length s.given.forest.cells) cell lists are (let P : MeshProblem → Type 0 = λ t. cell < length t.given.forest.cells in subst P (sym view) within)

pub kept_is : {A : Type 0} (f : MeshProblem → ℕ → A) (s now : MeshProblem) (cell : ℕ) (lists : List A) (d : A) → s ≡ now → lists ≡ map (f s) (cells_of s) → cell < length now.given.forest.cells →
    slice_index_or lists cell d ≡ f now cell
kept_is f s now cell lists d view are within =
    let inside : cell < length s.given.forest.cells = (let P : MeshProblem → Type 0 = λ t. cell < length t.given.forest.cells in subst P (sym view) within) in
    list_is (f s) (length s.given.forest.cells) cell lists d are inside ∙ ap (λ t. f t cell) view

-- each cell fits
abbrev AreFit : MeshProblem → Type 0
AreFit s = (cell : ℕ) → cell < length s.given.forest.cells → IsCellFit s cell

cell_fit : (s now : MeshProblem) (cell : ℕ) → s ≡ now → AreFit s → cell < length now.given.forest.cells → IsCellFit now cell
cell_fit s now cell view fit within = (subst AreFit view fit) cell within

pub visits_held : (s now : MeshProblem) (cell : ℕ) (visits : List Visit) → s ≡ now → ((c : ℕ) → c < length s.given.forest.cells → IsCellFit s c) → cell < length now.given.forest.cells → visits ≡ cell_visits now cell →
    All (HoldsVisit now cell) visits
visits_held s now cell visits view fit within are = subst (All (HoldsVisit now cell)) (sym are) (all_hold now cell within (cell_fit s now cell view fit within).below)

pub visits_within : (s now : MeshProblem) (cell : ℕ) (visits : List Visit) → s ≡ now → ((c : ℕ) → c < length s.given.forest.cells → IsCellFit s c) → cell < length now.given.forest.cells → visits ≡ cell_visits now cell →
    IsFit s.given.forest 9 4 8 visits
visits_within s now cell visits view fit within are =
    let P : MeshProblem → Type 0 = λ t. IsFit t.given.forest 9 4 8 visits in
    subst P (sym view) (subst (IsFit now.given.forest 9 4 8) (sym are) (cell_fit s now cell view fit within).fit)

pub blocks_seen : (s now : MeshProblem) (cell : ℕ) (visits : List Visit) (copy : Result (List LocalBlock) LocalFault) → s ≡ now → visits ≡ cell_visits now cell → copy ≡ blocks_of s.given cell visits →
    copy ≡ cell_blocks now.flags now.given cell
blocks_seen s now cell visits copy view are made = made ∙ ap₂ (λ (t : MeshProblem) (vs : List Visit). blocks_of t.given cell vs) view are

range_rises : (n : ℕ) → IsStrictlyIncreasing (range_with_len 0 n)
range_rises n k h =
    let len = length-range_with_len 0 n in
    let low : k < n = omega (arith, h, len) in
    let high : k + 1 < n = omega (arith, h, len) in
    let a = get_or-range_with_len 0 n k 0 low in
    let b = get_or-range_with_len 0 n (k + 1) 0 high in
    omega (arith, a, b)

pub written_rise : (s : MeshProblem) (cell : ℕ) (rows : List ℕ) → rows ≡ written_rows s cell → IsStrictlyIncreasing rows
unfolding written_rows
written_rise s cell rows are =
    subst IsStrictlyIncreasing (sym are) (IsStrictlyIncreasing-filter (has (flat_map (visit_rows s cell) (cell_visits s cell))) (range_with_len 0 s.given.dofs.size) (range_rises s.given.dofs.size))

pub each_within : (s : MeshProblem) (cell : ℕ) (visits : List Visit) → visits ≡ cell_visits s cell → IsFit s.given.forest 9 4 8 (cell_visits s cell) → All (IsVisitWithin s.given.forest) visits
each_within s cell visits are fit = subst (All (IsVisitWithin s.given.forest)) (sym are) fit.within
