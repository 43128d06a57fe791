-- The visits of a cell in the run of a subdomain: of all that there are, those that the flags choose.
use Rattle.std.specs.Prelude.{ℕ, Bool, true, false, ◌==◌, nat_lt, List, [], ◌∷◌, filter, slice_index_or, Option, Some, None, if◌then◌else◌}
use Rattle.std.specs.List.{list_any}
use Rattle.fixed_q1.specs.declared.places.Part.{Part}
use Rattle.fixed_q1.specs.declared.places.Part.TheVariants.{Whole, Half0, Half1}
use Rattle.hanging_refine.specs.Refined.{RefinedMesh}
use Rattle.mesh_visits.specs.declared.flags.Flags.{Flags}
use Rattle.mesh_visits.specs.declared.flags.Interior.{Interior}
use Rattle.mesh_visits.specs.declared.flags.Interior.TheVariants.{None as Never, Once, Both}
use Rattle.mesh_visits.specs.declared.visit.Visit.{Visit}
use Rattle.mesh_visits.specs.declared.visit.Visit.TheVariants.{Cell as OnCell, Boundary as OnBoundary, Interior as OnPart}
use Rattle.mesh_visits.specs.Visits.{all_visits}

-- the subdomain of each cell, by the cell's number
abbrev pub Subdomains : Type 0
Subdomains = ℕ → ℕ

-- as a list has them; 0 for a cell that it doesn't have
abbrev pub subdomain_in : List ℕ → Subdomains
subdomain_in list cell = slice_index_or list cell 0

-- a cell is own where no subdomain is named, or where its subdomain is the named one
abbrev pub is_own_cell : Subdomains → Option ℕ → ℕ → Bool
is_own_cell subdomain None cell = true
is_own_cell subdomain (Some named) cell = subdomain cell == named

-- under `Once` an equal face is visited from the cell of lower number, and a half from the finer cell
abbrev pub goes_once : ℕ → ℕ → Part → Part → Bool
goes_once cell other Whole Whole = nat_lt cell other
goes_once cell other Whole Half0 = true
goes_once cell other Whole Half1 = true
goes_once cell other Half0 there = false
goes_once cell other Half1 there = false

-- whether a part between two own cells is visited from the first
abbrev pub goes_inside : Interior → ℕ → ℕ → Part → Part → Bool
goes_inside Never cell other here there = false
goes_inside Once cell other here there = goes_once cell other here there
goes_inside Both cell other here there = true

abbrev pub is_lower : Option ℕ → ℕ → Bool
is_lower None subdomain = false
is_lower (Some named) subdomain = nat_lt named subdomain

-- whether a part between an own cell and a ghost of this subdomain is visited from the own cell
abbrev pub goes_out : Interior → Option ℕ → ℕ → Bool
goes_out Never own subdomain = false
goes_out Once own subdomain = is_lower own subdomain
goes_out Both own subdomain = true

abbrev pub goes_to_cell : Subdomains → Flags → ℕ → ℕ → Part → Part → Bool
goes_to_cell subdomain flags cell other here there =
    if is_own_cell subdomain flags.own other then goes_inside flags.interior cell other here there else goes_out flags.ghost_parts flags.own (subdomain other)

-- whether the flags choose this visit of an own cell
abbrev pub is_chosen : Subdomains → Flags → ℕ → Visit → Bool
is_chosen subdomain flags cell OnCell = flags.cells
is_chosen subdomain flags cell (OnBoundary face id) = flags.boundary
is_chosen subdomain flags cell (OnPart face other other_face here there) = goes_to_cell subdomain flags cell other here there

-- a visit of a part with an own cell on the other side
abbrev pub meets_own : Subdomains → Option ℕ → Visit → Bool
meets_own subdomain own OnCell = false
meets_own subdomain own (OnBoundary face id) = false
meets_own subdomain own (OnPart face other other_face here there) = is_own_cell subdomain own other

abbrev pub ghost_visits : Flags → List Visit
ghost_visits flags = if flags.ghost_cells then OnCell ∷ [] else []

-- of a cell that isn't own, by all its visits: it is a ghost where it meets an own cell
abbrev pub outer_visits : Subdomains → Flags → List Visit → List Visit
outer_visits subdomain flags visits = if list_any (meets_own subdomain flags.own) visits then ghost_visits flags else []

-- the visits of a cell in a run
unfoldable pub visits_of : Subdomains → Flags → RefinedMesh → ℕ → List Visit
visits_of subdomain flags forest cell =
    if is_own_cell subdomain flags.own cell then filter (is_chosen subdomain flags cell) (all_visits flags.cells_after_faces forest cell)
    else outer_visits subdomain flags (all_visits flags.cells_after_faces forest cell)
