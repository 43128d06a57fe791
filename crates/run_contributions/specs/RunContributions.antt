-- The contributions of runs.
use Rattle.std.specs.Prelude.{◌≡◌, ℕ, Bool, false, List, [], length, filter, Ok, Err}
use Rattle.std.specs.declared.result.Result.{Result}
use Rattle.std.specs.List.{flat_map, range_with_len}
use Rattle.affine_constraints.specs.Lines.{Lines}
use Rattle.fixed_q1.specs.declared.fault.LocalFault.{LocalFault}
use Rattle.dof_numbers.specs.Dofs.{IsNumberingOf}
use Rattle.hanging_refine.specs.Grown.{IsGrown}
use Rattle.cell_blocks.specs.LocalBlocks.{LocalBlock}
use Rattle.cell_blocks.specs.Blocks.{Given, block_of, subdomains_of, visits_in}
use Rattle.serial_sum.specs.declared.part.Contribution.{Contribution}
use Rattle.block_sums.specs.Contributions.{contributions}
use Rattle.mesh_visits.specs.declared.flags.Flags.{Flags}
use Rattle.mesh_visits.specs.declared.flags.Interior.TheVariants.{Once}
use Rattle.mesh_visits.specs.declared.visit.Visit.{Visit}
use Rattle.mesh_visits.specs.Runs.{subdomain_in}
use Rattle.mesh_visits.specs.OverRuns.{for_subdomain, for_all, HasEach, Weights, IsTwoSided}

abbrev pub of_block : Lines → Result LocalBlock LocalFault → List Contribution
of_block lines (Ok block) = contributions lines block
of_block lines (Err fault) = []

-- the contributions of a visit of a cell, none where its local form has a fault
abbrev pub visit_contributions : Lines → Given → ℕ → Visit → List Contribution
visit_contributions lines given cell visit = of_block lines (block_of given cell visit)

-- those of all visits of all cells, in cell order
abbrev pub contributions_of : Lines → Given → (ℕ → List Visit) → List Contribution
contributions_of lines given visits = flat_map (λ cell. flat_map (visit_contributions lines given cell) (visits cell)) (range_with_len 0 (length given.forest.cells))

-- those of the run of these flags
abbrev pub run_contributions : Lines → Given → Flags → List Contribution
run_contributions lines given flags = contributions_of lines given (visits_in flags given)

-- those of the runs of these subdomains, run after run
abbrev pub over_runs : Lines → Given → Flags → List ℕ → List Contribution
over_runs lines given flags runs = flat_map (λ named. run_contributions lines given (for_subdomain flags named)) runs

-- the list has the subdomain of each cell once
abbrev pub HasEachOf : Given → List ℕ → Type 0
HasEachOf given runs = HasEach (subdomain_in (subdomains_of given)) (length given.forest.cells) runs

-- how many contributions of a visit pass a test
abbrev pub passing : Lines → Given → (Contribution → Bool) → Weights
passing lines given test cell visit = length (filter test (visit_contributions lines given cell visit))

-- from each side a part makes the same contributions, in some order
abbrev pub BlocksAreTwoSided : Lines → Given → Type 0
BlocksAreTwoSided lines given = (test : Contribution → Bool) → IsTwoSided (passing lines given test) given.forest

-- two lists have the same, in some order: of each kind as many
abbrev pub SameInSomeOrder : List Contribution → List Contribution → Type 0
SameInSomeOrder xs ys = (test : Contribution → Bool) → length (filter test xs) ≡ length (filter test ys)

-- the dofs are those of the mesh, of degree 1 or 2
abbrev pub AreOfMesh : Given → Type 0
AreOfMesh given = IsNumberingOf given.forest given.dofs

abbrev pub AllBlocksAreTwoSided : Type 0
AllBlocksAreTwoSided = (lines : Lines) (given : Given) → AreOfMesh given → BlocksAreTwoSided lines given

-- under `Once` for all parts and without ghosts
abbrev pub ContributionsAddUp : Type 0
ContributionsAddUp =
    (lines : Lines) (given : Given) (flags : Flags) (runs : List ℕ) → IsGrown given.forest → AreOfMesh given → HasEachOf given runs →
    flags.interior ≡ Once → flags.ghost_parts ≡ Once → flags.ghost_cells ≡ false →
    SameInSomeOrder (over_runs lines given flags runs) (run_contributions lines given (for_all flags))
