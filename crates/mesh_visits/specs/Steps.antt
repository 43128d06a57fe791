-- What the code of a run goes by.
use Rattle.std.specs.Prelude.{ℕ, Bool, List}
use Rattle.hanging_refine.specs.Refined.{RefinedMesh}
use Rattle.mesh_visits.specs.declared.run.Run.{Run}
use Rattle.mesh_visits.specs.declared.visit.Visit.{Visit}
use Rattle.mesh_visits.specs.Runs.{Subdomains, subdomain_in, is_own_cell, is_chosen, meets_own, visits_of}

abbrev pub subdomain_by : Run → Subdomains
subdomain_by run = subdomain_in run.subdomains.now

abbrev pub has_own : Run → ℕ → Bool
has_own run cell = is_own_cell (subdomain_by run) run.flags.own cell

abbrev pub chooses : Run → ℕ → Visit → Bool
chooses run cell visit = is_chosen (subdomain_by run) run.flags cell visit

abbrev pub leads_to_own : Run → Visit → Bool
leads_to_own run visit = meets_own (subdomain_by run) run.flags.own visit

abbrev pub run_visits : Run → RefinedMesh → ℕ → List Visit
run_visits run forest cell = visits_of (subdomain_by run) run.flags forest cell
