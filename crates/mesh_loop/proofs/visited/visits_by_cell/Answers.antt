use Rattle.std.proofs.Common.{◌≡◌, ◌∙◌, ap, subst, ℕ, List, map}
use Rattle.std.proofs.Math.Path.{fun_ext}
use Rattle.mesh_visits.specs.declared.visit.Visit.{Visit}
use Rattle.mesh_visits.specs.Runs.{subdomain_in, visits_of}
use Rattle.mesh_visits.specs.Within.{IsFit}
use Rattle.mesh_loop.specs.Setup.{cells_of, cell_visits}
use Rattle.mesh_loop.specs.Parts.{shown}
use Rattle.mesh_loop.proofs.visited.visits_by_cell.Goals as goal

pub returns-clause-visits : goal.returns-clause-visits
returns-clause-visits c =
    let read : (cell : ℕ) → visits_of (subdomain_in c.deref.result.now) (shown c.args.source.now).flags (shown c.args.source.now).given.forest cell ≡ cell_visits (shown c.args.source.now) cell =
    λ cell. ap (λ (list : List ℕ). visits_of (subdomain_in list) (shown c.args.source.now).flags (shown c.args.source.now).given.forest cell) c.deref.ensures.value ∙ c.in_ok-subdomains.ensures cell in
    c.in_ok-visits.ensures.visits ∙ ap (λ (of : ℕ → List Visit). map of (cells_of (shown c.args.source.now))) (fun_ext read)

pub returns-clause-fit : goal.returns-clause-fit
returns-clause-fit c =
    let read : (cell : ℕ) → visits_of (subdomain_in c.deref.result.now) (shown c.args.source.now).flags (shown c.args.source.now).given.forest cell ≡ cell_visits (shown c.args.source.now) cell =
    λ cell. ap (λ (list : List ℕ). visits_of (subdomain_in list) (shown c.args.source.now).flags (shown c.args.source.now).given.forest cell) c.deref.ensures.value ∙ c.in_ok-subdomains.ensures cell in
    λ cell below. subst (IsFit (shown c.args.source.now).given.forest 9 4 8) (read cell) (c.in_ok-visits.ensures.fit cell below)
