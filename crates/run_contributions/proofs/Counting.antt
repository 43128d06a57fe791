-- Counts over lists of lists.
use Rattle.std.proofs.Common.{◌≡◌, ◌∙◌, sym, ap, refl, ℕ, ◌+◌, Bool, false, List, [], ◌∷◌, ◌++◌, length, filter, arith, length-append}
use Rattle.std.specs.List.{flat_map, range_with_len}
use Rattle.std.proofs.lemmas.List.Elements.{filter-append}
use Rattle.affine_constraints.specs.Lines.{Lines}
use Rattle.cell_blocks.specs.Blocks.{Given, subdomains_of, visits_in}
use Rattle.serial_sum.specs.declared.part.Contribution.{Contribution}
use Rattle.hanging_refine.specs.Grown.{IsGrown}
use Rattle.mesh_visits.specs.declared.flags.Flags.{Flags}
use Rattle.mesh_visits.specs.declared.flags.Interior.TheVariants.{Once}
use Rattle.mesh_visits.specs.declared.visit.Visit.{Visit}
use Rattle.mesh_visits.specs.Runs.{subdomain_in}
use Rattle.mesh_visits.specs.OverRuns.{total, for_subdomain, for_all, weigh, sum_over}
use Rattle.mesh_visits.proofs.RunSums.{sums_add_up}
use Rattle.run_contributions.specs.RunContributions.{visit_contributions, contributions_of, run_contributions, passing, over_runs, HasEachOf, BlocksAreTwoSided, SameInSomeOrder}

abbrev pub counted : (Contribution → Bool) → List Contribution → ℕ
counted test xs = length (filter test xs)

pub counted-append : (test : Contribution → Bool) (xs ys : List Contribution) → counted test (xs ++ ys) ≡ counted test xs + counted test ys
counted-append test xs ys = ap length (filter-append test xs ys) ∙ length-append (filter test xs) (filter test ys)

in_lists : (test : Contribution → Bool) (f : ℕ → List Contribution) (n : ℕ → ℕ) (xs : List ℕ) → ((x : ℕ) → counted test (f x) ≡ n x) → counted test (flat_map f xs) ≡ total n xs
in_lists test f n [] h = refl
in_lists test f n (x ∷ xs) h =
    let s = counted-append test (f x) (flat_map f xs) in let here = h x in let r = in_lists test f n xs h in omega (arith, s, here, r)

in_visits : (test : Contribution → Bool) (f : Visit → List Contribution) (vs : List Visit) → counted test (flat_map f vs) ≡ weigh (λ v. counted test (f v)) vs
in_visits test f [] = refl
in_visits test f (v ∷ vs) =
    let s = counted-append test (f v) (flat_map f vs) in let r = in_visits test f vs in omega (arith, s, r)

in_run : (test : Contribution → Bool) (lines : Lines) (given : Given) (visits : ℕ → List Visit) → counted test (contributions_of lines given visits) ≡ sum_over (passing lines given test) visits given.forest
in_run test lines given visits =
    in_lists test (λ c. flat_map (visit_contributions lines given c) (visits c)) (λ c. weigh (passing lines given test c) (visits c)) (range_with_len 0 (length given.forest.cells))
    (λ c. in_visits test (visit_contributions lines given c) (visits c))

pub add_up : (lines : Lines) (given : Given) (flags : Flags) (runs : List ℕ) → IsGrown given.forest → HasEachOf given runs → flags.interior ≡ Once → flags.ghost_parts ≡ Once → flags.ghost_cells ≡ false →
    BlocksAreTwoSided lines given → SameInSomeOrder (over_runs lines given flags runs) (run_contributions lines given (for_all flags))
add_up lines given flags runs grown each inside out none two test =
    in_lists test (λ s. run_contributions lines given (for_subdomain flags s)) (λ s. sum_over (passing lines given test) (visits_in (for_subdomain flags s) given) given.forest) runs
    (λ s. in_run test lines given (visits_in (for_subdomain flags s) given))
    ∙ sums_add_up (passing lines given test) (subdomain_in (subdomains_of given)) flags given.forest runs grown each inside out none (two test)
    ∙ sym (in_run test lines given (visits_in (for_all flags) given))
