-- The runs of all subdomains together.
use Rattle.std.proofs.Common.{◌≡◌, sym, ap, refl, subst, ℕ, inl, inr, ⊎_elim, ◌⊎◌, Bool, true, false, cond, ◌==◌, List, [], ◌∷◌, length, filter, arith, eq-eqb}
use Rattle.std.specs.Prelude.{Some}
use Rattle.std.proofs.lemmas.Bool.{cases_Bool}
use Rattle.corner_names.specs.Forest.{IsHalfAt}
use Rattle.corner_names.proofs.Distinct.{eq_true}
use Rattle.corner_names.proofs.Across.{nat_decides}
use Rattle.corner_names.proofs.Active.{not_true}
use Rattle.hanging_refine.specs.Coarse.{corner_at}
use Rattle.hanging_refine.specs.Sides.{IsSameFace}
use Rattle.hanging_refine.specs.Refined.{RefinedMesh, cell_at}
use Rattle.hanging_refine.specs.Grown.{IsGrown}
use Rattle.mesh_visits.specs.declared.flags.Flags.{Flags}
use Rattle.mesh_visits.specs.declared.flags.Interior.{Interior}
use Rattle.mesh_visits.specs.declared.flags.Interior.TheVariants.{None as Never, Once, Both}
use Rattle.mesh_visits.specs.Meeting.{Face}
use Rattle.mesh_visits.specs.Sharing.{IsFaceOf, SharePart}
use Rattle.mesh_visits.specs.Laws.{once_if, AreVisited, count_to}
use Rattle.mesh_visits.specs.Runs.{Subdomains, goes_out}
use Rattle.mesh_visits.specs.OverRuns.{for_subdomain, total, over_runs, RunsAddUp}
use Rattle.mesh_visits.proofs.Exact.{one_below, pair_turned}
use Rattle.mesh_visits.proofs.RunCounts.{inside_parts, out_count, outer_count}

found_step : (p s : ℕ) (rest : List ℕ) (b : Bool) → (s == p) ≡ b → filter (λ x. x == p) (s ∷ rest) ≡ cond b (s ∷ filter (λ x. x == p) rest) (filter (λ x. x == p) rest)
found_step p s rest b e = rw e refl

abbrev found : ℕ → List ℕ → ℕ
found p runs = length (filter (λ x. x == p) runs)

-- a count that is 0 but for one number
abbrev IsOnlyAt : (ℕ → ℕ) → ℕ → Type 0
IsOnlyAt count p = (s : ℕ) → (s ≡ p → ⊥) → count s ≡ 0

total_none : (count : ℕ → ℕ) (p : ℕ) (runs : List ℕ) → IsOnlyAt count p → found p runs ≡ 0 → total count runs ≡ 0
total_none count p [] only h = refl
total_none count p (s ∷ rest) only h =
    ⊎_elim
    (λ (e : (s == p) ≡ true). let k = ap length (found_step p s rest true e) in absurd (omega (arith, k, h)))
    (λ (e : (s == p) ≡ false).
    let k = ap length (found_step p s rest false e) in
    let z = only s (λ q. let t : (s == p) ≡ true = eq-eqb s p q in cc) in
    let r = total_none count p rest only (omega (arith, k, h)) in omega (arith, z, r))
    (cases_Bool (s == p))

pub total_one : (count : ℕ → ℕ) (p : ℕ) (runs : List ℕ) → IsOnlyAt count p → found p runs ≡ 1 → total count runs ≡ count p
total_one count p [] only h = absurd (omega (arith, h))
total_one count p (s ∷ rest) only h =
    ⊎_elim
    (λ (e : (s == p) ≡ true).
    let k = ap length (found_step p s rest true e) in
    let r = total_none count p rest only (omega (arith, k, h)) in
    let here : count s ≡ count p = ap count (eq_true s p e) in omega (arith, here, r))
    (λ (e : (s == p) ≡ false).
    let k = ap length (found_step p s rest false e) in
    let z = only s (λ q. let t : (s == p) ≡ true = eq-eqb s p q in cc) in
    let r = total_one count p rest only (omega (arith, k, h)) in omega (arith, z, r))
    (cases_Bool (s == p))

-- a part is visited from a cell only in the run of the cell's subdomain
from_own : (subdomain : Subdomains) (flags : Flags) (forest : RefinedMesh) (runs : List ℕ) (a b : Face) → found (subdomain a.0) runs ≡ 1 →
    over_runs subdomain flags forest runs a b ≡ count_to subdomain (for_subdomain flags (subdomain a.0)) forest a b
from_own subdomain flags forest runs a b h =
    total_one (λ s. count_to subdomain (for_subdomain flags s) forest a b) (subdomain a.0) runs
    (λ s apart. outer_count subdomain (for_subdomain flags s) forest a b (not_true (subdomain a.0 == s) (λ t. apart (sym (eq_true (subdomain a.0) s t))))) h

-- the part from its other side
part_turned : (forest : RefinedMesh) (a b : Face) → SharePart forest a b → SharePart forest b a
part_turned forest a b part = (
  (λ p q. part.0 (sym p) (sym q)),
  ⊎_elim
      (λ (s : IsSameFace (corner_at forest.mesh) (cell_at forest a.0) a.1 (cell_at forest b.0) b.1). inl (pair_turned _ _ _ _ s))
      (λ (s : ((v : ℕ) × IsHalfAt (corner_at forest.mesh) (cell_at forest a.0) a.1 (cell_at forest b.0) b.1 v) ⊎ ((v : ℕ) × IsHalfAt (corner_at forest.mesh) (cell_at forest b.0) b.1 (cell_at forest a.0) a.1 v)).
      ⊎_elim
      (λ (h : (v : ℕ) × IsHalfAt (corner_at forest.mesh) (cell_at forest a.0) a.1 (cell_at forest b.0) b.1 v). inr (inr h))
      (λ (h : (v : ℕ) × IsHalfAt (corner_at forest.mesh) (cell_at forest b.0) b.1 (cell_at forest a.0) a.1 v). inr (inl h))
      s)
      part.1,
)

-- two faces of a mesh that share a part
pub record Sharing (forest : RefinedMesh) (a b : Face) : Type 0 where
  pub here : IsFaceOf forest a
  pub there : IsFaceOf forest b
  pub part : SharePart forest a b

-- both cells in one subdomain
one_subdomain : (subdomain : Subdomains) (flags : Flags) (forest : RefinedMesh) → IsGrown forest → (a b : Face) → Sharing forest a b → subdomain a.0 ≡ subdomain b.0 →
    AreVisited flags.interior (count_to subdomain (for_subdomain flags (subdomain a.0)) forest a b) (count_to subdomain (for_subdomain flags (subdomain b.0)) forest b a)
one_subdomain subdomain flags forest grown a b two e =
    let s : ℕ = subdomain a.0 in
    let P : ℕ → Type 0 = λ t. AreVisited flags.interior (count_to subdomain (for_subdomain flags s) forest a b) (count_to subdomain (for_subdomain flags t) forest b a) in
    subst P e (inside_parts subdomain (for_subdomain flags s) forest grown a b
    (record { here = two.here; there = two.there; here_is_own = eq-eqb s s refl; there_is_own = eq-eqb (subdomain b.0) s (sym e) }) two.part)

by_rule : (rule : Interior) (s t : ℕ) → (s ≡ t → ⊥) → AreVisited rule (once_if (goes_out rule (Some s) t)) (once_if (goes_out rule (Some t) s))
by_rule Never s t apart = (refl, refl)
by_rule Once s t apart = one_below s t apart
by_rule Both s t apart = (refl, refl)

-- the cells in two
two_subdomains : (subdomain : Subdomains) (flags : Flags) (forest : RefinedMesh) → IsGrown forest → flags.ghost_parts ≡ flags.interior → (a b : Face) → Sharing forest a b → (subdomain a.0 ≡ subdomain b.0 → ⊥) →
    AreVisited flags.interior (count_to subdomain (for_subdomain flags (subdomain a.0)) forest a b) (count_to subdomain (for_subdomain flags (subdomain b.0)) forest b a)
two_subdomains subdomain flags forest grown same a b two apart =
    let s : ℕ = subdomain a.0 in
    let t : ℕ = subdomain b.0 in
    let P : Interior → Type 0 = λ rule. AreVisited rule (count_to subdomain (for_subdomain flags s) forest a b) (count_to subdomain (for_subdomain flags t) forest b a) in
    let here = out_count subdomain (for_subdomain flags s) forest grown a b two.here two.there two.part (eq-eqb s s refl) (not_true (t == s) (λ e. apart (sym (eq_true t s e)))) in
    let there = out_count subdomain (for_subdomain flags t) forest grown b a two.there two.here (part_turned forest a b two.part) (eq-eqb t t refl) (not_true (s == t) (λ e. apart (eq_true s t e))) in
    subst P same (rw (here, there) (by_rule flags.ghost_parts s t apart))

pub runs_add_up : RunsAddUp
runs_add_up subdomain flags forest runs grown each same a b ha hb part =
    let two : Sharing forest a b = record { here = ha; there = hb; part = part } in
    rw (from_own subdomain flags forest runs a b (each a.0 ha.0), from_own subdomain flags forest runs b a (each b.0 hb.0))
    (⊎_elim
    (λ (e : subdomain a.0 ≡ subdomain b.0). one_subdomain subdomain flags forest grown a b two e)
    (λ (e : subdomain a.0 ≡ subdomain b.0 → ⊥). two_subdomains subdomain flags forest grown same a b two e)
    (nat_decides (subdomain a.0) (subdomain b.0)))
