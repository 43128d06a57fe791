-- Counts of the visits of a run.
use Rattle.std.proofs.Common.{◌≡◌, ◌∙◌, sym, ap, refl, subst, ℕ, ◌+◌, ◌<◌, Bool, true, false, ◌==◌, List, [], ◌∷◌, length, filter, if◌then◌else◌, arith}
use Rattle.std.specs.List.{list_any}
use Rattle.fixed_q1.specs.declared.places.Part.{Part}
use Rattle.corner_names.proofs.Active.{not_true}
use Rattle.hanging_refine.specs.Refined.{RefinedMesh}
use Rattle.hanging_refine.specs.Grown.{IsGrown}
use Rattle.mesh_visits.specs.declared.flags.Flags.{Flags}
use Rattle.mesh_visits.specs.declared.flags.Interior.{Interior}
use Rattle.mesh_visits.specs.declared.flags.Interior.TheVariants.{Once, Both}
use Rattle.mesh_visits.specs.declared.visit.Visit.{Visit}
use Rattle.mesh_visits.specs.declared.visit.Visit.TheVariants.{Cell as OnCell, Boundary as OnBoundary, Interior as OnPart}
use Rattle.mesh_visits.specs.Meeting.{Face, is_face, is_outer}
use Rattle.mesh_visits.specs.Visits.{all_visits}
use Rattle.mesh_visits.specs.Sharing.{IsFaceOf, IsHalfOf, SharePart}
use Rattle.mesh_visits.specs.Runs.{Subdomains, is_own_cell, goes_inside, goes_out, is_chosen, meets_own, outer_visits}
use Rattle.mesh_visits.specs.Laws.{is_itself, is_outside, goes_to, once_if, count, count_to, AreVisited, IsOwn, IsOther, OwnCells, AreOwn, OwnParts}
use Rattle.mesh_visits.proofs.Meets.{and_true, face_true, outer_is, outer_of}
use Rattle.mesh_visits.proofs.Choosing.{step_filter, own_run, outer_run}
use Rattle.mesh_visits.proofs.Counts.{counted, ind, itself_count, outside_count}
use Rattle.mesh_visits.proofs.Exact.{GoesBy, told, rule_count, kept_count, both_told, edge_told, coarser_told, half_shares, none_told}

-- a visit that doesn't pass doesn't count, whether it is kept or not
skip_one : (t w : Visit → Bool) (v : Visit) (vs : List Visit) (b : Bool) → t v ≡ false → w v ≡ b → counted t (filter w (v ∷ vs)) ≡ counted t (filter w vs)
skip_one t w v vs true e f = ap (counted t) (step_filter w v vs true f) ∙ ap length (step_filter t v (filter w vs) false e)
skip_one t w v vs false e f = ap (counted t) (step_filter w v vs false f)

take_one : (t w : Visit → Bool) (v : Visit) (vs : List Visit) (b : Bool) → t v ≡ true → w v ≡ b → counted t (filter w (v ∷ vs)) ≡ ind b + counted t (filter w vs)
take_one t w v vs true e f =
    let k = ap (counted t) (step_filter w v vs true f) in let l = ap length (step_filter t v (filter w vs) true e) in omega (arith, k, l)
take_one t w v vs false e f = let k = ap (counted t) (step_filter w v vs false f) in omega (arith, k)

agree_step : (t w w' : Visit → Bool) (v : Visit) (vs : List Visit) (b : Bool) → t v ≡ b → (t v ≡ true → w v ≡ w' v) → counted t (filter w vs) ≡ counted t (filter w' vs) →
    counted t (filter w (v ∷ vs)) ≡ counted t (filter w' (v ∷ vs))
agree_step t w w' v vs true e h rest = take_one t w v vs (w' v) e (h e) ∙ ap (λ n. ind (w' v) + n) rest ∙ sym (take_one t w' v vs (w' v) e refl)
agree_step t w w' v vs false e h rest = skip_one t w v vs (w v) e refl ∙ rest ∙ sym (skip_one t w' v vs (w' v) e refl)

-- two filters that agree on what counts
pub agree : (t w w' : Visit → Bool) (vs : List Visit) → ((v : Visit) → t v ≡ true → w v ≡ w' v) → counted t (filter w vs) ≡ counted t (filter w' vs)
agree t w w' [] h = refl
agree t w w' (v ∷ vs) h = agree_step t w w' v vs (t v) refl (h v) (agree t w w' vs h)

pub every_kept : (xs : List Visit) → filter (λ v. true) xs ≡ xs
every_kept [] = refl
every_kept (x ∷ xs) = ap (λ ys. x ∷ ys) (every_kept xs)

all_kept : (t : Visit → Bool) (vs : List Visit) → counted t (filter (λ v. true) vs) ≡ counted t vs
all_kept t vs = ap (counted t) (every_kept vs)

none_kept : (t : Visit → Bool) (vs : List Visit) → counted t (filter (λ v. false) vs) ≡ 0
none_kept t [] = refl
none_kept t (v ∷ vs) = none_kept t vs

by_constant : (t : Visit → Bool) (k : Bool) (vs : List Visit) → counted t (filter (λ v. k) vs) ≡ (if k then counted t vs else 0)
by_constant t true vs = all_kept t vs
by_constant t false vs = none_kept t vs

-- a filter that says the same of all that count
pub constant : (t w : Visit → Bool) (k : Bool) (n : ℕ) (vs : List Visit) → ((v : Visit) → t v ≡ true → w v ≡ k) → counted t vs ≡ n → counted t (filter w vs) ≡ (if k then n else 0)
constant t w k n vs h e = agree t w (λ v. k) vs h ∙ by_constant t k vs ∙ ap (λ m. if k then m else 0) e

own_choice : (subdomain : Subdomains) (flags : Flags) (c : ℕ) (v : Visit) → is_itself v ≡ true → is_chosen subdomain flags c v ≡ flags.cells
own_choice subdomain flags c OnCell h = refl
own_choice subdomain flags c (OnBoundary f id) h = cc
own_choice subdomain flags c (OnPart f j g here there) h = cc

outside_choice : (subdomain : Subdomains) (flags : Flags) (c face : ℕ) (v : Visit) → is_outside face v ≡ true → is_chosen subdomain flags c v ≡ flags.boundary
outside_choice subdomain flags c face OnCell h = cc
outside_choice subdomain flags c face (OnBoundary f id) h = refl
outside_choice subdomain flags c face (OnPart f j g here there) h = cc

-- the visit of an own cell itself
itself_once : (subdomain : Subdomains) (flags : Flags) (forest : RefinedMesh) (c : ℕ) → IsOwn subdomain flags c → count is_itself subdomain flags forest c ≡ once_if flags.cells
itself_once subdomain flags forest c h =
    ap (counted is_itself) (own_run subdomain flags forest c h)
    ∙ constant is_itself (is_chosen subdomain flags c) flags.cells 1 (all_visits flags.cells_after_faces forest c) (own_choice subdomain flags c) (itself_count flags.cells_after_faces forest c)

outside_once : (subdomain : Subdomains) (flags : Flags) (forest : RefinedMesh) (c f : ℕ) → f < 4 → IsOwn subdomain flags c → (b : Bool) → is_outer forest (c, f) ≡ b →
    count (is_outside f) subdomain flags forest c ≡ (if flags.boundary then ind b else 0)
outside_once subdomain flags forest c f hf h b e =
    ap (counted (is_outside f)) (own_run subdomain flags forest c h)
    ∙ constant (is_outside f) (is_chosen subdomain flags c) flags.boundary (ind b) (all_visits flags.cells_after_faces forest c) (outside_choice subdomain flags c f)
    (outside_count flags.cells_after_faces forest c f hf ∙ ap ind e)

zero_either : (b : Bool) → ◌≡◌ {A = ℕ} (if b then 0 else 0) 0
zero_either true = refl
zero_either false = refl

-- no part is visited from a cell that isn't own
outer_none : (subdomain : Subdomains) (flags : Flags) (a b : Face) (visits : List Visit) (met wanted : Bool) → list_any (meets_own subdomain flags.own) visits ≡ met → flags.ghost_cells ≡ wanted →
    counted (goes_to a b) (outer_visits subdomain flags visits) ≡ 0
outer_none subdomain flags a b visits true true e f = rw (e, f) refl
outer_none subdomain flags a b visits true false e f = rw (e, f) refl
outer_none subdomain flags a b visits false wanted e f = rw e refl

pub outer_count : (subdomain : Subdomains) (flags : Flags) (forest : RefinedMesh) (a b : Face) → IsOther subdomain flags a.0 → count_to subdomain flags forest a b ≡ 0
outer_count subdomain flags forest a b h =
    let visits : List Visit = all_visits flags.cells_after_faces forest a.0 in
    ap (counted (goes_to a b)) (outer_run subdomain flags forest a.0 h) ∙ outer_none subdomain flags a b visits (list_any (meets_own subdomain flags.own) visits) flags.ghost_cells refl refl

no_part_count : (subdomain : Subdomains) (flags : Flags) (forest : RefinedMesh) (a b : Face) (own : Bool) → is_own_cell subdomain flags.own a.0 ≡ own → IsFaceOf forest a → IsFaceOf forest b → (SharePart forest a b → ⊥) → count_to subdomain flags forest a b ≡ 0
no_part_count subdomain flags forest a b true own ha hb h =
    let w : Visit → Bool = is_chosen subdomain flags a.0 in
    ap (counted (goes_to a b)) (own_run subdomain flags forest a.0 own) ∙ kept_count w flags.cells_after_faces forest a b ha hb ∙ none_told w forest a b h
no_part_count subdomain flags forest a b false own ha hb h = outer_count subdomain flags forest a b own

pub own_cells : (subdomain : Subdomains) (flags : Flags) (forest : RefinedMesh) → OwnCells subdomain flags forest
own_cells subdomain flags forest = record {
  itself = itself_once subdomain flags forest;
  boundary = λ c f hf own on. outside_once subdomain flags forest c f hf own true (outer_of forest (c, f) on);
  inner = λ c f hf own off. outside_once subdomain flags forest c f hf own false (not_true (is_outer forest (c, f)) (λ t. off (outer_is forest (c, f) t))) ∙ zero_either flags.boundary;
  no_part = λ a b ha hb h. no_part_count subdomain flags forest a b (is_own_cell subdomain flags.own a.0) refl ha hb h;
}

pub to_other : (a b : Face) (f j g : ℕ) (here there : Part) → goes_to a b (OnPart f j g here there) ≡ true → j ≡ b.0
to_other a b f j g here there h = (face_true (j, g) b (and_true (f == a.1) (is_face (j, g) b) h).1).0

-- parts between own cells go by the rule for these
inside_rule : (subdomain : Subdomains) (flags : Flags) (a b : Face) → IsOwn subdomain flags b.0 → GoesBy (is_chosen subdomain flags a.0) flags.interior a b
inside_rule subdomain flags a b own here there = ap (λ t. if t then goes_inside flags.interior a.0 b.0 here there else goes_out flags.ghost_parts flags.own (subdomain b.0)) own

pub inside_count : (subdomain : Subdomains) (flags : Flags) (forest : RefinedMesh) (a b : Face) → AreOwn subdomain flags forest a b → count_to subdomain flags forest a b ≡ told flags.interior forest a b
inside_count subdomain flags forest a b own =
    ap (counted (goes_to a b)) (own_run subdomain flags forest a.0 own.here_is_own)
    ∙ rule_count (is_chosen subdomain flags a.0) flags.interior flags.cells_after_faces forest a b own.here own.there (inside_rule subdomain flags a b own.there_is_own)

pub own_turned : (subdomain : Subdomains) (flags : Flags) (forest : RefinedMesh) (a b : Face) → AreOwn subdomain flags forest a b → AreOwn subdomain flags forest b a
own_turned subdomain flags forest a b own = record { here = own.there; there = own.here; here_is_own = own.there_is_own; there_is_own = own.here_is_own }

pub inside_parts : (subdomain : Subdomains) (flags : Flags) (forest : RefinedMesh) → IsGrown forest → (a b : Face) → AreOwn subdomain flags forest a b → SharePart forest a b →
    AreVisited flags.interior (count_to subdomain flags forest a b) (count_to subdomain flags forest b a)
inside_parts subdomain flags forest grown a b own part =
    rw (inside_count subdomain flags forest a b own, inside_count subdomain flags forest b a (own_turned subdomain flags forest a b own))
    (both_told flags.interior forest grown a b own.here own.there part)

once_count : (subdomain : Subdomains) (flags : Flags) (forest : RefinedMesh) (a b : Face) → AreOwn subdomain flags forest a b → flags.interior ≡ Once → count_to subdomain flags forest a b ≡ told Once forest a b
once_count subdomain flags forest a b own once = inside_count subdomain flags forest a b own ∙ ap (λ rule. told rule forest a b) once

sum_one : (m n : ℕ) → AreVisited Once m n → n ≡ 0 → (m ≡ 1) × (n ≡ 0)
sum_one m n h e = (omega (arith, h, e), e)

half_parts : (subdomain : Subdomains) (flags : Flags) (forest : RefinedMesh) → IsGrown forest → (half : ℕ) (a b : Face) → half < 2 → AreOwn subdomain flags forest a b → flags.interior ≡ Once → IsHalfOf forest half a b →
    (count_to subdomain flags forest a b ≡ 1) × (count_to subdomain flags forest b a ≡ 0)
half_parts subdomain flags forest grown half a b hk own once h =
    let P : Interior → Type 0 = λ rule. AreVisited rule (count_to subdomain flags forest a b) (count_to subdomain flags forest b a) in
    let back : count_to subdomain flags forest b a ≡ 0 = once_count subdomain flags forest b a (own_turned subdomain flags forest a b own) once ∙ coarser_told forest half a b h in
    sum_one (count_to subdomain flags forest a b) (count_to subdomain flags forest b a) (subst P once (inside_parts subdomain flags forest grown a b own (half_shares forest half a b hk h))) back

pub own_parts : (subdomain : Subdomains) (flags : Flags) (forest : RefinedMesh) → IsGrown forest → OwnParts subdomain flags forest
own_parts subdomain flags forest grown = record {
  each = inside_parts subdomain flags forest grown;
  equal_once = λ a b own once edge. once_count subdomain flags forest a b own once ∙ edge_told forest a b edge;
  half_once = half_parts subdomain flags forest grown;
}

-- all visits have each part once from each side
pub all_parts : (first : Bool) (forest : RefinedMesh) → IsGrown forest → (a b : Face) → IsFaceOf forest a → IsFaceOf forest b → SharePart forest a b → counted (goes_to a b) (all_visits first forest a.0) ≡ 1
all_parts first forest grown a b ha hb part =
    let visits : List Visit = all_visits first forest a.0 in
    ap (counted (goes_to a b)) (sym (every_kept visits)) ∙ rule_count (λ v. true) Both first forest a b ha hb (λ here there. refl) ∙ (both_told Both forest grown a b ha hb part).0

out_choice : (subdomain : Subdomains) (flags : Flags) (a b : Face) → IsOther subdomain flags b.0 → (v : Visit) → goes_to a b v ≡ true → is_chosen subdomain flags a.0 v ≡ goes_out flags.ghost_parts flags.own (subdomain b.0)
out_choice subdomain flags a b own OnCell h = cc
out_choice subdomain flags a b own (OnBoundary f id) h = cc
out_choice subdomain flags a b own (OnPart f j g here there) h =
    let s : j ≡ b.0 = to_other a b f j g here there h in
    let e : is_own_cell subdomain flags.own j ≡ false = ap (is_own_cell subdomain flags.own) s ∙ own in
    ap (λ b. if b then goes_inside flags.interior a.0 j here there else goes_out flags.ghost_parts flags.own (subdomain j)) e
    ∙ ap (λ x. goes_out flags.ghost_parts flags.own (subdomain x)) s

-- a part between an own cell and another
pub out_count : (subdomain : Subdomains) (flags : Flags) (forest : RefinedMesh) → IsGrown forest → (a b : Face) → IsFaceOf forest a → IsFaceOf forest b → SharePart forest a b → IsOwn subdomain flags a.0 → IsOther subdomain flags b.0 →
    count_to subdomain flags forest a b ≡ once_if (goes_out flags.ghost_parts flags.own (subdomain b.0))
out_count subdomain flags forest grown a b ha hb part own other =
    ap (counted (goes_to a b)) (own_run subdomain flags forest a.0 own)
    ∙ constant (goes_to a b) (is_chosen subdomain flags a.0) (goes_out flags.ghost_parts flags.own (subdomain b.0)) 1 (all_visits flags.cells_after_faces forest a.0) (out_choice subdomain flags a b other)
    (all_parts flags.cells_after_faces forest grown a b ha hb part)
