-- How often the part between two faces is visited from its two sides.
use Rattle.std.proofs.Common.{◌≡◌, ◌∙◌, sym, ap, refl, ℕ, ◌+◌, ◌<◌, inl, inr, ⊎_elim, Bool, true, false, ◌&&◌, nat_lt, length, filter, arith}
use Rattle.std.proofs.lemmas.Bool.{cases_lt}
use Rattle.std.proofs.lemmas.Bool.Decides.{nat_tests}
use Rattle.fixed_q1.specs.declared.places.Part.{Part}
use Rattle.fixed_q1.specs.declared.places.Part.TheVariants.{Whole, Half0, Half1}
use Rattle.corner_names.specs.Names.{Name, SamePair}
use Rattle.corner_names.specs.Cells.{Corners, mid}
use Rattle.corner_names.proofs.Across.{mid_one}
use Rattle.corner_names.proofs.Active.{not_true}
use Rattle.corner_names.proofs.Cover.{pair_mid}
use Rattle.hanging_refine.specs.Refined.{RefinedMesh, cell_at}
use Rattle.hanging_refine.specs.Grown.{IsGrown}
use Rattle.hanging_refine.specs.Coarse.{corner_at}
use Rattle.hanging_refine.specs.Sides.{half_end}
use Rattle.mesh_visits.specs.declared.flags.Interior.{Interior}
use Rattle.mesh_visits.specs.declared.flags.Interior.TheVariants.{None as Never, Once, Both}
use Rattle.mesh_visits.specs.declared.visit.Visit.{Visit}
use Rattle.mesh_visits.specs.Meeting.{Face, AreApart, is_equal, is_half}
use Rattle.mesh_visits.specs.Visits.{part_visit, all_visits}
use Rattle.mesh_visits.specs.Sharing.{IsFaceOf, SharePart, IsOtherSide, IsHalfOf}
use Rattle.mesh_visits.specs.Runs.{goes_inside}
use Rattle.mesh_visits.specs.Laws.{goes_to, once_if, AreVisited}
use Rattle.mesh_visits.proofs.Meets.{equal_true, equal_by, half_true, half_by, not_both, Meeting, on_edge, in_first, in_second, has_first, has_second, meeting_by}
use Rattle.mesh_visits.proofs.BySide.{is_cell, size, half_size, equal_size}
use Rattle.mesh_visits.proofs.Counts.{counted, ind, and_false, five, told_by, count_is}

-- what the tests on two faces say, as the rule for parts takes it from the first cell
abbrev pub visits_to : Interior → ℕ → ℕ → Bool → Bool → Bool → Bool → Bool → ℕ
visits_to interior c j equal up0 up1 down0 down1 =
    five (goes_inside interior c j Whole Whole && equal) (goes_inside interior c j Whole Half0 && up0) (goes_inside interior c j Whole Half1 && up1)
    (goes_inside interior c j Half0 Whole && down0) (goes_inside interior c j Half1 Whole && down1)

abbrev pub told : Interior → RefinedMesh → Face → Face → ℕ
told interior forest a b = visits_to interior a.0 b.0 (is_equal forest a b) (is_half forest 0 a b) (is_half forest 1 a b) (is_half forest 0 b a) (is_half forest 1 b a)

-- a half is visited from the finer side, and under `Both` from the other one too
half_exact : (interior : Interior) (c j : ℕ) (u v : Bool) → ind u + ind v ≡ 1 → AreVisited interior (visits_to interior c j false u v false false) (visits_to interior j c false false false u v)
half_exact Never c j u v h = (refl, refl)
half_exact Once c j u v h = let e = ap ind (and_false (nat_lt c j)) in let d = ap ind (and_false (nat_lt j c)) in omega (arith, e, d, h)
half_exact Both c j u v h = (omega (arith, h), omega (arith, h))

turn_back : (interior : Interior) (m n : ℕ) → AreVisited interior m n → AreVisited interior n m
turn_back Never m n h = (h.1, h.0)
turn_back Once m n h = omega (arith, h)
turn_back Both m n h = (h.1, h.0)

pub one_below : (c j : ℕ) → (c ≡ j → ⊥) → ind (nat_lt c j) + ind (nat_lt j c) ≡ 1
one_below c j h =
    elim (cases_lt c j) [
      | inl k ↦ grind (arith, nat_tests)
      | inr k ↦ (let l : j < c = omega (arith, h, k) in grind (arith, nat_tests))
    ]

pub and_true_right : (b : Bool) → (b && true) ≡ b
and_true_right true = refl
and_true_right false = refl

-- an equal face is visited from the cell of lower number, or from both
edge_exact : (interior : Interior) (c j : ℕ) → (c ≡ j → ⊥) → AreVisited interior (visits_to interior c j true false false false false) (visits_to interior j c true false false false false)
edge_exact Never c j h = (refl, refl)
edge_exact Once c j h =
    let e = ap ind (and_true_right (nat_lt c j)) in let d = ap ind (and_true_right (nat_lt j c)) in let o = one_below c j h in omega (arith, e, d, o)
edge_exact Both c j h = (refl, refl)

-- what the tests on two faces say
pub record Tests (forest : RefinedMesh) (a b : Face) (e e' u v p q : Bool) : Type 0 where
  pub equal_is : is_equal forest a b ≡ e
  pub back_is : is_equal forest b a ≡ e'
  pub up0 : is_half forest 0 a b ≡ u
  pub up1 : is_half forest 1 a b ≡ v
  pub down0 : is_half forest 0 b a ≡ p
  pub down1 : is_half forest 1 b a ≡ q

by_tests : (interior : Interior) (forest : RefinedMesh) (a b : Face) (e e' u v p q : Bool) → Tests forest a b e e' u v p q →
    AreVisited interior (visits_to interior a.0 b.0 e u v p q) (visits_to interior b.0 a.0 e' p q u v) → AreVisited interior (told interior forest a b) (told interior forest b a)
by_tests interior forest a b e e' u v p q t h = rw (t.equal_is, t.back_is, t.up0, t.up1, t.down0, t.down1) h

-- facts on two faces of active cells
pub record TwoFaces (forest : RefinedMesh) (a b : Face) : Type 0 where
  pub grown : IsGrown forest
  pub here : IsFaceOf forest a
  pub there : IsFaceOf forest b

up_size : (forest : RefinedMesh) (half : ℕ) (a b : Face) → is_half forest half a b ≡ true → size forest b.0 b.1 < size forest a.0 a.1
up_size forest half a b h = half_size forest a.0 a.1 b.0 b.1 (half_end b.1 half) (half_true forest half a b h)

-- a face is no half of itself
half_apart : (forest : RefinedMesh) (half : ℕ) (a b : Face) → is_half forest half a b ≡ true → AreApart a b
half_apart forest half a b h p q =
    let s = up_size forest half a b h in
    let e : size forest a.0 a.1 ≡ size forest b.0 b.1 = ap (λ c. size forest c a.1) p ∙ ap (λ f. size forest b.0 f) q in
    omega (arith, s, e)

same_size : (forest : RefinedMesh) (a b : Face) → is_equal forest a b ≡ true → size forest a.0 a.1 ≡ size forest b.0 b.1
same_size forest a b h = equal_size forest a.0 a.1 b.0 b.1 (equal_true forest a b h).1

-- a face is one half of another at most
one_half : (forest : RefinedMesh) (a b : Face) → TwoFaces forest a b → is_half forest 0 a b ≡ true → is_half forest 1 a b ≡ true → ⊥
one_half forest a b t h k =
    not_both (length forest.mesh.cells) (corner_at forest.mesh) t.grown.coarse.distinct (cell_at forest a.0) (cell_at forest b.0) (is_cell forest t.grown b.0 t.there.0) a.1 b.1 t.there.1
    (half_true forest 0 a b h) (half_true forest 1 a b k)

half_tests : (forest : RefinedMesh) (a b : Face) (u v : Bool) → is_half forest 0 a b ≡ u → is_half forest 1 a b ≡ v → size forest b.0 b.1 < size forest a.0 a.1 → Tests forest a b false false u v false false
half_tests forest a b u v h k l = record {
  equal_is = not_true (is_equal forest a b) (λ t. let s = same_size forest a b t in omega (arith, s, l));
  back_is = not_true (is_equal forest b a) (λ t. let s = same_size forest b a t in omega (arith, s, l));
  up0 = h;
  up1 = k;
  down0 = not_true (is_half forest 0 b a) (λ t. let s = up_size forest 0 b a t in omega (arith, s, l));
  down1 = not_true (is_half forest 1 b a) (λ t. let s = up_size forest 1 b a t in omega (arith, s, l));
}

visited_up0 : (interior : Interior) (forest : RefinedMesh) (a b : Face) → TwoFaces forest a b → is_half forest 0 a b ≡ true → AreVisited interior (told interior forest a b) (told interior forest b a)
visited_up0 interior forest a b t h =
    by_tests interior forest a b false false true false false false (half_tests forest a b true false h (not_true (is_half forest 1 a b) (λ k. one_half forest a b t h k)) (up_size forest 0 a b h))
    (half_exact interior a.0 b.0 true false refl)

visited_up1 : (interior : Interior) (forest : RefinedMesh) (a b : Face) → TwoFaces forest a b → is_half forest 1 a b ≡ true → AreVisited interior (told interior forest a b) (told interior forest b a)
visited_up1 interior forest a b t h =
    by_tests interior forest a b false false false true false false (half_tests forest a b false true (not_true (is_half forest 0 a b) (λ k. one_half forest a b t k h)) h (up_size forest 1 a b h))
    (half_exact interior a.0 b.0 false true refl)

turned : (forest : RefinedMesh) (a b : Face) → TwoFaces forest a b → TwoFaces forest b a
turned forest a b t = record { grown = t.grown; here = t.there; there = t.here }

pub pair_turned : (a b c d : Name) → SamePair a b c d → SamePair c d a b
pair_turned a b c d s = ⊎_elim (λ (t : (a ≡ c) × (b ≡ d)). inl (sym t.0, sym t.1)) (λ (t : (a ≡ d) × (b ≡ c)). inr (sym t.1, sym t.0)) s

pub same_turned : (forest : RefinedMesh) (a b : Face) → is_equal forest a b ≡ true → is_equal forest b a ≡ true
same_turned forest a b h =
    let t = equal_true forest a b h in equal_by forest b a (λ p q. t.0 (sym p) (sym q)) (pair_turned _ _ _ _ t.1)

-- two faces of one cell are two edges
pub apart : (forest : RefinedMesh) (a b : Face) → TwoFaces forest a b → is_equal forest a b ≡ true → a.0 ≡ b.0 → ⊥
apart forest a b t h s =
    let k = equal_true forest a b h in
    let m : Corners = corner_at forest.mesh in
    let e : mid m (cell_at forest a.0) a.1 ≡ mid m (cell_at forest b.0) b.1 = pair_mid m (cell_at forest a.0) (cell_at forest b.0) a.1 b.1 k.1 in
    let d : mid m (cell_at forest a.0) a.1 ≡ mid m (cell_at forest a.0) b.1 = e ∙ ap (λ x. mid m (cell_at forest x) b.1) (sym s) in
    k.0 s (mid_one (length forest.mesh.cells) m t.grown.coarse.distinct (cell_at forest a.0) (is_cell forest t.grown a.0 t.here.0) a.1 b.1 t.here.1 t.there.1 d)

edge_tests : (forest : RefinedMesh) (a b : Face) → is_equal forest a b ≡ true → Tests forest a b true true false false false false
edge_tests forest a b h =
    let s = same_size forest a b h in
    record {
      equal_is = h;
      back_is = same_turned forest a b h;
      up0 = not_true (is_half forest 0 a b) (λ k. let l = up_size forest 0 a b k in omega (arith, s, l));
      up1 = not_true (is_half forest 1 a b) (λ k. let l = up_size forest 1 a b k in omega (arith, s, l));
      down0 = not_true (is_half forest 0 b a) (λ k. let l = up_size forest 0 b a k in omega (arith, s, l));
      down1 = not_true (is_half forest 1 b a) (λ k. let l = up_size forest 1 b a k in omega (arith, s, l));
    }

visited_edge : (interior : Interior) (forest : RefinedMesh) (a b : Face) → TwoFaces forest a b → is_equal forest a b ≡ true → AreVisited interior (told interior forest a b) (told interior forest b a)
visited_edge interior forest a b t h =
    by_tests interior forest a b true true false false false false (edge_tests forest a b h) (edge_exact interior a.0 b.0 (λ p. apart forest a b t h p))

by_meeting : (interior : Interior) (forest : RefinedMesh) (a b : Face) → TwoFaces forest a b → Meeting forest a b → AreVisited interior (told interior forest a b) (told interior forest b a)
by_meeting interior forest a b t (on_edge h) = visited_edge interior forest a b t h
by_meeting interior forest a b t (in_first h) = visited_up0 interior forest a b t h
by_meeting interior forest a b t (in_second h) = visited_up1 interior forest a b t h
by_meeting interior forest a b t (has_first h) = turn_back interior (told interior forest b a) (told interior forest a b) (visited_up0 interior forest b a (turned forest a b t) h)
by_meeting interior forest a b t (has_second h) = turn_back interior (told interior forest b a) (told interior forest a b) (visited_up1 interior forest b a (turned forest a b t) h)

-- a choice that says of the parts between two faces what the rule says
abbrev pub GoesBy : (Visit → Bool) → Interior → Face → Face → Type 0
GoesBy w interior a b = (here there : Part) → w (part_visit a.1 here there b) ≡ goes_inside interior a.0 b.0 here there

told_is : (w : Visit → Bool) (interior : Interior) (forest : RefinedMesh) (a b : Face) → GoesBy w interior a b → told_by w forest a b ≡ told interior forest a b
told_is w interior forest a b h = rw (h Whole Whole, h Whole Half0, h Whole Half1, h Half0 Whole, h Half1 Whole) refl

-- how often all visits of a cell go from one face to another, of those that are kept
pub kept_count : (w : Visit → Bool) (first : Bool) (forest : RefinedMesh) (a b : Face) → IsFaceOf forest a → IsFaceOf forest b → counted (goes_to a b) (filter w (all_visits first forest a.0)) ≡ told_by w forest a b
kept_count w first forest a b ha hb = count_is w first forest a.0 a.1 b.0 b.1 ha.1 hb.0 hb.1

pub rule_count : (w : Visit → Bool) (interior : Interior) (first : Bool) (forest : RefinedMesh) (a b : Face) → IsFaceOf forest a → IsFaceOf forest b → GoesBy w interior a b →
    counted (goes_to a b) (filter w (all_visits first forest a.0)) ≡ told interior forest a b
rule_count w interior first forest a b ha hb h = kept_count w first forest a b ha hb ∙ told_is w interior forest a b h

pub both_told : (interior : Interior) (forest : RefinedMesh) → IsGrown forest → (a b : Face) → IsFaceOf forest a → IsFaceOf forest b → SharePart forest a b → AreVisited interior (told interior forest a b) (told interior forest b a)
both_told interior forest grown a b ha hb h = by_meeting interior forest a b (record { grown = grown; here = ha; there = hb }) (meeting_by forest a b h)

-- under `Once` an equal face from the cell of lower number
pub edge_told : (forest : RefinedMesh) (a b : Face) → IsOtherSide forest a b → told Once forest a b ≡ once_if (nat_lt a.0 b.0)
edge_told forest a b h =
    let t = edge_tests forest a b (equal_by forest a b h.0 h.1) in
    edge_by (is_equal forest a b) (is_half forest 0 a b) (is_half forest 1 a b) (is_half forest 0 b a) (is_half forest 1 b a) t.equal_is t.up0 t.up1
  where
    edge_by : (e u v p q : Bool) → e ≡ true → u ≡ false → v ≡ false → visits_to Once a.0 b.0 e u v p q ≡ once_if (nat_lt a.0 b.0)
    edge_by e u v p q he hu hv = rw (he, hu, hv) (let z = ap ind (and_true_right (nat_lt a.0 b.0)) in omega (arith, z))

-- and not from the coarser cell
pub coarser_told : (forest : RefinedMesh) (half : ℕ) (a b : Face) → IsHalfOf forest half a b → told Once forest b a ≡ 0
coarser_told forest half a b h =
    let s = half_size forest a.0 a.1 b.0 b.1 (half_end b.1 half) h in
    let e : is_equal forest b a ≡ false = not_true (is_equal forest b a) (λ k. let l = same_size forest b a k in omega (arith, s, l)) in
    let u : is_half forest 0 b a ≡ false = not_true (is_half forest 0 b a) (λ k. let l = up_size forest 0 b a k in omega (arith, s, l)) in
    let v : is_half forest 1 b a ≡ false = not_true (is_half forest 1 b a) (λ k. let l = up_size forest 1 b a k in omega (arith, s, l)) in
    by_coarser (is_equal forest b a) (is_half forest 0 b a) (is_half forest 1 b a) (is_half forest 0 a b) (is_half forest 1 a b) e u v
  where
    by_coarser : (e u v p q : Bool) → e ≡ false → u ≡ false → v ≡ false → visits_to Once b.0 a.0 e u v p q ≡ 0
    by_coarser e u v p q he hu hv = rw (he, hu, hv) (let z = ap ind (and_false (nat_lt b.0 a.0)) in omega (arith, z))

pub half_shares : (forest : RefinedMesh) (half : ℕ) (a b : Face) → half < 2 → IsHalfOf forest half a b → SharePart forest a b
half_shares forest half a b hk h = (half_apart forest half a b (half_by forest half a b h), inr (inl (half_end b.1 half, h)))

-- faces of which no test says anything
pub none_told : (w : Visit → Bool) (forest : RefinedMesh) (a b : Face) → (SharePart forest a b → ⊥) → told_by w forest a b ≡ 0
none_told w forest a b h =
    let e = not_true (is_equal forest a b) (λ t. let k = equal_true forest a b t in h (k.0, inl k.1)) in
    let up : (half : ℕ) → is_half forest half a b ≡ false = λ half. not_true (is_half forest half a b) (λ t. h (half_apart forest half a b t, inr (inl (half_end b.1 half, half_true forest half a b t)))) in
    let down : (half : ℕ) → is_half forest half b a ≡ false =
    λ half. not_true (is_half forest half b a) (λ t. let k = half_apart forest half b a t in h ((λ p q. k (sym p) (sym q)), inr (inr (half_end a.1 half, half_true forest half b a t)))) in
    rw (e, up 0, up 1, down 0, down 1)
    (none_of_five (w (part_visit a.1 Whole Whole b)) (w (part_visit a.1 Whole Half0 b)) (w (part_visit a.1 Whole Half1 b)) (w (part_visit a.1 Half0 Whole b)) (w (part_visit a.1 Half1 Whole b)))
  where
    none_of_five : (e u v p q : Bool) → five (e && false) (u && false) (v && false) (p && false) (q && false) ≡ 0
    none_of_five e u v p q = rw (and_false e, and_false u, and_false v, and_false p, and_false q) refl
