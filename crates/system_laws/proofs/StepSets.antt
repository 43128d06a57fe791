-- Each step of refinement has its least set.
use Rattle.std.proofs.Common.{◌≡◌, ◌∙◌, sym, ap, refl, ℕ, ◌+◌, ◌<◌, inl, inr, ⊎_elim, Bool, true, List, length, slice_index, arith}
use Rattle.std.specs.Prelude.{◌||◌, ◌&&◌, ◌==◌, nat_lt}
use Rattle.std.proofs.lemmas.Bool.Decides.{nat_tests}
use Rattle.corner_names.specs.Names.{Cell}
use Rattle.corner_names.specs.Cells.{Corners, vertex, mid, face_start, face_end, is_on}
use Rattle.corner_names.specs.Forest.{IsHalfAt, MeetAt}
use Rattle.corner_names.proofs.Active.{or_true, or_left, or_right}
use Rattle.mesh_visits.specs.Meeting.{same_pair}
use Rattle.mesh_visits.proofs.Meets.{and_true, and_by, pair_true, pair_by}
use Rattle.hanging_refine.specs.Coarse.{corner_at}
use Rattle.hanging_refine.specs.Refined.{RefinedMesh, cell_at}
use Rattle.hanging_refine.specs.Refinement.{level_of, IsClosedUnder, IsStepSet}
use Rattle.system_laws.proofs.Search.{some_below, some_from, some_to, above, above_each}
use Rattle.system_laws.proofs.Closures.{reached, reached_asked, reached_closed, reached_least}

equal_true : (a b : ℕ) → (a == b) ≡ true → a ≡ b
equal_true a b e = grind (arith, nat_tests)

equal_by : (a b : ℕ) → a ≡ b → (a == b) ≡ true
equal_by a b e = grind (arith, nat_tests)

less_true : (a b : ℕ) → nat_lt a b ≡ true → a < b
less_true a b e = grind (arith, nat_tests)

less_by : (a b : ℕ) → a < b → nat_lt a b ≡ true
less_by a b h = grind (arith, nat_tests)

on_less : (v h : ℕ) → is_on v h ≡ true → v < 4
on_less v h e = grind (arith, nat_tests)

-- whether a face is a half of another, as a test
is_half_at : Corners → Cell → ℕ → Cell → ℕ → ℕ → Bool
is_half_at m x f y h v = is_on v h && same_pair (vertex m x (face_start f)) (vertex m x (face_end f)) (vertex m y v) (mid m y h)

half_true : (m : Corners) (x : Cell) (f : ℕ) (y : Cell) (h : ℕ) → some_below (is_half_at m x f y h) 4 ≡ true → (v : ℕ) × IsHalfAt m x f y h v
unfolding is_half_at
half_true m x f y h e =
    let t = some_from (is_half_at m x f y h) 4 e in
    let p = and_true (is_on t.0 h) (same_pair (vertex m x (face_start f)) (vertex m x (face_end f)) (vertex m y t.0) (mid m y h)) t.1.1 in (t.0, (p.0, pair_true _ _ _ _ p.1))

half_by : (m : Corners) (x : Cell) (f : ℕ) (y : Cell) (h v : ℕ) → IsHalfAt m x f y h v → some_below (is_half_at m x f y h) 4 ≡ true
unfolding is_half_at
half_by m x f y h v w = some_to (is_half_at m x f y h) 4 v (on_less v h w.0) (and_by _ _ w.0 (pair_by _ _ _ _ w.1))

-- whether two faces meet, as a test
meet : Corners → Cell → ℕ → Cell → ℕ → Bool
meet m x f y h =
    same_pair (vertex m x (face_start f)) (vertex m x (face_end f)) (vertex m y (face_start h)) (vertex m y (face_end h)) || (some_below (is_half_at m x f y h) 4 || some_below (is_half_at m y h x f) 4)

meet_true : (m : Corners) (x : Cell) (f : ℕ) (y : Cell) (h : ℕ) → meet m x f y h ≡ true → MeetAt m x f y h
unfolding meet
meet_true m x f y h e =
    let same : Bool = same_pair (vertex m x (face_start f)) (vertex m x (face_end f)) (vertex m y (face_start h)) (vertex m y (face_end h)) in
    let up : Bool = some_below (is_half_at m x f y h) 4 in let down : Bool = some_below (is_half_at m y h x f) 4 in
    ⊎_elim (λ (a : same ≡ true). inl (pair_true _ _ _ _ a))
    (λ (a : (up || down) ≡ true). ⊎_elim (λ (b : up ≡ true). inr (inl (half_true m x f y h b))) (λ (b : down ≡ true). inr (inr (half_true m y h x f b))) (or_true up down a)) (or_true same (up || down) e)

meet_by : (m : Corners) (x : Cell) (f : ℕ) (y : Cell) (h : ℕ) → MeetAt m x f y h → meet m x f y h ≡ true
unfolding meet
meet_by m x f y h (inl e) = or_left _ _ (pair_by _ _ _ _ e)
meet_by m x f y h (inr (inl w)) = or_right _ _ (or_left _ _ (half_by m x f y h w.0 w.1))
meet_by m x f y h (inr (inr w)) = or_right _ _ (or_right _ _ (half_by m y h x f w.0 w.1))

-- cell z meets cell i from one level below
leads : RefinedMesh → ℕ → ℕ → Bool
leads forest i z = (level_of forest z + 1 == level_of forest i) && some_below (λ f. some_below (λ e. meet (corner_at forest.mesh) (cell_at forest i) f (cell_at forest z) e) 4) 4

leads_level : (forest : RefinedMesh) (i z : ℕ) → leads forest i z ≡ true → level_of forest z + 1 ≡ level_of forest i
unfolding leads
leads_level forest i z h = equal_true _ _ (and_true _ _ h).0

leads_by : (forest : RefinedMesh) (i z f e : ℕ) → f < 4 → e < 4 → level_of forest z + 1 ≡ level_of forest i → MeetAt (corner_at forest.mesh) (cell_at forest i) f (cell_at forest z) e → leads forest i z ≡ true
unfolding leads
leads_by forest i z f e a b l w =
    let inner : ℕ → ℕ → Bool = λ g d. meet (corner_at forest.mesh) (cell_at forest i) g (cell_at forest z) d in
    and_by _ _ (equal_by _ _ l) (some_to (λ g. some_below (inner g) 4) 4 f a (some_to (inner f) 4 e b (meet_by _ _ f _ e w)))

-- a set that is closed has what its cells lead to
led : (forest : RefinedMesh) (set : ℕ → Bool) → IsClosedUnder forest set → (i z : ℕ) → i < length forest.cells → z < length forest.cells → set i ≡ true → leads forest i z ≡ true → set z ≡ true
unfolding leads
led forest set closed i z hi hz s h =
    let inner : ℕ → ℕ → Bool = λ g d. meet (corner_at forest.mesh) (cell_at forest i) g (cell_at forest z) d in
    let p = and_true (level_of forest z + 1 == level_of forest i) (some_below (λ g. some_below (inner g) 4) 4) h in
    let t = some_from (λ g. some_below (inner g) 4) 4 p.1 in
    let u = some_from (inner t.0) 4 t.1.1 in
    closed i z t.0 u.0 hi hz t.1.0 u.1.0 s (equal_true _ _ p.0) (meet_true _ _ t.0 _ u.0 u.1.1)

is_asked : List ℕ → ℕ → Bool
is_asked asked i = some_below (λ k. slice_index asked k == i) (length asked)

-- the cells that the asked ones lead to
pub least_set : RefinedMesh → List ℕ → ℕ → Bool
least_set forest asked i = nat_lt i (length forest.cells) && reached (is_asked asked) (leads forest) (length forest.cells) (above (level_of forest) (length forest.cells)) i

-- they are the least set of the step
pub is_least : (forest : RefinedMesh) (asked : List ℕ) → ((k : ℕ) → k < length asked → slice_index asked k < length forest.cells) → IsStepSet forest asked (least_set forest asked)
unfolding least_set is_asked
is_least forest asked inside =
    let n : ℕ = length forest.cells in let top : ℕ = above (level_of forest) n in
    let has : ℕ → Bool = is_asked asked in let up : ℕ → ℕ → Bool = leads forest in
    record {
      within = λ i h. less_true i n (and_true (nat_lt i n) (reached has up n top i) h).0;
      has_asked = λ k h. and_by _ _ (less_by _ _ (inside k h))
          (reached_asked has up n top (slice_index asked k) (some_to (λ j. slice_index asked j == slice_index asked k) (length asked) k h (equal_by _ _ refl)));
      closed = λ i z f e hi hz a b s l w. and_by _ _ (less_by _ _ hz)
          (reached_closed has up n (level_of forest) top (λ y hy. above_each (level_of forest) n y hy) (λ y x u. leads_level forest y x u) i z hi (and_true (nat_lt i n) (reached has up n top i) s).1 (leads_by forest i z f e a b l w));
      least = λ other asked_too closed i s.
          let p = and_true (nat_lt i n) (reached has up n top i) s in
          reached_least has other up n
          (λ j h. let t = some_from (λ k. slice_index asked k == j) (length asked) h in ap other (sym (equal_true _ _ t.1.1)) ∙ asked_too t.0 t.1.0)
          (λ y x hy hx o u. led forest other closed y x hy hx o u) top i (less_true i n p.0) p.1;
    }
