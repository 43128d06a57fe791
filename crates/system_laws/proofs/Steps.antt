-- Steps of refinement have one outcome, up to the numbers of corners.
use Rattle.std.proofs.Common.{◌≡◌, ◌∙◌, sym, ap, ap₂, refl, subst, ℕ, ◌+◌, ◌*◌, ◌<◌, ◌≤◌, ⊎_elim, Bool, true, false, List, [], ◌∷◌, length, slice_index, Ok, Err, arith}
use Rattle.std.specs.Prelude.{◌^◌, ◌==◌, ◌&&◌, nat_lt, Some, None}
use Rattle.std.specs.declared.option.Option.{Option}
use Rattle.std.proofs.Math.Path.{fun_ext}
use Rattle.std.proofs.lemmas.Bool.{cases_lt}
use Rattle.std.proofs.lemmas.Bool.Decides.{nat_tests}
use Rattle.corner_names.specs.Forest.{MeetAt}
use Rattle.hanging_refine.specs.declared.fault.RefineFault.{RefineFault}
use Rattle.hanging_refine.specs.declared.fault.RefineFault.TheVariants.{NoSuchCell, Level, Limit, Flat, NoMemory}
use Rattle.hanging_refine.specs.Coarse.{corner_at}
use Rattle.hanging_refine.specs.Refined.{RefinedMesh, active_cells, cell_in}
use Rattle.hanging_refine.specs.Points.{cell_points, has_flat_child}
use Rattle.hanging_refine.specs.Closure.{IsFirstPast}
use Rattle.hanging_refine.specs.Step.{refined_below, count_below, first_where}
use Rattle.hanging_refine.specs.Refinement.{IsClosedUnder, IsStepSet, is_lowest, has_flat, next_count, IsRefinedBy, IsRefusal}
use Rattle.constrained_mesh.specs.Steps.{Outcome, refused, refined, RefinesBy}
use Rattle.system_laws.specs.Same.{IsSameForest}
use Rattle.system_laws.proofs.Forests.{same_count, same_back, by_cells, carry, same_level}

same_bool : (p q : Bool) → (p ≡ true → q ≡ true) → (q ≡ true → p ≡ true) → p ≡ q
same_bool true q f g = sym (f refl)
same_bool false true f g = g refl
same_bool false false f g = refl

closed_same : (a b : RefinedMesh) → IsSameForest a b → (set : ℕ → Bool) → IsClosedUnder b set → IsClosedUnder a set
closed_same a b s set closed i z f e hi hz hf he t l meet =
    let n = same_count a b s in let li = same_level a b s i in let lz = same_level a b s z in
    closed i z f e (omega arith) (omega arith) hf he t (omega arith) (carry (λ m cs. MeetAt (corner_at m) (cell_in cs i) f (cell_in cs z) e) a b s meet)

set_in : (a b : RefinedMesh) → IsSameForest a b → (asked : List ℕ) (u v : ℕ → Bool) → IsStepSet a asked u → IsStepSet b asked v → (i : ℕ) → u i ≡ true → v i ≡ true
set_in a b s asked u v su sv i h = su.least v sv.has_asked (closed_same a b s v sv.closed) i h

-- the least set of a step is one set
same_set : (a b : RefinedMesh) → IsSameForest a b → (asked : List ℕ) (u v : ℕ → Bool) → IsStepSet a asked u → IsStepSet b asked v → u ≡ v
same_set a b s asked u v su sv = fun_ext (λ i. same_bool (u i) (v i) (set_in a b s asked u v su sv i) (set_in b a (same_back a b s) asked v u sv su i))

by_count : Bool → Option ℕ → Option RefineFault
by_count true flat = Some Limit
by_count false None = None
by_count false (Some cell) = Some (Flat cell)

fault_from : Option ℕ → ℕ → Option ℕ → Option RefineFault
fault_from (Some cell) count flat = Some (Level cell)
fault_from None count flat = by_count (nat_lt (2 ^ 20) count) flat

-- what stands against dividing the cells of a set, if anything
pub step_fault : RefinedMesh → (ℕ → Bool) → Option RefineFault
step_fault forest set = fault_from (first_where (is_lowest forest set) (length forest.cells)) (next_count forest set) (first_where (has_flat forest set) (length forest.cells))

same_step_fault : (a b : RefinedMesh) → IsSameForest a b → (set : ℕ → Bool) → step_fault a set ≡ step_fault b set
unfolding step_fault
same_step_fault a b s set =
    let F : (ℕ → Bool) → (ℕ → Bool) → ℕ → Option RefineFault = λ low flat n. fault_from (first_where low n) (n + 3 * count_below set n) (first_where flat n) in
    let low : is_lowest a set ≡ is_lowest b set = fun_ext (λ i. ap (λ l. set i && l == 12) (same_level a b s i)) in
    let flat : has_flat a set ≡ has_flat b set = by_cells (λ m cs i. set i && has_flat_child (cell_points m (cell_in cs i))) a b s in
    ap₂ (λ l f. F l f (length a.cells)) low flat ∙ ap (F (is_lowest b set) (has_flat b set)) (same_count a b s)

over : (count : ℕ) → 2 ^ 20 < count → nat_lt (2 ^ 20) count ≡ true
over count h = grind (arith, nat_tests)

not_over : (count : ℕ) → count ≤ 2 ^ 20 → nat_lt (2 ^ 20) count ≡ false
not_over count h = grind (arith, nat_tests)

level_fault : (low flat : Option ℕ) (count cell : ℕ) → low ≡ Some cell → fault_from low count flat ≡ Some (Level cell)
unfolding fault_from
level_fault low flat count cell e = ap (λ l. fault_from l count flat) e

limit_fault : (low flat : Option ℕ) (count : ℕ) → low ≡ None → 2 ^ 20 < count → fault_from low count flat ≡ Some Limit
unfolding fault_from by_count
limit_fault low flat count e h = ap (λ l. fault_from l count flat) e ∙ ap (λ b. by_count b flat) (over count h)

flat_fault : (low flat : Option ℕ) (count cell : ℕ) → low ≡ None → count ≤ 2 ^ 20 → flat ≡ Some cell → fault_from low count flat ≡ Some (Flat cell)
unfolding fault_from by_count
flat_fault low flat count cell e h f = ap (λ l. fault_from l count flat) e ∙ ap₂ by_count (not_over count h) f

no_fault : (low flat : Option ℕ) (count : ℕ) → low ≡ None → count ≤ 2 ^ 20 → flat ≡ None → fault_from low count flat ≡ None
unfolding fault_from by_count
no_fault low flat count e h f = ap (λ l. fault_from l count flat) e ∙ ap₂ by_count (not_over count h) f

-- why a step is refused: a number is no cell's, or something stands against dividing the least set
pub data Reason (forest : RefinedMesh) (asked : List ℕ) (fault : RefineFault) : Type 0 where
  past : IsFirstPast asked (length forest.cells) fault → Reason forest asked fault
  against : (set : ℕ → Bool) → IsStepSet forest asked set → step_fault forest set ≡ Some fault → Reason forest asked fault

reason : (forest : RefinedMesh) (asked : List ℕ) (fault : RefineFault) → IsRefusal forest asked fault → Reason forest asked fault
unfolding step_fault
reason forest asked (NoSuchCell cell) w = past w
reason forest asked (Level cell) w = against w.0 w.1.0 (level_fault _ _ _ cell w.1.1)
reason forest asked Limit w = against w.0 w.1.0 (limit_fault _ _ _ w.1.1.0 w.1.1.1)
reason forest asked (Flat cell) w = against w.0 w.1.0 (flat_fault _ _ _ cell w.1.1.0 w.1.1.1.0 w.1.1.1.1)
reason forest asked NoMemory w = absurd w

calm : (old : RefinedMesh) (asked : List ℕ) (new : RefinedMesh) (count : ℕ) (w : IsRefinedBy old asked new count) → step_fault old w.set ≡ None
unfolding step_fault
calm old asked new count w = no_fault _ _ _ w.low w.few w.round

same_first : (asked : List ℕ) (n : ℕ) (x y : RefineFault) → IsFirstPast asked n x → IsFirstPast asked n y → x ≡ y
same_first asked n x y w v =
    let early : (i j : ℕ) → n ≤ slice_index asked i → ((l : ℕ) → l < j → slice_index asked l < n) → j ≤ i =
    λ i j big small. ⊎_elim (λ (h : i < j). let t = small i h in absurd (omega arith)) (λ (h : j ≤ i). h) (cases_lt i j) in
    let e : w.0 ≡ v.0 = (let a = early w.0 v.0 w.1.1 v.1.3 in let b = early v.0 w.0 v.1.1 w.1.3 in omega arith) in
    w.1.2 ∙ ap (λ k. NoSuchCell (slice_index asked k)) e ∙ sym v.1.2

past_same : (a b : RefinedMesh) → IsSameForest a b → (asked : List ℕ) (fault : RefineFault) → IsFirstPast asked (length a.cells) fault → IsFirstPast asked (length b.cells) fault
past_same a b s asked fault w = let P : ℕ → Type 0 = λ n. IsFirstPast asked n fault in subst P (same_count a b s) w

none_past : (forest : RefinedMesh) (asked : List ℕ) (fault : RefineFault) (set : ℕ → Bool) → IsFirstPast asked (length forest.cells) fault → IsStepSet forest asked set → ⊥
none_past forest asked fault set w s = let t = s.within (slice_index asked w.0) (s.has_asked w.0 w.1.0) in let u = w.1.1 in omega arith

one_fault : (o : Option RefineFault) (x y : RefineFault) → o ≡ Some x → o ≡ Some y → x ≡ y
one_fault o x y e f = cc

same_reason : (a b : RefinedMesh) → IsSameForest a b → (asked : List ℕ) (x y : RefineFault) → Reason a asked x → Reason b asked y → x ≡ y
same_reason a b s asked x y (past w) (past v) = same_first asked (length b.cells) x y (past_same a b s asked x w) v
same_reason a b s asked x y (past w) (against v is f) = absurd (none_past b asked x v (past_same a b s asked x w) is)
same_reason a b s asked x y (against u is e) (past v) = absurd (none_past a asked y u (past_same b a (same_back a b s) asked y v) is)
same_reason a b s asked x y (against u iu e) (against v iv f) =
    one_fault (step_fault b v) x y (sym (ap (step_fault a) (same_set a b s asked u v iu iv) ∙ same_step_fault a b s v) ∙ e) f

not_both : (a b : RefinedMesh) → IsSameForest a b → (asked : List ℕ) (x : RefineFault) (new : RefinedMesh) (count : ℕ) → Reason a asked x → IsRefinedBy b asked new count → ⊥
not_both a b s asked x new count (past w) r = none_past b asked x r.set (past_same a b s asked x w) r.is_set
not_both a b s asked x new count (against u is e) r =
    let t : Some x ≡ None = sym e ∙ ap (step_fault a) (same_set a b s asked u r.set is r.is_set) ∙ same_step_fault a b s r.set ∙ calm b asked new count r in cc

same_refined : (a b : RefinedMesh) → IsSameForest a b → (asked : List ℕ) (c d : RefinedMesh) (m n : ℕ) → IsRefinedBy a asked c m → IsRefinedBy b asked d n → IsSameForest c d
same_refined a b s asked c d m n r q = record {
  mesh = r.mesh ∙ s.mesh ∙ sym q.mesh;
  cells = r.cells ∙ ap₂ (λ set cells. refined_below set cells (length a.cells)) (same_set a b s asked r.set q.set r.is_set q.is_set) s.cells
      ∙ ap (refined_below q.set (active_cells b)) (same_count a b s) ∙ sym q.cells;
}

-- two outcomes of steps: one fault, or refined meshes that are the same up to the numbers of corners
abbrev pub AreSame : Outcome → Outcome → Type 0
AreSame (Ok c) (Ok d) = IsSameForest c d
AreSame (Err x) (Err y) = x ≡ y
AreSame (Ok c) (Err y) = ⊥
AreSame (Err x) (Ok d) = ⊥

told : (x y p q : Outcome) → x ≡ p → y ≡ q → AreSame p q → AreSame x y
told x y p q e f s = (let P : Outcome → Type 0 = λ o. AreSame o y in let Q : Outcome → Type 0 = λ o. AreSame p o in subst P (sym e) (subst Q (sym f) s))

pub same_steps : (steps : List (List ℕ)) (a b : RefinedMesh) → IsSameForest a b → (x y : Outcome) → RefinesBy steps a x → RefinesBy steps b y → AreSame x y
same_steps [] a b s x y w v = told x y (Ok a) (Ok b) w v s
same_steps (asked ∷ steps) a b s x y (refused f is e) (refused g it h) = told x y (Err f) (Err g) e h (same_reason a b s asked f g (reason a asked f is) (reason b asked g it))
same_steps (asked ∷ steps) a b s x y (refused f is e) (refined d n q t) = absurd (not_both a b s asked f d n (reason a asked f is) q)
same_steps (asked ∷ steps) a b s x y (refined c m r w) (refused g it h) = absurd (not_both b a (same_back a b s) asked g c m (reason b asked g it) r)
same_steps (asked ∷ steps) a b s x y (refined c m r w) (refined d n q t) = same_steps steps c d (same_refined a b s asked c d m n r q) x y w t
