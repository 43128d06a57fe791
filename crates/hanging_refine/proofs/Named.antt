-- The set and the refusals of a step, by the names of corners.
use Rattle.std.proofs.Common.{◌≡◌, ◌∙◌, sym, ap, ap₂, refl, subst, ℕ, zero, suc, ◌+◌, ◌*◌, ◌<◌, ◌≤◌, Bool, List, [], length, map, take, arith, slice_index, add-one}
use Rattle.std.specs.Prelude.{◌^◌, ◌&&◌, ◌==◌, Some, None, if◌then◌else◌}
use Rattle.std.specs.declared.option.Option.{Option}
use Rattle.std.specs.Option.{option_or}
use Rattle.std.proofs.lemmas.Grind.{common_steps}
use Rattle.quad_mesh.specs.Mesh.{CoarseMesh}
use Rattle.corner_names.specs.Names.{Cell}
use Rattle.corner_names.specs.Forest.{MeetAt}
use Rattle.hanging_refine.specs.declared.fault.RefineFault.{RefineFault}
use Rattle.hanging_refine.specs.declared.fault.RefineFault.TheVariants.{NoSuchCell, Level, Limit, Flat, NoMemory}
use Rattle.hanging_refine.specs.declared.stored.StoredCell.{StoredCell}
use Rattle.hanging_refine.specs.declared.sides.ActiveSide.{ActiveSide}
use Rattle.hanging_refine.specs.Coarse.{corner_at}
use Rattle.hanging_refine.specs.Refined.{ActiveCell, RefinedMesh, cell_in, cell_at}
use Rattle.hanging_refine.specs.Points.{cell_points, has_flat_child}
use Rattle.hanging_refine.specs.Stored.{shown, IsStored, IsSound, stored_names, side_in}
use Rattle.hanging_refine.specs.Step.{is_marked, is_deep, is_bad, stored_at, first_where, count_below, refined_below}
use Rattle.hanging_refine.specs.Closure.{level_in, IsChosen, IsFirstPast}
use Rattle.hanging_refine.specs.Fitness.{IsFine, IsUnfit}
use Rattle.hanging_refine.specs.Refinement.{level_of, IsStepSet, is_lowest, has_flat, next_count, KeepsNumbers, IsRefinedBy, IsRefusal}
use Rattle.hanging_refine.proofs.Counting.{first_next, first_zero}
use Rattle.hanging_refine.proofs.Lists.{map_length, map_in, name_in, names_shown}
use Rattle.hanging_refine.proofs.Levels.{coarser_half, coarser_side, larger_is, up_within}
use Rattle.hanging_refine.proofs.Accessors.{refined_mesh, cell_named}
use Rattle.hanging_refine.proofs.Whole.{next_names}
use Rattle.hanging_refine.proofs.Sweeps.{marked_within}

length_taken : (path : List ℕ) (n : ℕ) → n ≤ length path → length (take n path) ≡ n
length_taken path n h = grind (arith, common_steps)

pub level_shown : (mesh : CoarseMesh) (cells : List StoredCell) (sides : List (List ActiveSide)) (pairs : List (ℕ × ℕ)) → IsSound mesh cells sides pairs → (i : ℕ) → i < length cells → level_of (refined_mesh mesh cells) i ≡ level_in cells i
level_shown mesh cells sides pairs s i h =
    let d : StoredCell = record { coarse = 0; level = 0; path = []; corners = []; points = [] } in
    let t : IsStored mesh pairs (stored_at cells i) = s.stored i d h in
    let low : (stored_at cells i).level ≤ 12 = t.low in let room : length (stored_at cells i).path ≡ 12 = t.room in
    ap (λ (a : ActiveCell). length a.path) (map_in shown cells i d (record { coarse = 0; path = []; corners = [] }) h) ∙ length_taken (stored_at cells i).path (stored_at cells i).level (omega arith)

pub set_named : (mesh : CoarseMesh) (cells : List StoredCell) (sides : List (List ActiveSide)) (pairs : List (ℕ × ℕ)) (marks : List Bool) (asked : List ℕ) → IsSound mesh cells sides pairs → length marks ≡ length cells → IsChosen sides (length cells) asked marks →
    IsStepSet (refined_mesh mesh cells) asked (is_marked marks)
set_named mesh cells sides pairs marks asked s lm ch =
    let forest : RefinedMesh = refined_mesh mesh cells in
    let len : length (map shown cells) ≡ length cells = map_length shown cells in
    let met : (i z f e : ℕ) → MeetAt (corner_at mesh) (cell_at forest i) f (cell_at forest z) e → MeetAt (corner_at mesh) (cell_in (stored_names cells) i) f (cell_in (stored_names cells) z) e = λ i z f e h.
    (let P : List Cell → Type 0 = λ xs. MeetAt (corner_at mesh) (cell_in xs i) f (cell_in xs z) e in subst P (names_shown cells) h) in
    let meet : (i z f e : ℕ) → MeetAt (corner_at mesh) (cell_in (stored_names cells) i) f (cell_in (stored_names cells) z) e → MeetAt (corner_at mesh) (cell_at forest i) f (cell_at forest z) e = λ i z f e h.
    (let P : List Cell → Type 0 = λ xs. MeetAt (corner_at mesh) (cell_in xs i) f (cell_in xs z) e in subst P (sym (names_shown cells)) h) in
    record {
      within = λ i m. (let k = marked_within marks i m in omega arith);
      has_asked = ch.has_asked;
      closed = λ i z f e hi hz a b m lower h.
          let hi' : i < length cells = omega arith in let hz' : z < length cells = omega arith in
          let l : level_in cells z + 1 ≡ level_in cells i = ap (λ k. k + 1) (sym (level_shown mesh cells sides pairs s z hz')) ∙ lower ∙ level_shown mesh cells sides pairs s i hi' in
          ch.closed i z m (record { face = f; is_face = a; there = coarser_side mesh cells sides pairs s i f z e hi' hz' a b l (met i z f e h); is_cell = hz' });
      least = λ other has closed. ch.least other has (λ x y o u.
          let hx : x < length sides = up_within sides (length cells) x y u in
          let rows : length sides ≡ length cells = s.rows in
          let hx' : x < length cells = omega arith in
          let t = larger_is (side_in sides x u.face) y u.there in
          let c = coarser_half mesh cells sides pairs s x u.face y t.0 t.1.0 hx' u.is_face t.1.1 in
          let l : level_of forest y + 1 ≡ level_of forest x = ap (λ k. k + 1) (level_shown mesh cells sides pairs s y c.0) ∙ c.2 ∙ sym (level_shown mesh cells sides pairs s x hx') in
          closed x y u.face t.0 (omega arith) (omega (arith, c.0)) u.is_face c.1 o l (meet x y u.face t.0 c.3));
    }

first_same : (f g : ℕ → Bool) (n : ℕ) → ((i : ℕ) → i < n → f i ≡ g i) → first_where f n ≡ first_where g n
first_same f g zero h = first_zero f ∙ sym (first_zero g)
first_same f g (suc n) h =
    let s : n + 1 ≡ suc n = add-one n in
    ap (first_where f) (sym s) ∙ first_next f n ∙ ap₂ (λ (o : Option ℕ) (b : Bool). option_or o (if b then Some n else None)) (first_same f g n (λ i l. h i (omega arith))) (h n (omega arith)) ∙ sym (first_next g n) ∙ ap (first_where g) s

lowest_is : (mesh : CoarseMesh) (cells : List StoredCell) (sides : List (List ActiveSide)) (pairs : List (ℕ × ℕ)) (marks : List Bool) → IsSound mesh cells sides pairs →
    first_where (is_lowest (refined_mesh mesh cells) (is_marked marks)) (length (map shown cells)) ≡ first_where (is_deep cells marks) (length cells)
lowest_is mesh cells sides pairs marks s =
    ap (first_where (is_lowest (refined_mesh mesh cells) (is_marked marks))) (map_length shown cells)
    ∙ first_same (is_lowest (refined_mesh mesh cells) (is_marked marks)) (is_deep cells marks) (length cells) (λ i h. ap (λ l. is_marked marks i && l == 12) (level_shown mesh cells sides pairs s i h))

flat_is : (mesh : CoarseMesh) (cells : List StoredCell) (sides : List (List ActiveSide)) (pairs : List (ℕ × ℕ)) (marks : List Bool) → IsSound mesh cells sides pairs →
    first_where (has_flat (refined_mesh mesh cells) (is_marked marks)) (length (map shown cells)) ≡ first_where (is_bad cells marks) (length cells)
flat_is mesh cells sides pairs marks s =
    let d : StoredCell = record { coarse = 0; level = 0; path = []; corners = []; points = [] } in
    ap (first_where (has_flat (refined_mesh mesh cells) (is_marked marks))) (map_length shown cells)
    ∙ first_same (has_flat (refined_mesh mesh cells) (is_marked marks)) (is_bad cells marks) (length cells) (λ i h.
    ap (λ ps. is_marked marks i && has_flat_child ps) (ap (cell_points mesh) (cell_named mesh cells i ∙ name_in cells i d h) ∙ sym (s.stored i d h).points))

count_is : (mesh : CoarseMesh) (cells : List StoredCell) (marks : List Bool) → next_count (refined_mesh mesh cells) (is_marked marks) ≡ length cells + 3 * count_below (is_marked marks) (length cells)
count_is mesh cells marks = ap (λ n. n + 3 * count_below (is_marked marks) n) (map_length shown cells)

pub refined_by_step : (mesh : CoarseMesh) (cells next : List StoredCell) (sides : List (List ActiveSide)) (pairs : List (ℕ × ℕ)) (marks : List Bool) (asked : List ℕ) (count : ℕ) (old new : RefinedMesh) → IsSound mesh cells sides pairs → length marks ≡ length cells →
    IsChosen sides (length cells) asked marks → IsFine cells marks count → stored_names next ≡ next_names marks cells → KeepsNumbers (refined_mesh mesh cells) (refined_mesh mesh next) →
    refined_mesh mesh cells ≡ old → refined_mesh mesh next ≡ new → IsRefinedBy old asked new count
unfolding next_names
refined_by_step mesh cells next sides pairs marks asked count old new s lm ch fine names numbers eo en =
    let len : length (map shown cells) ≡ length cells = map_length shown cells in
    let t : IsRefinedBy (refined_mesh mesh cells) asked (refined_mesh mesh next) count = record {
      set = is_marked marks;
      is_set = set_named mesh cells sides pairs marks asked s lm ch;
      low = lowest_is mesh cells sides pairs marks s ∙ fine.low;
      few = (let a = count_is mesh cells marks in let b : length cells + 3 * count ≤ 2 ^ 20 = fine.few in let e : count ≡ count_below (is_marked marks) (length cells) = fine.counted in omega arith);
      round = flat_is mesh cells sides pairs marks s ∙ fine.round;
      counted = fine.counted ∙ ap (count_below (is_marked marks)) (sym len);
      mesh = refl;
      cells = names_shown next ∙ names ∙ ap₂ (λ (xs : List Cell) (n : ℕ). refined_below (is_marked marks) xs n) (sym (names_shown cells)) (sym len);
      numbers = numbers;
    } in
    let P : RefinedMesh → Type 0 = λ o. IsRefinedBy o asked (refined_mesh mesh next) count in
    let Q : RefinedMesh → Type 0 = λ w. IsRefinedBy old asked w count in
    subst Q en (subst P eo t)

pub refusal_named : (mesh : CoarseMesh) (cells : List StoredCell) (sides : List (List ActiveSide)) (pairs : List (ℕ × ℕ)) (marks : List Bool) (asked : List ℕ) (old : RefinedMesh) → IsSound mesh cells sides pairs → length marks ≡ length cells →
    IsChosen sides (length cells) asked marks → refined_mesh mesh cells ≡ old → (fault : RefineFault) → IsUnfit cells marks fault → IsRefusal old asked fault
refusal_named mesh cells sides pairs marks asked old s lm ch eo fault h =
    let P : RefinedMesh → Type 0 = λ o. IsRefusal o asked fault in subst P eo (by mesh cells sides pairs marks asked s lm ch fault h)
  where
    by : (mesh : CoarseMesh) (cells : List StoredCell) (sides : List (List ActiveSide)) (pairs : List (ℕ × ℕ)) (marks : List Bool) (asked : List ℕ) → IsSound mesh cells sides pairs → length marks ≡ length cells →
        IsChosen sides (length cells) asked marks → (fault : RefineFault) → IsUnfit cells marks fault → IsRefusal (refined_mesh mesh cells) asked fault
    by mesh cells sides pairs marks asked s lm ch (NoSuchCell c) h = absurd h
    by mesh cells sides pairs marks asked s lm ch (Level c) h = (is_marked marks, (set_named mesh cells sides pairs marks asked s lm ch, lowest_is mesh cells sides pairs marks s ∙ h))
    by mesh cells sides pairs marks asked s lm ch Limit h =
        (is_marked marks, (set_named mesh cells sides pairs marks asked s lm ch, (lowest_is mesh cells sides pairs marks s ∙ h.0, (let a = count_is mesh cells marks in omega (arith, h.1)))))
    by mesh cells sides pairs marks asked s lm ch (Flat c) h =
        (is_marked marks, (set_named mesh cells sides pairs marks asked s lm ch, (lowest_is mesh cells sides pairs marks s ∙ h.0, ((let a = count_is mesh cells marks in omega (arith, h.1)), flat_is mesh cells sides pairs marks s ∙ h.2))))
    by mesh cells sides pairs marks asked s lm ch NoMemory h = absurd h

pub past_named : (mesh : CoarseMesh) (cells : List StoredCell) (asked : List ℕ) (old : RefinedMesh) → refined_mesh mesh cells ≡ old → (fault : RefineFault) → IsFirstPast asked (length cells) fault → IsRefusal old asked fault
past_named mesh cells asked old eo fault h =
    let len : length cells ≡ length old.cells = sym (map_length shown cells) ∙ ap (λ (o : RefinedMesh). length o.cells) eo in
    let P : RefineFault → Type 0 = λ x. IsRefusal old asked x in
    let c : ℕ = slice_index asked h.0 in
    subst P (sym h.1.2) (h.0, (h.1.0, (let k = h.1.1 in omega arith), refl, λ j l. (let k = h.1.3 j l in omega arith)))
