-- A step, where its parts are seen through slices that equal them.
use Rattle.std.proofs.Common.{◌≡◌, ◌∙◌, sym, ap, ap₂, refl, subst, ℕ, ◌<◌, ◌≤◌, ◌⊎◌, ⊎_elim, Bool, true, List, length, All, arith, slice_index}
use Rattle.std.specs.Prelude.{◌^◌}
use Rattle.std.proofs.lemmas.Grind.{common_steps}
use Rattle.quad_mesh.specs.Mesh.{CoarseMesh}
use Rattle.corner_names.specs.Names.{Cell}
use Rattle.corner_names.specs.Table.{AreOneEach, IsMore}
use Rattle.hanging_refine.specs.declared.fault.RefineFault.{RefineFault}
use Rattle.hanging_refine.specs.declared.stored.StoredCell.{StoredCell}
use Rattle.hanging_refine.specs.declared.sides.ActiveSide.{ActiveSide}
use Rattle.hanging_refine.specs.Refined.{RefinedMesh, cell_in}
use Rattle.hanging_refine.specs.Stored.{IsStored, IsSound, stored_names, HoldsSide, side_in}
use Rattle.hanging_refine.specs.Step.{IsDivisible, IsStep, is_marked, stored_at, place_below, refined_below}
use Rattle.hanging_refine.specs.Turns.{AreTables}
use Rattle.hanging_refine.specs.Closure.{Falls, IsChosen}
use Rattle.hanging_refine.specs.Fitness.{IsFine, IsUnfit}
use Rattle.hanging_refine.specs.Refinement.{IsRefinedBy, IsRefusal}
use Rattle.hanging_refine.proofs.Accessors.{refined_mesh, keeps_numbers}
use Rattle.hanging_refine.proofs.Counting.{place_small}
use Rattle.hanging_refine.proofs.Levels.{falls}
use Rattle.hanging_refine.proofs.Named.{refined_by_step, refusal_named}
use Rattle.hanging_refine.proofs.Whole.{next_names, marked_divisible, step_of, sound_next}

pub falls_at : (mesh : CoarseMesh) (cells c : List StoredCell) (sides s : List (List ActiveSide)) (pairs : List (ℕ × ℕ)) → IsSound mesh cells sides pairs → c ≡ cells → s ≡ sides → Falls s c (length c)
falls_at mesh cells c sides s pairs w e f =
    let P : List StoredCell → Type 0 = λ x. Falls sides x (length x) in let Q : List (List ActiveSide) → Type 0 = λ x. Falls x c (length c) in
    subst Q (sym f) (subst P (sym e) (falls mesh cells sides pairs w))

-- the set and the check, of the cells and the marks themselves
pub record Taken (mesh : CoarseMesh) (cells : List StoredCell) (sides : List (List ActiveSide)) (pairs : List (ℕ × ℕ)) (marks : List Bool) (asked : List ℕ) (count : ℕ) : Type 0 where
  pub sound : IsSound mesh cells sides pairs
  pub length_is : length marks ≡ length cells
  pub chosen : IsChosen sides (length cells) asked marks
  pub fine : IsFine cells marks count

pub chosen_at : (cells c : List StoredCell) (sides s : List (List ActiveSide)) (marks : List Bool) (asked : List ℕ) → c ≡ cells → s ≡ sides → IsChosen s (length c) asked marks → IsChosen sides (length cells) asked marks
chosen_at cells c sides s marks asked e f h =
    let P : List StoredCell → Type 0 = λ x. IsChosen sides (length x) asked marks in let Q : List (List ActiveSide) → Type 0 = λ x. IsChosen x (length c) asked marks in
    subst P e (subst Q f h)

pub taken : (mesh : CoarseMesh) (cells c d : List StoredCell) (sides s : List (List ActiveSide)) (pairs : List (ℕ × ℕ)) (marks m : List Bool) (asked : List ℕ) (count : ℕ) → IsSound mesh cells sides pairs → c ≡ cells → s ≡ sides → d ≡ cells → m ≡ marks →
    length marks ≡ length c → IsChosen s (length c) asked marks → IsFine d m count → Taken mesh cells sides pairs marks asked count
taken mesh cells c d sides s pairs marks m asked count w e f g h len ch fine =
    let P : List StoredCell → Type 0 = λ x. IsFine x marks count in let Q : List Bool → Type 0 = λ x. IsFine d x count in
    record { sound = w; length_is = len ∙ ap length e; chosen = chosen_at cells c sides s marks asked e f ch; fine = subst P g (subst Q h fine) }

pub divisible_at : (mesh : CoarseMesh) (cells c : List StoredCell) (sides : List (List ActiveSide)) (pairs : List (ℕ × ℕ)) (marks m : List Bool) (asked : List ℕ) (count : ℕ) → Taken mesh cells sides pairs marks asked count → c ≡ cells → m ≡ marks →
    (i : ℕ) → is_marked m i ≡ true → IsDivisible pairs (stored_at c i)
divisible_at mesh cells c sides pairs marks m asked count t e f i h =
    let P : List StoredCell → Type 0 = λ x. IsDivisible pairs (stored_at x i) in
    subst P (sym e) (marked_divisible mesh cells sides pairs marks t.sound t.length_is t.fine.low i (ap (λ x. is_marked x i) (sym f) ∙ h))

past_zero : (places : List ℕ) (i : ℕ) → length places ≤ i → slice_index places i ≡ 0
past_zero places i h = grind (arith, common_steps)

lt_or : (i n : ℕ) → (i < n) ⊎ (n ≤ i)
lt_or i n = grind arith

pub tables_at : (cells c : List StoredCell) (marks seen m : List Bool) (places p : List ℕ) → c ≡ cells → m ≡ marks → p ≡ places → seen ≡ marks → length marks ≡ length cells → length cells ≤ 2 ^ 20 → length places ≡ length seen →
    ((i : ℕ) → i < length seen → slice_index places i ≡ place_below (is_marked seen) i) → AreTables c m p
tables_at cells c marks seen m places p e f g k lm few lp at =
    let lc : length c ≡ length cells = ap length e in let lmm : length m ≡ length marks = ap length f in let lpp : length p ≡ length places = ap length g in let ls : length seen ≡ length marks = ap length k in
    record {
      marks_length = omega arith;
      places_length = omega arith;
      small = λ i. (let P : List ℕ → Type 0 = λ x. slice_index x i ≤ 2 ^ 22 in subst P (sym g) (⊎_elim
          (λ (l : i < length seen). let a = at i l in let b = place_small (is_marked seen) i in omega arith)
          (λ (l : length seen ≤ i). let a = past_zero places i (omega arith) in omega arith) (lt_or i (length seen))));
    }

-- what the parts of a step made
pub record Built (mesh : CoarseMesh) (cells next : List StoredCell) (sides rows : List (List ActiveSide)) (pairs now : List (ℕ × ℕ)) (marks : List Bool) (places : List ℕ) : Type 0 where
  pub names : stored_names next ≡ next_names marks cells
  pub stored : All (IsStored mesh now) next
  pub one : AreOneEach now
  pub places_are : (i : ℕ) → i < length cells → slice_index places i ≡ place_below (is_marked marks) i
  pub rows_length : length rows ≡ place_below (is_marked marks) (length cells)
  pub held : (other : List Cell) → IsStep mesh pairs cells sides marks places other → (i f : ℕ) → i < length rows → f < 4 → HoldsSide mesh other (cell_in other i) f (side_in rows i f)

pub built : (mesh : CoarseMesh) (cells c6 c8 next : List StoredCell) (sides s9 rows : List (List ActiveSide)) (pairs now : List (ℕ × ℕ)) (marks m5 m7 m10 : List Bool) (places p11 : List ℕ) → All (IsStored mesh pairs) cells →
    length marks ≡ length cells → c6 ≡ cells → c8 ≡ cells → s9 ≡ sides → m5 ≡ marks → m7 ≡ marks → m10 ≡ marks → p11 ≡ places →
    stored_names next ≡ refined_below (is_marked m7) (stored_names c6) (length c6) → ((k : CoarseMesh) → All (IsStored k pairs) c6 → All (IsStored k now) next) → AreOneEach now →
    ((i : ℕ) → i < length m5 → slice_index places i ≡ place_below (is_marked m5) i) → length rows ≡ place_below (is_marked m10) (length c8) →
    ((k : CoarseMesh) (q : List (ℕ × ℕ)) (other : List Cell) → IsStep k q c8 s9 m10 p11 other → (i f : ℕ) → i < length rows → f < 4 → HoldsSide k other (cell_in other i) f (side_in rows i f)) →
    Built mesh cells next sides rows pairs now marks places
unfolding next_names
built mesh cells c6 c8 next sides s9 rows pairs now marks m5 m7 m10 places p11 all lm e6 e8 e9 f5 f7 f10 g11 names stored one at lr held =
    let A : List StoredCell → Type 0 = λ x. All (IsStored mesh pairs) x in
    let W : List Bool → Type 0 = λ x. (i : ℕ) → i < length x → slice_index places i ≡ place_below (is_marked x) i in
    let at' : W marks = subst W f5 at in
    let S1 : List StoredCell → Type 0 = λ x. (other : List Cell) → IsStep mesh pairs x sides marks places other → (i f : ℕ) → i < length rows → f < 4 → HoldsSide mesh other (cell_in other i) f (side_in rows i f) in
    let S2 : List (List ActiveSide) → Type 0 = λ x. (other : List Cell) → IsStep mesh pairs c8 x marks places other → (i f : ℕ) → i < length rows → f < 4 → HoldsSide mesh other (cell_in other i) f (side_in rows i f) in
    let S3 : List Bool → Type 0 = λ x. (other : List Cell) → IsStep mesh pairs c8 s9 x places other → (i f : ℕ) → i < length rows → f < 4 → HoldsSide mesh other (cell_in other i) f (side_in rows i f) in
    let S4 : List ℕ → Type 0 = λ x. (other : List Cell) → IsStep mesh pairs c8 s9 m10 x other → (i f : ℕ) → i < length rows → f < 4 → HoldsSide mesh other (cell_in other i) f (side_in rows i f) in
    record {
      names = names ∙ ap₂ (λ (x : List Bool) (y : List StoredCell). refined_below (is_marked x) (stored_names y) (length y)) f7 e6;
      stored = stored mesh (subst A (sym e6) all);
      one = one;
      places_are = λ i h. at' i (omega arith);
      rows_length = lr ∙ ap₂ (λ (x : List Bool) (y : List StoredCell). place_below (is_marked x) (length y)) f10 e8;
      held = subst S1 e8 (subst S2 e9 (subst S3 f10 (subst S4 g11 (held mesh pairs))));
    }

pub sound_at : (mesh : CoarseMesh) (cells next : List StoredCell) (sides rows : List (List ActiveSide)) (pairs now : List (ℕ × ℕ)) (marks : List Bool) (places asked : List ℕ) (count : ℕ) → Taken mesh cells sides pairs marks asked count →
    Built mesh cells next sides rows pairs now marks places → IsSound mesh next rows now
sound_at mesh cells next sides rows pairs now marks places asked count t b =
    sound_next mesh cells next sides rows pairs now marks asked count t.sound t.length_is t.chosen t.fine b.names b.stored b.one b.rows_length
    (b.held (next_names marks cells) (step_of mesh cells sides pairs marks places asked t.sound t.chosen b.places_are))

pub refined_at : (mesh : CoarseMesh) (cells next : List StoredCell) (sides rows : List (List ActiveSide)) (pairs now : List (ℕ × ℕ)) (marks : List Bool) (places asked : List ℕ) (count : ℕ) (old : RefinedMesh) → Taken mesh cells sides pairs marks asked count →
    Built mesh cells next sides rows pairs now marks places → IsMore pairs now → refined_mesh mesh cells ≡ old → IsRefinedBy old asked (refined_mesh mesh next) count
refined_at mesh cells next sides rows pairs now marks places asked count old t b m e =
    refined_by_step mesh cells next sides pairs marks asked count old (refined_mesh mesh next) t.sound t.length_is t.chosen t.fine b.names
    (keeps_numbers mesh cells next sides rows pairs now t.sound (sound_at mesh cells next sides rows pairs now marks places asked count t b) m) e refl

pub unfit_at : (mesh : CoarseMesh) (cells c d : List StoredCell) (sides s : List (List ActiveSide)) (pairs : List (ℕ × ℕ)) (marks m : List Bool) (asked : List ℕ) (old : RefinedMesh) (fault : RefineFault) → IsSound mesh cells sides pairs → c ≡ cells → s ≡ sides → d ≡ cells → m ≡ marks →
    length marks ≡ length c → IsChosen s (length c) asked marks → refined_mesh mesh cells ≡ old → IsUnfit d m fault → IsRefusal old asked fault
unfit_at mesh cells c d sides s pairs marks m asked old fault w e f g h len ch eo u =
    let P : List StoredCell → Type 0 = λ x. IsUnfit x marks fault in let Q : List Bool → Type 0 = λ x. IsUnfit d x fault in
    refusal_named mesh cells sides pairs marks asked old w (len ∙ ap length e) (chosen_at cells c sides s marks asked e f ch) eo fault (subst P g (subst Q h u))
