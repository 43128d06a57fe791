-- What the stored cells say of the refined mesh.
use Rattle.std.proofs.Common.{◌≡◌, ◌∙◌, sym, ap, subst, ℕ, zero, suc, ◌+◌, ◌<◌, List, [], ◌∷◌, length, map, take, arith, slice_index, slice_index_or}
use Rattle.quad_mesh.specs.Mesh.{CoarseMesh}
use Rattle.corner_names.specs.Names.{Cell, middle_of}
use Rattle.corner_names.specs.Cells.{Corners, vertex, mid, face_start, face_end}
use Rattle.corner_names.specs.Table.{first, name_of, IsMore}
use Rattle.corner_names.proofs.Keys.{node_name}
use Rattle.corner_names.proofs.Across.{mid_pair}
use Rattle.corner_names.proofs.Balance.{start_on, end_on}
use Rattle.corner_names.proofs.Cover.{mid_half}
use Rattle.corner_names.specs.Forest.{MeetAt}
use Rattle.hanging_refine.specs.declared.stored.StoredCell.{StoredCell}
use Rattle.hanging_refine.specs.declared.sides.ActiveSide.{ActiveSide}
use Rattle.hanging_refine.specs.declared.sides.ActiveSide.TheVariants.{Boundary, Equal, Coarser, Finer}
use Rattle.hanging_refine.specs.Coarse.{corner_at, on_boundary}
use Rattle.hanging_refine.specs.Refined.{ActiveCell, RefinedMesh, cell_in, cell_at, coarse_of}
use Rattle.hanging_refine.specs.Points.{cell_points}
use Rattle.corner_names.specs.Active.{IsForest, AreOnce}
use Rattle.hanging_refine.specs.Grown.{IsGrown}
use Rattle.hanging_refine.specs.Refinement.{KeepsNumbers}
use Rattle.hanging_refine.specs.Numbered.{AreNamedBy, corner_name, corner_number}
use Rattle.hanging_refine.specs.Sides.{IsSideOf, MeetsOnly, half_end}
use Rattle.hanging_refine.specs.Stored.{shown, stored_name, stored_names, IsStored, IsSound, HoldsSide, side_in}
use Rattle.hanging_refine.proofs.Lists.{map_in, map_length, names_shown, name_in, coarse_is, coarse_less}
use Rattle.hanging_refine.proofs.Only.{Stand, active_in, cell_is, meets_only, half_on}

abbrev pub refined_mesh : CoarseMesh → List StoredCell → RefinedMesh
refined_mesh mesh cells = record { mesh = mesh; cells = map shown cells }

pub stand : (mesh : CoarseMesh) (cells : List StoredCell) (sides : List (List ActiveSide)) (pairs : List (ℕ × ℕ)) → IsSound mesh cells sides pairs →
    Stand (length mesh.cells) (corner_at mesh) (on_boundary mesh) (stored_names cells)
stand mesh cells sides pairs s = record { mesh = s.coarse; forest = s.forest; once = s.once }

pub cell_named : (mesh : CoarseMesh) (cells : List StoredCell) (i : ℕ) → cell_at (refined_mesh mesh cells) i ≡ cell_in (stored_names cells) i
cell_named mesh cells i = ap (λ xs. cell_in xs i) (names_shown cells)

a_cell : StoredCell
a_cell = record { coarse = 0; level = 0; path = []; corners = []; points = [] }

number_at : (mesh : CoarseMesh) (cells : List StoredCell) (i v : ℕ) → i < length cells → corner_number (refined_mesh mesh cells) i v ≡ slice_index (slice_index_or cells i a_cell).corners v
number_at mesh cells i v h = ap (λ (a : ActiveCell). slice_index a.corners v) (map_in shown cells i a_cell (record { coarse = 0; path = []; corners = [] }) h)

corner_is : (mesh : CoarseMesh) (cells : List StoredCell) (sides : List (List ActiveSide)) (pairs : List (ℕ × ℕ)) → IsSound mesh cells sides pairs → (i v : ℕ) → i < length cells → v < 4 →
    (name_of pairs (corner_number (refined_mesh mesh cells) i v) ≡ corner_name (refined_mesh mesh cells) i v) × (corner_number (refined_mesh mesh cells) i v < first + length pairs)
corner_is mesh cells sides pairs s i v h a =
    let c : StoredCell = slice_index_or cells i a_cell in
    let t : IsStored mesh pairs c = s.stored i a_cell h in
    let e = number_at mesh cells i v h in (
      ap (name_of pairs) e ∙ t.corner v a ∙ ap (λ x. vertex (corner_at mesh) x v) (sym (name_in cells i a_cell h) ∙ sym (cell_named mesh cells i)),
      (let P : ℕ → Type 0 = λ x. x < first + length pairs in subst P (sym e) (t.known v a)),
    )

pub sound_named : (mesh : CoarseMesh) (cells : List StoredCell) (sides : List (List ActiveSide)) (pairs : List (ℕ × ℕ)) → IsSound mesh cells sides pairs → AreNamedBy (refined_mesh mesh cells)
sound_named mesh cells sides pairs s =
    let forest : RefinedMesh = refined_mesh mesh cells in
    let len : length (map shown cells) ≡ length cells = map_length shown cells in
    let is : (i v : ℕ) → i < length (map shown cells) → v < 4 → (name_of pairs (corner_number forest i v) ≡ corner_name forest i v) × (corner_number forest i v < first + length pairs) =
    λ i v h a. corner_is mesh cells sides pairs s i v (omega arith) a in
    record {
      same = λ c d v w hc hd a b.
          let x = is c v hc a in let y = is d w hd b in (
            λ e. sym x.0 ∙ ap (name_of pairs) e ∙ y.0,
            λ e. s.one (corner_number forest c v) (corner_number forest d w) x.1 y.1 (x.0 ∙ e ∙ sym y.0),
          );
      node_number = λ c v n h a few e.
          let x = is c v h a in
          let low : n < first = omega arith in
          s.one (corner_number forest c v) n x.1 (omega arith) (x.0 ∙ e ∙ sym (node_name pairs n low));
      low_is_node = λ c v h a few.
          let x = is c v h a in let low : corner_number forest c v < first = omega arith in sym x.0 ∙ node_name pairs (corner_number forest c v) low;
    }

-- names that keep their numbers in the table keep them in the cells
pub keeps_numbers : (mesh : CoarseMesh) (cells next : List StoredCell) (sides rows : List (List ActiveSide)) (pairs now : List (ℕ × ℕ)) → IsSound mesh cells sides pairs → IsSound mesh next rows now → IsMore pairs now →
    KeepsNumbers (refined_mesh mesh cells) (refined_mesh mesh next)
keeps_numbers mesh cells next sides rows pairs now s t m c d v w hc hd a b e =
    let lc : length (map shown cells) ≡ length cells = map_length shown cells in
    let ln : length (map shown next) ≡ length next = map_length shown next in
    let x = corner_is mesh cells sides pairs s c v (omega arith) a in
    let y = corner_is mesh next rows now t d w (omega arith) b in
    let n : ℕ = corner_number (refined_mesh mesh cells) c v in
    t.one n (corner_number (refined_mesh mesh next) d w) (omega (arith, x.1, m.more)) y.1 (m.kept n x.1 ∙ x.0 ∙ e ∙ sym y.0)

pub points_at : (mesh : CoarseMesh) (cells : List StoredCell) (sides : List (List ActiveSide)) (pairs : List (ℕ × ℕ)) (forest : RefinedMesh) (i : ℕ) (c : StoredCell) → IsSound mesh cells sides pairs →
    refined_mesh mesh cells ≡ forest → i < length forest.cells → c ≡ slice_index_or cells i c → c.points ≡ cell_points forest.mesh (cell_at forest i)
points_at mesh cells sides pairs forest i c s e h is =
    let len : length (map shown cells) ≡ length cells = map_length shown cells in
    let hi : i < length (map shown cells) = let P : RefinedMesh → Type 0 = λ f. i < length f.cells in subst P (sym e) h in
    let k : i < length cells = omega arith in
    let t : IsStored mesh pairs c = let P : StoredCell → Type 0 = λ x. IsStored mesh pairs x in subst P (sym is) (s.stored i c k) in
    t.points ∙ ap (cell_points mesh) (ap stored_name is ∙ sym (name_in cells i c k) ∙ sym (cell_named mesh cells i)) ∙ ap (λ (f : RefinedMesh). cell_points f.mesh (cell_at f i)) e

pub coarse_within : (mesh : CoarseMesh) (cells : List StoredCell) (sides : List (List ActiveSide)) (pairs : List (ℕ × ℕ)) (forest : RefinedMesh) (i : ℕ) (c : StoredCell) → IsSound mesh cells sides pairs →
    refined_mesh mesh cells ≡ forest → i < length forest.cells → c ≡ slice_index_or cells i c → c.coarse < length mesh.cells
coarse_within mesh cells sides pairs forest i c s e h is =
    let len : length (map shown cells) ≡ length cells = map_length shown cells in
    let hi : i < length (map shown cells) = let P : RefinedMesh → Type 0 = λ f. i < length f.cells in subst P (sym e) h in
    let k : i < length cells = omega arith in
    let len2 : length (stored_names cells) ≡ length cells = map_length stored_name cells in
    let st = stand mesh cells sides pairs s in
    let at = active_in (length mesh.cells) (corner_at mesh) (on_boundary mesh) (stored_names cells) st i (omega arith) in
    let less : coarse_of (cell_in (stored_names cells) i) < length mesh.cells = coarse_less (length mesh.cells) _ (cell_is (length mesh.cells) (corner_at mesh) (on_boundary mesh) (stored_names cells) st _ at) in
    let same : coarse_of (cell_in (stored_names cells) i) ≡ c.coarse = ap coarse_of (name_in cells i c k ∙ ap stored_name (sym is)) ∙ coarse_is c.coarse (take c.level c.path) in
    omega arith

side_of : (mesh : CoarseMesh) (cells : List StoredCell) (i f : ℕ) (side : ActiveSide) → HoldsSide mesh (stored_names cells) (cell_in (stored_names cells) i) f side → IsSideOf (refined_mesh mesh cells) i f side
side_of mesh cells i f (Boundary id) h =
    let P : Cell → Type 0 = λ x. HoldsSide mesh (stored_names cells) x f (Boundary id) in subst P (sym (cell_named mesh cells i)) h
side_of mesh cells i f (Equal j g) h =
    let len : length (map shown cells) ≡ length (stored_names cells) = map_length shown cells ∙ sym (map_length stored_name cells) in
    let m : Corners = corner_at mesh in (
      omega (arith, h.0),
      h.1,
      (λ a b. h.2 (ap (cell_in (stored_names cells)) a) b),
      mid_pair m _ _ f g (ap (λ x. mid m x f) (cell_named mesh cells i) ∙ h.3 ∙ ap (λ x. mid m x g) (sym (cell_named mesh cells j))),
    )
side_of mesh cells i f (Coarser j g half) h =
    let len : length (map shown cells) ≡ length (stored_names cells) = map_length shown cells ∙ sym (map_length stored_name cells) in
    let m : Corners = corner_at mesh in (
      omega (arith, h.0),
      h.1,
      h.2,
      mid_half m _ _ f g (half_end g half) (half_on g half) (ap (λ x. mid m x f) (cell_named mesh cells i) ∙ h.3 ∙ ap (λ x. middle_of (vertex m x (half_end g half)) (mid m x g)) (sym (cell_named mesh cells j))),
    )
side_of mesh cells i f (Finer js gs) h =
    let len : length (map shown cells) ≡ length (stored_names cells) = map_length shown cells ∙ sym (map_length stored_name cells) in
    let m : Corners = corner_at mesh in (
      omega (arith, h.0),
      omega (arith, h.1),
      h.2,
      h.3,
      mid_half m _ _ (slice_index gs 0) f (face_start f) (start_on f) (ap (λ x. mid m x (slice_index gs 0)) (cell_named mesh cells (slice_index js 0)) ∙ h.4 ∙ ap (λ x. middle_of (vertex m x (face_start f)) (mid m x f)) (sym (cell_named mesh cells i))),
      mid_half m _ _ (slice_index gs 1) f (face_end f) (end_on f) (ap (λ x. mid m x (slice_index gs 1)) (cell_named mesh cells (slice_index js 1)) ∙ h.5 ∙ ap (λ x. middle_of (vertex m x (face_end f)) (mid m x f)) (sym (cell_named mesh cells i))),
    )

row_is : (sides : List (List ActiveSide)) (i f : ℕ) (row : List ActiveSide) → i < length sides → row ≡ slice_index_or sides i row → side_in sides i f ≡ slice_index_or row f (Boundary 0)
row_is [] i f row h is = absurd (omega arith)
row_is (r ∷ sides) zero f row h is = ap (λ x. slice_index_or x f (Boundary 0)) (sym is)
row_is (r ∷ sides) (suc i) f row h is = row_is sides i f row (omega arith) is

pub side_told : (mesh : CoarseMesh) (cells : List StoredCell) (sides : List (List ActiveSide)) (pairs : List (ℕ × ℕ)) (forest : RefinedMesh) (i f : ℕ) (row : List ActiveSide) → IsSound mesh cells sides pairs →
    refined_mesh mesh cells ≡ forest → i < length forest.cells → f < 4 → row ≡ slice_index_or sides i row →
    IsSideOf forest i f (slice_index_or row f (Boundary 0)) × MeetsOnly forest i f (slice_index_or row f (Boundary 0))
side_told mesh cells sides pairs forest i f row s e h a is =
    let len : length (map shown cells) ≡ length cells = map_length shown cells in
    let len2 : length (stored_names cells) ≡ length cells = map_length stored_name cells in
    let hi : i < length (map shown cells) = let P : RefinedMesh → Type 0 = λ g. i < length g.cells in subst P (sym e) h in
    let hs : i < length (stored_names cells) = omega arith in
    let rows : length sides ≡ length cells = s.rows in
    let same : side_in sides i f ≡ slice_index_or row f (Boundary 0) = row_is sides i f row (omega arith) is in
    let Q : ActiveSide → Type 0 = λ t. HoldsSide mesh (stored_names cells) (cell_in (stored_names cells) i) f t in
    let held : Q (slice_index_or row f (Boundary 0)) = subst Q same (s.sides_held i f hs a) in
    let m : Corners = corner_at mesh in
    let only : MeetsOnly (refined_mesh mesh cells) i f (slice_index_or row f (Boundary 0)) = λ z d hz b meet.
    meets_only mesh (stored_names cells) (stand mesh cells sides pairs s) i f (slice_index_or row f (Boundary 0)) hs a held z d (omega arith) b
    (transported mesh cells i f z d meet) in (
      (let P : RefinedMesh → Type 0 = λ g. IsSideOf g i f (slice_index_or row f (Boundary 0)) in subst P e (side_of mesh cells i f (slice_index_or row f (Boundary 0)) held)),
      (let P : RefinedMesh → Type 0 = λ g. MeetsOnly g i f (slice_index_or row f (Boundary 0)) in subst P e only),
    )
  where
    transported : (mesh : CoarseMesh) (cells : List StoredCell) (i f z d : ℕ) → MeetAt (corner_at mesh) (cell_at (refined_mesh mesh cells) i) f (cell_at (refined_mesh mesh cells) z) d →
        MeetAt (corner_at mesh) (cell_in (stored_names cells) i) f (cell_in (stored_names cells) z) d
    transported mesh cells i f z d h =
        let P : List Cell → Type 0 = λ xs. MeetAt (corner_at mesh) (cell_in xs i) f (cell_in xs z) d in subst P (names_shown cells) h

pub grown : (mesh : CoarseMesh) (cells : List StoredCell) (sides : List (List ActiveSide)) (pairs : List (ℕ × ℕ)) → IsSound mesh cells sides pairs → IsGrown (refined_mesh mesh cells)
grown mesh cells sides pairs s =
    let P : List Cell → Type 0 = λ xs. IsForest (length mesh.cells) (corner_at mesh) (on_boundary mesh) xs in
    record { coarse = s.coarse; leaves = subst P (sym (names_shown cells)) s.forest; once = subst AreOnce (sym (names_shown cells)) s.once }
