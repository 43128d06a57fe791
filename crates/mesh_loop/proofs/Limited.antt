-- Blocks within their limits, by the degree of the dofs.
use Rattle.std.proofs.Common.{◌≡◌, ◌∙◌, sym, ap, subst, refl, ℕ, ◌+◌, ◌<◌, ◌≤◌, ◌^◌, ℤ, pos, inl, inr, List, [], ◌∷◌, ◌++◌, length, cond, ◌==◌, arith, lit≤, Ok, Err, Some, None, length-append}
use Rattle.std.specs.Prelude.{unsigned_abs, IfOk, IfSome}
use Rattle.std.specs.List.{All}
use Rattle.std.specs.declared.option.Option.{Option}
use Rattle.std.specs.declared.result.Result.{Result}
use Rattle.fem_fixed.specs.declared.mesh.Point.{Point}
use Rattle.fem_fixed.specs.Mesh.{IsWithinReach}
use Rattle.fixed_q1.specs.declared.fault.LocalFault.{LocalFault}
use Rattle.fixed_q1.specs.declared.geometry.Vector.{Vector}
use Rattle.fixed_q1.specs.declared.places.Part.{Part}
use Rattle.fixed_q1.specs.LocalForm.{LocalForm}
use Rattle.fixed_q1.specs.Places.{reference_place}
use Rattle.dof_numbers.specs.Dofs.{IsDegree, IsNumberingOf, names_each}
use Rattle.problem_read.specs.LookUps.{diffusion_on, source_on, robin_on, penalty_in}
use Rattle.cell_blocks.specs.LocalBlocks.{LocalBlock, IsBlock}
use Rattle.cell_blocks.specs.Forms.{cell_form, boundary_form, jump_form, face_numbers, face_form}
use Rattle.cell_blocks.specs.Blocks.{Given, material_of, points_of, dofs_of, end_points, end_dofs, middle_dof, face_dofs, part_ends, own_form, part_form, with_dofs, block_of}
use Rattle.cell_blocks.proofs.Made.{square_block, cell_square, part_square}
use Rattle.cell_blocks.proofs.Made.{face_block as linear_block}
use Rattle.cell_blocks.proofs.Squares.{cell_block, face_block, part_block}
use Rattle.cell_blocks.proofs.Visited.{face_form_is}
use Rattle.mesh_visits.specs.declared.visit.Visit.TheVariants.{Cell as OnCell, Boundary as OnBoundary, Interior as OnPart}

-- how many dofs a cell has
pub cell_count : (g : Given) (cell : ℕ) → IsNumberingOf g.forest g.dofs → cell < length g.forest.cells → length (dofs_of g cell) ≡ names_each g.dofs.degree
cell_count g cell numbered h = numbered.each cell [] (omega (arith, numbered.count, h))

-- the form of a cell, of a part and of a face
own_block : (degree : ℕ) (points : List Point) (d s : ℤ) (dofs : List ℕ) (form : LocalForm) → IsDegree degree → length points ≡ 4 → All IsWithinReach points → unsigned_abs s ≤ 2 ^ 31 → length dofs ≡ names_each degree →
    cell_form degree points d s ≡ Ok form → IsBlock (record { dofs = dofs; form = form })
own_block degree points d s dofs form (inl one) four reach small count h =
    square_block 4 dofs form (lit≤ tt) (count ∙ ap names_each one) (cell_square points d s form four reach small (ap (λ n. cell_form n points d s) (sym one) ∙ h))
own_block degree points d s dofs form (inr two) four reach small count h =
    cell_block points d s dofs form four reach small (count ∙ ap names_each two) (ap (λ n. cell_form n points d s) (sym two) ∙ h)

jump_block : (degree : ℕ) (here there : List Point) (p q : Vector) (ends : List Point) (gamma : ℤ) (dofs : List ℕ) (form : LocalForm) → IsDegree degree → length dofs ≡ names_each degree + names_each degree →
    jump_form degree here p there q ends gamma ≡ Ok form → IsBlock (record { dofs = dofs; form = form })
jump_block degree here there p q ends gamma dofs form (inl one) count h =
    square_block 8 dofs form (lit≤ tt) (count ∙ ap (λ n. names_each n + names_each n) one) (part_square here there p q ends gamma form (ap (λ n. jump_form n here p there q ends gamma) (sym one) ∙ h))
jump_block degree here there p q ends gamma dofs form (inr two) count h =
    part_block here there p q ends gamma dofs form (count ∙ ap (λ n. names_each n + names_each n) two) (ap (λ n. jump_form n here p there q ends gamma) (sym two) ∙ h)

edge_block : (degree : ℕ) (ends : List Point) (alpha b : ℤ) (dofs : List ℕ) → IsDegree degree → length dofs ≡ length (face_numbers degree) → length ends ≡ 2 → All IsWithinReach ends → unsigned_abs alpha ≤ 2 ^ 31 → unsigned_abs b ≤ 2 ^ 31 →
    IsBlock (record { dofs = dofs; form = boundary_form degree ends alpha b })
edge_block degree ends alpha b dofs (inl one) count two reach ha hb =
    let P : ℕ → Type 0 = λ n. IsBlock (record { dofs = dofs; form = boundary_form n ends alpha b }) in
    subst P (sym one) (linear_block dofs ends alpha b (boundary_form 1 ends alpha b) (count ∙ ap (λ n. length (face_numbers n)) one) two reach ha hb refl)
edge_block degree ends alpha b dofs (inr second) count two reach ha hb =
    let P : ℕ → Type 0 = λ n. IsBlock (record { dofs = dofs; form = boundary_form n ends alpha b }) in
    subst P (sym second) (face_block ends alpha b dofs (count ∙ ap (λ n. length (face_numbers n)) second) two reach ha hb)

own_by : (g : Given) (cell : ℕ) (r : Result LocalForm LocalFault) → IsDegree g.dofs.degree → length (dofs_of g cell) ≡ names_each g.dofs.degree → length (points_of g cell) ≡ 4 → All IsWithinReach (points_of g cell) →
    unsigned_abs (source_on g.problem (material_of g cell)) ≤ 2 ^ 31 → own_form g cell ≡ r → IfOk (with_dofs (dofs_of g cell) r) IsBlock
own_by g cell (Ok form) degree dofs four reach small e =
    own_block g.dofs.degree (points_of g cell) (diffusion_on g.problem (material_of g cell)) (source_on g.problem (material_of g cell)) (dofs_of g cell) form degree four reach small dofs e
own_by g cell (Err fault) degree dofs four reach small e = tt

-- the block of the cell itself
pub own_limited : (g : Given) (cell : ℕ) (points : List Point) (source : ℤ) (material : ℕ) → IsNumberingOf g.forest g.dofs → cell < length g.forest.cells → points ≡ points_of g cell → length points ≡ 4 → All IsWithinReach points →
    material ≡ material_of g cell → source ≡ source_on g.problem material → unsigned_abs source ≤ 2 ^ 31 → IfOk (block_of g cell OnCell) IsBlock
unfolding block_of
own_limited g cell points source material numbered inside p count reach m s small =
    let from : source ≡ source_on g.problem (material_of g cell) = s ∙ ap (source_on g.problem) m in
    let P : ℤ → Type 0 = λ z. unsigned_abs z ≤ 2 ^ 31 in
    own_by g cell (own_form g cell) numbered.degree (cell_count g cell numbered inside) (ap length (sym p) ∙ count) (subst (All IsWithinReach) p reach) (subst P from small) refl

part_by : (g : Given) (cell face other other_face : ℕ) (here there : Part) (r : Result LocalForm LocalFault) → IsDegree g.dofs.degree → length (dofs_of g cell) ≡ names_each g.dofs.degree → length (dofs_of g other) ≡ names_each g.dofs.degree →
    part_form g cell face other other_face here there ≡ r → IfOk (with_dofs (dofs_of g cell ++ dofs_of g other) r) IsBlock
part_by g cell face other other_face here there (Ok form) degree mine theirs e =
    jump_block g.dofs.degree (points_of g cell) (points_of g other) (reference_place face here) (reference_place other_face there) (part_ends g cell face other other_face here) (penalty_in g.problem) (dofs_of g cell ++ dofs_of g other) form degree
    (length-append (dofs_of g cell) (dofs_of g other) ∙ (λ i. mine i + theirs i)) e
part_by g cell face other other_face here there (Err fault) degree mine theirs e = tt

-- the block of a part of an interior face
pub part_limited : (g : Given) (cell face other other_face : ℕ) (here there : Part) → IsNumberingOf g.forest g.dofs → cell < length g.forest.cells → other < length g.forest.cells →
    IfOk (block_of g cell (OnPart face other other_face here there)) IsBlock
unfolding block_of
part_limited g cell face other other_face here there numbered inside within =
    part_by g cell face other other_face here there (part_form g cell face other other_face here there) numbered.degree (cell_count g cell numbered inside) (cell_count g other numbered within) refl

each_some : (degree : ℕ) → IsDegree degree → 0 < names_each degree
each_some degree (inl one) = let P : ℕ → Type 0 = λ n. 0 < names_each n in subst P (sym one) (omega arith)
each_some degree (inr two) = let P : ℕ → Type 0 = λ n. 0 < names_each n in subst P (sym two) (omega arith)

pub some_of_cell : (g : Given) (cell : ℕ) → IsNumberingOf g.forest g.dofs → cell < length g.forest.cells → 0 < length (dofs_of g cell)
some_of_cell g cell numbered inside = omega (arith, each_some g.dofs.degree numbered.degree, cell_count g cell numbered inside)

pub some_of_part : (g : Given) (cell other : ℕ) → IsNumberingOf g.forest g.dofs → cell < length g.forest.cells → 0 < length (dofs_of g cell ++ dofs_of g other)
some_of_part g cell other numbered inside = omega (arith, length-append (dofs_of g cell) (dofs_of g other), some_of_cell g cell numbered inside)

face_count : (g : Given) (cell face : ℕ) → IsDegree g.dofs.degree → length (face_dofs g cell face) ≡ length (face_numbers g.dofs.degree)
face_count g cell face degree = by_degree g.dofs.degree degree
  where
    by_degree : (n : ℕ) → IsDegree n → length (end_dofs g cell face ++ cond (n == 2) (middle_dof g cell face ∷ []) []) ≡ length (face_numbers n)
    by_degree n (inl one) = let P : ℕ → Type 0 = λ k. length (end_dofs g cell face ++ cond (k == 2) (middle_dof g cell face ∷ []) []) ≡ length (face_numbers k) in subst P (sym one) refl
    by_degree n (inr two) = let P : ℕ → Type 0 = λ k. length (end_dofs g cell face ++ cond (k == 2) (middle_dof g cell face ∷ []) []) ≡ length (face_numbers k) in subst P (sym two) refl

face_by : (g : Given) (cell face : ℕ) (o : Option (ℤ × ℤ)) → IsDegree g.dofs.degree → length (end_points g cell face) ≡ 2 → All IsWithinReach (end_points g cell face) → IfSome o (λ (v : ℤ × ℤ). (unsigned_abs v.0 ≤ 2 ^ 31) × (unsigned_abs v.1 ≤ 2 ^ 31)) →
    IsBlock (record { dofs = face_dofs g cell face; form = face_form g.dofs.degree o (end_points g cell face) })
face_by g cell face None degree two reach small =
    let P : LocalForm → Type 0 = λ form. IsBlock (record { dofs = face_dofs g cell face; form = form }) in
    subst P (face_form_is g.dofs.degree None (end_points g cell face)) (edge_block g.dofs.degree (end_points g cell face) (pos 0) (pos 0) (face_dofs g cell face) degree (face_count g cell face degree) two reach (lit≤ tt) (lit≤ tt))
face_by g cell face (Some v) degree two reach small =
    edge_block g.dofs.degree (end_points g cell face) v.0 v.1 (face_dofs g cell face) degree (face_count g cell face degree) two reach small.0 small.1

-- the block of a face at the boundary
pub face_limited : (g : Given) (cell face id : ℕ) (ends : List Point) (o : Option (ℤ × ℤ)) → IsNumberingOf g.forest g.dofs → ends ≡ end_points g cell face → All IsWithinReach ends → o ≡ robin_on g.problem id →
    IfSome o (λ (v : ℤ × ℤ). (unsigned_abs v.0 ≤ 2 ^ 31) × (unsigned_abs v.1 ≤ 2 ^ 31)) → IfOk (block_of g cell (OnBoundary face id)) IsBlock
unfolding block_of
face_limited g cell face id ends o numbered e reach is small =
    let P : Option (ℤ × ℤ) → Type 0 = λ r. IsBlock (record { dofs = face_dofs g cell face; form = face_form g.dofs.degree r (end_points g cell face) }) in
    subst P is (face_by g cell face o numbered.degree refl (subst (All IsWithinReach) e reach) small)
