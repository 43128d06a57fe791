-- Set-ups over refined meshes that are the same up to the numbers of corners have one system.
use Rattle.std.proofs.Common.{◌≡◌, ◌∙◌, ap, ap₂, ℕ, List, [], ◌∷◌, ◌++◌, map, slice_index, slice_index_or}
use Rattle.std.specs.Prelude.{◌+◌, ◌==◌, cond, filter, Ok}
use Rattle.std.specs.declared.option.Option.{Option}
use Rattle.std.specs.declared.result.Result.{Result}
use Rattle.std.specs.List.{flat_map, range_with_len}
use Rattle.std.proofs.Math.Path.{fun_ext}
use Rattle.fem_fixed.specs.declared.mesh.Point.{Point}
use Rattle.quad_mesh.specs.Faces.{quad_at}
use Rattle.quad_mesh.specs.Geometry.{point_at}
use Rattle.corner_names.specs.Cells.{face_start, face_end}
use Rattle.hanging_refine.specs.Refined.{cell_in}
use Rattle.hanging_refine.specs.Points.{cell_points}
use Rattle.affine_constraints.specs.Lines.{AffineLine, lines_in}
use Rattle.problem_read.specs.Entries.{ProblemParts}
use Rattle.problem_read.specs.LookUps.{diffusion_on, source_on, robin_on, penalty_in, subdomain_on}
use Rattle.fixed_q1.specs.declared.fault.LocalFault.{LocalFault}
use Rattle.fixed_q1.specs.declared.places.Part.{Part}
use Rattle.fixed_q1.specs.declared.places.Part.TheVariants.{Whole, Half0, Half1}
use Rattle.fixed_q1.specs.Places.{reference_place}
use Rattle.fixed_q1.specs.LocalForm.{LocalForm}
use Rattle.cell_blocks.specs.Forms.{cell_form, face_form, jump_form}
use Rattle.cell_blocks.specs.LocalBlocks.{LocalBlock}
use Rattle.mesh_visits.specs.declared.flags.Flags.{Flags}
use Rattle.mesh_visits.specs.declared.visit.Visit.{Visit}
use Rattle.mesh_visits.specs.declared.visit.Visit.TheVariants.{Cell as OnCell, Boundary as OnBoundary, Interior as OnPart}
use Rattle.mesh_visits.specs.Runs.{subdomain_in, visits_of}
use Rattle.cell_blocks.specs.Blocks.{Given, material_of, subdomains_of, visits_in, points_of, part_ends, visit_dofs, visit_form, with_dofs, block_of, all_blocks, blocks_of, cell_blocks}
use Rattle.block_sums.specs.Parts.{part_of_blocks}
use Rattle.serial_sum.specs.Parts.{CellPart}
use Rattle.sparsity.specs.Coupled.{has, rows_of}
use Rattle.mesh_loop.specs.Setup.{MeshProblem, cells_of, cell_visits, masters_of, visit_masters, coupled_by, coupled_dofs, pattern_of, visit_rows, written_rows}
use Rattle.mesh_loop.specs.Sum.{part_of, parts_of}
use Rattle.system_laws.specs.Same.{IsSameForest, IsSameSystem}
use Rattle.system_laws.proofs.Forests.{same_count, same_coarse, by_cells}
use Rattle.system_laws.proofs.Visits.{same_visits}

-- the meshes are the same up to the numbers of corners, and so are the degree and the dofs of cells, and the problem
pub record IsSameGiven (g h : Given) : Type 0 where
  pub forest : IsSameForest g.forest h.forest
  pub degree : g.dofs.degree ≡ h.dofs.degree
  pub dofs : g.dofs.cells ≡ h.dofs.cells
  pub problem : g.problem ≡ h.problem

same_material : (g h : Given) → IsSameGiven g h → (cell : ℕ) → material_of g cell ≡ material_of h cell
same_material g h s cell = ap₂ (λ mesh coarse. (quad_at mesh.cells coarse).material) s.forest.mesh (same_coarse g.forest h.forest s.forest cell)

same_points : (g h : Given) → IsSameGiven g h → points_of g ≡ points_of h
same_points g h s = by_cells (λ m cs cell. cell_points m (cell_in cs cell)) g.forest h.forest s.forest

same_dofs : (g h : Given) → IsSameGiven g h → (cell : ℕ) (visit : Visit) → visit_dofs g cell visit ≡ visit_dofs h cell visit
same_dofs g h s cell OnCell = ap (λ dofs. slice_index_or dofs cell []) s.dofs
same_dofs g h s cell (OnBoundary face id) =
    ap₂
    (λ (degree : ℕ) (dofs : List (List ℕ)).
    (slice_index (slice_index_or dofs cell []) (face_start face) ∷ slice_index (slice_index_or dofs cell []) (face_end face) ∷ [])
    ++ cond (degree == 2) (slice_index (slice_index_or dofs cell []) (4 + face) ∷ []) [])
    s.degree s.dofs
same_dofs g h s cell (OnPart face other other_face here there) = ap (λ dofs. slice_index_or dofs cell [] ++ slice_index_or dofs other []) s.dofs

ends_by : (ℕ → List Point) → ℕ → ℕ → List Point
ends_by points cell face = point_at (points cell) (face_start face) ∷ point_at (points cell) (face_end face) ∷ []

same_ends : (g h : Given) → IsSameGiven g h → (cell face other other_face : ℕ) (part : Part) → part_ends g cell face other other_face part ≡ part_ends h cell face other other_face part
unfolding ends_by
same_ends g h s cell face other other_face Whole = ap (λ points. ends_by points cell face) (same_points g h s)
same_ends g h s cell face other other_face Half0 = ap (λ points. ends_by points other other_face) (same_points g h s)
same_ends g h s cell face other other_face Half1 = ap (λ points. ends_by points other other_face) (same_points g h s)

same_form : (g h : Given) → IsSameGiven g h → (cell : ℕ) (visit : Visit) → visit_form g cell visit ≡ visit_form h cell visit
unfolding ends_by
same_form g h s cell OnCell =
    let F : ℕ → List Point → ProblemParts → ℕ → Result LocalForm LocalFault = λ degree points problem material. cell_form degree points (diffusion_on problem material) (source_on problem material) in
    ap₂ (λ (degree : ℕ) (points : ℕ → List Point). F degree (points cell) g.problem (material_of g cell)) s.degree (same_points g h s)
    ∙ ap₂ (F h.dofs.degree (points_of h cell)) s.problem (same_material g h s cell)
same_form g h s cell (OnBoundary face id) =
    let F : ℕ → (ℕ → List Point) → ProblemParts → Result LocalForm LocalFault = λ degree points problem. Ok (face_form degree (robin_on problem id) (ends_by points cell face)) in
    ap (λ degree. F degree (points_of g) g.problem) s.degree ∙ ap₂ (F h.dofs.degree) (same_points g h s) s.problem
same_form g h s cell (OnPart face other other_face here there) =
    let F : ℕ → (ℕ → List Point) → List Point → ProblemParts → Result LocalForm LocalFault =
    λ degree points ends problem. jump_form degree (points cell) (reference_place face here) (points other) (reference_place other_face there) ends (penalty_in problem) in
    ap₂ (λ (degree : ℕ) (points : ℕ → List Point). F degree points (part_ends g cell face other other_face here) g.problem) s.degree (same_points g h s)
    ∙ ap₂ (F h.dofs.degree (points_of h)) (same_ends g h s cell face other other_face here) s.problem

same_block : (g h : Given) → IsSameGiven g h → (cell : ℕ) (visit : Visit) → block_of g cell visit ≡ block_of h cell visit
unfolding block_of
same_block g h s cell visit = ap₂ with_dofs (same_dofs g h s cell visit) (same_form g h s cell visit)

-- each cell has the same subdomain
same_subdomains : (g h : Given) → IsSameGiven g h → subdomains_of g ≡ subdomains_of h
unfolding subdomains_of
same_subdomains g h s =
    ap₂ {C = List ℕ} (λ (subdomain : ℕ → ℕ) (count : ℕ). map subdomain (range_with_len 0 count))
    (fun_ext (λ cell. ap₂ subdomain_on s.problem (same_material g h s cell))) (same_count g.forest h.forest s.forest)

same_run : (flags : Flags) (g h : Given) → IsSameGiven g h → (cell : ℕ) → visits_in flags g cell ≡ visits_in flags h cell
same_run flags g h s cell =
    ap (λ (list : List ℕ). visits_of (subdomain_in list) flags g.forest cell) (same_subdomains g h s)
    ∙ ap (λ (visits : ℕ → List Visit). visits cell) (same_visits (subdomain_in (subdomains_of h)) flags g.forest h.forest s.forest)

same_blocks : (flags : Flags) (g h : Given) → IsSameGiven g h → (cell : ℕ) → cell_blocks flags g cell ≡ cell_blocks flags h cell
unfolding blocks_of
same_blocks flags g h s cell =
    ap₂ (λ (block : Visit → Result LocalBlock LocalFault) (visits : List Visit). all_blocks (map block visits)) (fun_ext (λ visit. same_block g h s cell visit))
    (same_run flags g h s cell)

-- two set-ups of one problem over such meshes
pub record IsSameSetUp (s t : MeshProblem) : Type 0 where
  pub given : IsSameGiven s.given t.given
  pub size : s.given.dofs.size ≡ t.given.dofs.size
  pub closed : s.closed ≡ t.closed
  pub flags : s.flags ≡ t.flags

same_cells : (s t : MeshProblem) → IsSameSetUp s t → cells_of s ≡ cells_of t
same_cells s t e = ap (range_with_len 0) (same_count s.given.forest t.given.forest e.given.forest)

same_cell_visits : (s t : MeshProblem) → IsSameSetUp s t → cell_visits s ≡ cell_visits t
same_cell_visits s t e = fun_ext (λ cell. ap (λ flags. visits_in flags s.given cell) e.flags ∙ same_run t.flags s.given t.given e.given cell)

same_visit_dofs : (s t : MeshProblem) → IsSameSetUp s t → visit_dofs s.given ≡ visit_dofs t.given
same_visit_dofs s t e = fun_ext (λ cell. fun_ext (λ visit. same_dofs s.given t.given e.given cell visit))

-- lists of dofs, for each visit of each cell
OfVisits : Type 0
OfVisits = ℕ → Visit → List ℕ

same_masters : (s t : MeshProblem) → IsSameSetUp s t → visit_masters s ≡ visit_masters t
unfolding OfVisits
same_masters s t e =
    ap₂ {C = OfVisits} (λ (closed : List (Option AffineLine)) (dofs : OfVisits) cell visit. masters_of (lines_in closed) (dofs cell visit)) e.closed (same_visit_dofs s t e)

same_coupled : (s t : MeshProblem) → IsSameSetUp s t → coupled_by s ≡ coupled_by t
unfolding coupled_by OfVisits
same_coupled s t e = ap₂ {C = ℕ → List (List ℕ)} (λ (of_visit : OfVisits) (visits : ℕ → List Visit) cell. map (of_visit cell) (visits cell)) (same_masters s t e) (same_cell_visits s t e)

pub same_couplings : (s t : MeshProblem) → IsSameSetUp s t → coupled_dofs s ≡ coupled_dofs t
unfolding coupled_dofs
same_couplings s t e =
    let lists : flat_map (coupled_by s) (cells_of s) ≡ flat_map (coupled_by t) (cells_of t) = ap₂ (λ (by : ℕ → List (List ℕ)) (cells : List ℕ). flat_map by cells) (same_coupled s t e) (same_cells s t e) in
    ap₂ (λ (n : ℕ) (ls : List (List ℕ)). record { size = n; lists = ls }) e.size lists

same_pattern : (s t : MeshProblem) → IsSameSetUp s t → pattern_of s ≡ pattern_of t
unfolding pattern_of
same_pattern s t e = ap rows_of (same_couplings s t e)

same_rows : (s t : MeshProblem) → IsSameSetUp s t → written_rows s ≡ written_rows t
unfolding written_rows OfVisits
same_rows s t e =
    let rows : visit_rows s ≡ visit_rows t =
    ap₂ {C = OfVisits} (λ (dofs others : OfVisits) cell visit. dofs cell visit ++ others cell visit) (same_visit_dofs s t e) (same_masters s t e) in
    ap₂ {C = ℕ → List ℕ} (λ (of_visit : OfVisits) (visits : ℕ → List Visit) cell. filter (has (flat_map (of_visit cell) (visits cell))) (range_with_len 0 s.given.dofs.size)) rows (same_cell_visits s t e)
    ∙ ap {B = ℕ → List ℕ} (λ (n : ℕ) cell. filter (has (flat_map (visit_rows t cell) (cell_visits t cell))) (range_with_len 0 n)) e.size

same_part : (s t : MeshProblem) → IsSameSetUp s t → (cell : ℕ) → part_of s cell ≡ part_of t cell
unfolding part_of
same_part s t e cell =
    ap₂ (λ (closed : List (Option AffineLine)) (blocks : Result (List LocalBlock) LocalFault). part_of_blocks (lines_in closed) cell blocks) e.closed
    (ap (λ flags. cell_blocks flags s.given cell) e.flags ∙ same_blocks t.flags s.given t.given e.given cell)

same_parts : (s t : MeshProblem) → IsSameSetUp s t → (order : List ℕ) → parts_of s order ≡ parts_of t order
same_parts s t e order = ap (λ (part : ℕ → CellPart). map part order) (fun_ext (λ cell. same_part s t e cell))

-- they have one system
pub one_system : (s t : MeshProblem) → IsSameSetUp s t → IsSameSystem s t
one_system s t e = record {
  cells = same_cells s t e;
  dofs = e.size;
  lines = e.closed;
  pattern = same_pattern s t e;
  blocks = λ cell. ap (λ flags. cell_blocks flags s.given cell) e.flags ∙ same_blocks t.flags s.given t.given e.given cell;
  parts = same_parts s t e (cells_of s) ∙ ap (parts_of t) (same_cells s t e);
  in_order = same_parts s t e;
  rows = λ cell. ap (λ rows. rows cell) (same_rows s t e);
}
