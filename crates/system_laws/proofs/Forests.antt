-- Refined meshes that are the same up to the numbers of their corners.
use Rattle.std.proofs.Common.{◌≡◌, ◌∙◌, sym, ap, ap₂, refl, subst, ℕ, zero, suc, List, [], ◌∷◌, length, map, slice_index_or}
use Rattle.quad_mesh.specs.Mesh.{CoarseMesh}
use Rattle.corner_names.specs.Names.{Cell}
use Rattle.corner_names.specs.Cells.{level}
use Rattle.hanging_refine.specs.Refined.{ActiveCell, RefinedMesh, cell_of, coarse_of, named, active_cells, cell_in, active_at, cell_at}
use Rattle.hanging_refine.specs.Refinement.{level_of}
use Rattle.hanging_refine.proofs.Lists.{map_length, coarse_is, level_is}
use Rattle.system_laws.specs.Same.{IsSameForest}

pub same_count : (a b : RefinedMesh) → IsSameForest a b → length a.cells ≡ length b.cells
same_count a b s = sym (map_length named a.cells) ∙ ap length s.cells ∙ map_length named b.cells

pub same_back : (a b : RefinedMesh) → IsSameForest a b → IsSameForest b a
same_back a b s = record { mesh = sym s.mesh; cells = sym s.cells }

-- what depends on the mesh and the names of cells is the same
pub by_cells : {X : Type 0} (F : CoarseMesh → List Cell → X) (a b : RefinedMesh) → IsSameForest a b → F a.mesh (active_cells a) ≡ F b.mesh (active_cells b)
by_cells F a b s = ap₂ F s.mesh s.cells

-- and so is what is said of them
pub carry : (P : CoarseMesh → List Cell → Type 0) (a b : RefinedMesh) → IsSameForest a b → P a.mesh (active_cells a) → P b.mesh (active_cells b)
carry P a b s x =
    let Q : CoarseMesh → Type 0 = λ m. P m (active_cells a) in
    let R : List Cell → Type 0 = λ cs. P b.mesh cs in
    subst R s.cells (subst Q s.mesh x)

named_in : (cells : List ActiveCell) (i : ℕ) → cell_in (map named cells) i ≡ named (slice_index_or cells i (record { coarse = 0; path = []; corners = [] }))
unfolding cell_of
named_in [] i = refl
named_in (x ∷ xs) zero = refl
named_in (x ∷ xs) (suc i) = named_in xs i

pub name_at : (forest : RefinedMesh) (i : ℕ) → cell_at forest i ≡ named (active_at forest i)
name_at forest i = named_in forest.cells i

pub coarse_at : (forest : RefinedMesh) (i : ℕ) → (active_at forest i).coarse ≡ coarse_of (cell_at forest i)
coarse_at forest i = sym (ap coarse_of (name_at forest i) ∙ coarse_is (active_at forest i).coarse (active_at forest i).path)

pub level_at : (forest : RefinedMesh) (i : ℕ) → level_of forest i ≡ level (cell_at forest i)
level_at forest i = sym (ap level (name_at forest i) ∙ level_is (active_at forest i).coarse (active_at forest i).path)

-- the same active cell has the same coarse cell and level
pub same_coarse : (a b : RefinedMesh) → IsSameForest a b → (i : ℕ) → (active_at a i).coarse ≡ (active_at b i).coarse
same_coarse a b s i = coarse_at a i ∙ ap (λ cs. coarse_of (cell_in cs i)) s.cells ∙ sym (coarse_at b i)

pub same_level : (a b : RefinedMesh) → IsSameForest a b → (i : ℕ) → level_of a i ≡ level_of b i
same_level a b s i = level_at a i ∙ ap (λ cs. level (cell_in cs i)) s.cells ∙ sym (level_at b i)
