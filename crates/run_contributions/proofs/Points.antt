-- Corners of one name are one point.
use Rattle.std.proofs.Common.{◌≡◌, ◌∙◌, sym, ap, ap₂, refl, ℕ, ◌<◌, Bool, true, false, cond, ◌==◌, ◌+◌, length, pos}
use Rattle.std.proofs.Math.IntN.{ℤ, +ℤ_comm}
use Rattle.std.specs.declared.cmp.Ordering.{Ordering}
use Rattle.std.specs.declared.cmp.Ordering.TheVariants.{Less, Equal, Greater}
use Rattle.fem_fixed.specs.declared.mesh.Point.{Point}
use Rattle.fem_fixed.specs.Rounding.{nearest}
use Rattle.quad_mesh.specs.Geometry.{point_at}
use Rattle.quad_mesh.specs.Mesh.{CoarseMesh}
use Rattle.corner_names.specs.Names.{Cell, root, child, Name, node, middle, centre, name_cmp, in_order, middle_of}
use Rattle.corner_names.specs.Cells.{vertex}
use Rattle.hanging_refine.specs.Coarse.{corner_at}
use Rattle.hanging_refine.specs.Points.{midpoint, mean_point, vertex_point}
use Rattle.hanging_refine.specs.Refined.{RefinedMesh, cell_at}

-- the point that a name stands for
abbrev named_point : CoarseMesh → Name → Point
named_point mesh (node n) = point_at mesh.points n
named_point mesh (middle a b) = midpoint (named_point mesh a) (named_point mesh b)
named_point mesh (centre p) = mean_point (vertex_point mesh p 0) (vertex_point mesh p 1) (vertex_point mesh p 2) (vertex_point mesh p 3)

abbrev halved : ℤ → ℤ → Point
halved x y = record { x = nearest x (pos 2); y = nearest y (pos 2) }

turned : (p q : Point) → midpoint p q ≡ midpoint q p
unfolding midpoint
turned p q = ap₂ halved (+ℤ_comm p.x q.x) (+ℤ_comm p.y q.y)

in_order_point : (mesh : CoarseMesh) (a b : Name) (order : Ordering) → named_point mesh (in_order order a b) ≡ midpoint (named_point mesh a) (named_point mesh b)
in_order_point mesh a b Less = refl
in_order_point mesh a b Equal = refl
in_order_point mesh a b Greater = turned (named_point mesh b) (named_point mesh a)

middle_point : (mesh : CoarseMesh) (a b : Name) → named_point mesh (middle_of a b) ≡ midpoint (named_point mesh a) (named_point mesh b)
unfolding middle_of
middle_point mesh a b = in_order_point mesh a b (name_cmp a b)

child_point : (mesh : CoarseMesh) (p : Cell) (k v : ℕ) (same across : Bool) → vertex_point mesh p k ≡ named_point mesh (vertex (corner_at mesh) p k) → vertex_point mesh p v ≡ named_point mesh (vertex (corner_at mesh) p v) →
    cond same (vertex_point mesh p k)
    (cond across (mean_point (vertex_point mesh p 0) (vertex_point mesh p 1) (vertex_point mesh p 2) (vertex_point mesh p 3)) (midpoint (vertex_point mesh p k) (vertex_point mesh p v)))
    ≡ named_point mesh (cond same (vertex (corner_at mesh) p k) (cond across (centre p) (middle_of (vertex (corner_at mesh) p k) (vertex (corner_at mesh) p v))))
child_point mesh p k v true across h i = h
child_point mesh p k v false true h i = refl
child_point mesh p k v false false h i = ap₂ midpoint h i ∙ sym (middle_point mesh (vertex (corner_at mesh) p k) (vertex (corner_at mesh) p v))

vertex_named : (mesh : CoarseMesh) (cell : Cell) (v : ℕ) → vertex_point mesh cell v ≡ named_point mesh (vertex (corner_at mesh) cell v)
unfolding vertex_point vertex
vertex_named mesh (root c) v = refl
vertex_named mesh (child p k) v = child_point mesh p k v (v == k) (v + k == 3) (vertex_named mesh p k) (vertex_named mesh p v)

pub one_point : (mesh : CoarseMesh) (p q : Cell) (v w : ℕ) → vertex (corner_at mesh) p v ≡ vertex (corner_at mesh) q w → vertex_point mesh p v ≡ vertex_point mesh q w
one_point mesh p q v w same = vertex_named mesh p v ∙ ap (named_point mesh) same ∙ sym (vertex_named mesh q w)
