-- Dofs and constraint lines, by the names of corners.
use Rattle.std.proofs.Common.{◌≡◌, ◌∙◌, sym, ap, ap₂, refl, subst, ℕ, Bool, List, [], ◌∷◌, map, Ok, Err, arith}
use Rattle.std.specs.Prelude.{◌-◌, ◌&&◌, ◌==◌, cond, nat_eq, is_some, Some, None}
use Rattle.std.specs.declared.option.Option.{Option}
use Rattle.std.specs.declared.result.Result.{Result}
use Rattle.std.specs.List.{flat_map, filter}
use Rattle.std.proofs.Math.Path.{fun_ext}
use Rattle.std.proofs.lemmas.List.{ext_get_or}
use Rattle.fem_fixed.specs.Lists.{contains, different, rank_of, rank_among}
use Rattle.corner_names.specs.Names.{Name, node, centre, middle_of}
use Rattle.corner_names.specs.Cells.{vertex, mid, face_start, face_end}
use Rattle.hanging_refine.specs.Coarse.{corner_at}
use Rattle.hanging_refine.specs.Refined.{RefinedMesh, cell_in}
use Rattle.hanging_refine.specs.Numbered.{corner_name}
use Rattle.hanging_refine.specs.Sides.{half_end}
use Rattle.affine_constraints.specs.Lines.{AffineLine, Lines, lines_in}
use Rattle.dof_numbers.specs.Dofs.{same_name, cell_names, name_list, name_dof, middle_name, centre_name, corner_dof, middle_dof, centre_dof}
use Rattle.dof_numbers.specs.Hanging.{IsHangingName, IsHanging, hung_name, half_line, quarter_line, hung_line}
use Rattle.problem_read.specs.Entries.{ProblemParts}
use Rattle.problem_read.specs.LookUps.{dirichlet_on}
use Rattle.node_ids.specs.NodeIds.{place_of}
use Rattle.mesh_visits.specs.Meeting.{Face}
use Rattle.mesh_visits.specs.Visits.{id_of}
use Rattle.constrained_mesh.specs.declared.fault.ConstraintFault.{ConstraintFault}
use Rattle.constrained_mesh.specs.Dirichlet.{least, has_value, lies_on, ids_among, deciding_id, line_on, dirichlet_line}
use Rattle.constrained_mesh.specs.MeshLines.{Table, dof_count, AreMeshLines}
use Rattle.constrained_mesh.specs.Nodes.{dof_at, dof_of_id}
use Rattle.constrained_mesh.specs.Ties.{with_ties}
use Rattle.constrained_mesh.specs.Constrained.{Answer, ClosesOrFails, IsConstrained}
use Rattle.diagnostics.specs.declared.refusal.Refusal.{Refusal}
use Rattle.diagnostics.specs.declared.ending.Ending.TheVariants.{Refused}
use Rattle.system_setup.specs.Endings.{of_constraints}
use Rattle.system_setup.specs.SetUp.{nodes_of, LinesFor}
use Rattle.system_laws.specs.Same.{IsSameForest}
use Rattle.system_laws.proofs.Forests.{same_count, same_back, by_cells}
use Rattle.system_laws.proofs.OneTable.{same_answer}
use Rattle.system_laws.proofs.Visits.{same_outer, same_id, same_faces}

pub same_names : (degree : ℕ) (a b : RefinedMesh) → IsSameForest a b → name_list degree a ≡ name_list degree b
unfolding name_list
same_names degree a b s = by_cells (λ m cs. flat_map (cell_names degree m) cs) a b s

same_name_dof : (degree : ℕ) (a b : RefinedMesh) → IsSameForest a b → name_dof degree a ≡ name_dof degree b
same_name_dof degree a b s = ap {B = Name → ℕ} (λ (list : List Name) x. rank_of same_name list x) (same_names degree a b s)

-- the name of a vertex of a cell, or of the middle of a face
NameOf : Type 0
NameOf = ℕ → ℕ → Name

same_corner_name : (a b : RefinedMesh) → IsSameForest a b → corner_name a ≡ corner_name b
same_corner_name a b s = by_cells (λ m cs cell v. vertex (corner_at m) (cell_in cs cell) v) a b s

same_middle_name : (a b : RefinedMesh) → IsSameForest a b → middle_name a ≡ middle_name b
same_middle_name a b s = by_cells (λ m cs cell f. mid (corner_at m) (cell_in cs cell) f) a b s

same_hung_name : (degree : ℕ) (a b : RefinedMesh) → IsSameForest a b → hung_name degree a ≡ hung_name degree b
unfolding NameOf
same_hung_name degree a b s =
    ap₂ {C = ℕ → ℕ → ℕ → Name} (λ (corner middle : NameOf) c f h. cond (degree == 2) (middle_of (corner c (half_end f h)) (middle c f)) (middle c f)) (same_corner_name a b s) (same_middle_name a b s)

-- the dof of a vertex of a cell, or of the middle of a face
DofOf : Type 0
DofOf = ℕ → ℕ → ℕ

pub same_corner_dof : (degree : ℕ) (a b : RefinedMesh) → IsSameForest a b → corner_dof degree a ≡ corner_dof degree b
unfolding DofOf NameOf
same_corner_dof degree a b s = ap₂ {C = DofOf} (λ (dof : Name → ℕ) (name : NameOf) cell v. dof (name cell v)) (same_name_dof degree a b s) (same_corner_name a b s)

pub same_middle_dof : (a b : RefinedMesh) → IsSameForest a b → middle_dof a ≡ middle_dof b
unfolding DofOf NameOf
same_middle_dof a b s = ap₂ {C = DofOf} (λ (dof : Name → ℕ) (name : NameOf) cell f. dof (name cell f)) (same_name_dof 2 a b s) (same_middle_name a b s)

same_centre_name : (a b : RefinedMesh) → IsSameForest a b → centre_name a ≡ centre_name b
same_centre_name a b s = by_cells (λ m cs cell. centre (cell_in cs cell)) a b s

pub same_centre_dof : (a b : RefinedMesh) → IsSameForest a b → centre_dof a ≡ centre_dof b
same_centre_dof a b s = ap₂ {C = ℕ → ℕ} (λ (dof : Name → ℕ) (name : ℕ → Name) cell. dof (name cell)) (same_name_dof 2 a b s) (same_centre_name a b s)

pub same_size : (degree : ℕ) (a b : RefinedMesh) → IsSameForest a b → dof_count degree a ≡ dof_count degree b
same_size degree a b s = ap (different same_name) (same_names degree a b s)

same_hung_line : (degree : ℕ) (a b : RefinedMesh) → IsSameForest a b → hung_line degree a ≡ hung_line degree b
unfolding DofOf
same_hung_line degree a b s =
    ap₂ {C = ℕ → ℕ → ℕ → AffineLine}
    (λ (dof middle : DofOf) c f h. cond (degree == 2) (quarter_line (dof c (half_end f h)) (middle c f) (dof c (half_end f (1 - h)))) (half_line (dof c (face_start f)) (dof c (face_end f))))
    (same_corner_dof degree a b s) (same_middle_dof a b s)

same_value : (a b : RefinedMesh) (problem : ProblemParts) → IsSameForest a b → has_value a problem ≡ has_value b problem
unfolding has_value
same_value a b problem s = ap₂ {C = Face → Bool} (λ (outer : Face → Bool) (id : Face → ℕ) face. outer face && is_some (dirichlet_on problem (id face))) (same_outer a b s) (same_id a b s)

same_lies : (degree : ℕ) (a b : RefinedMesh) → IsSameForest a b → lies_on degree a ≡ lies_on degree b
unfolding lies_on DofOf
same_lies degree a b s =
    ap₂ {C = ℕ → Face → Bool}
    (λ (dof_of middle : DofOf) dof face. contains nat_eq (dof_of face.0 (face_start face.1) ∷ dof_of face.0 (face_end face.1) ∷ cond (degree == 2) (middle face.0 face.1 ∷ []) []) dof)
    (same_corner_dof degree a b s) (same_middle_dof a b s)

-- ids among faces, for each dof
IdsAmong : Type 0
IdsAmong = List Face → ℕ → List ℕ

same_among : (degree : ℕ) (a b : RefinedMesh) (problem : ProblemParts) → IsSameForest a b → ids_among degree a problem ≡ ids_among degree b problem
unfolding ids_among IdsAmong
same_among degree a b problem s =
    let F : (Face → ℕ) → (Face → Bool) → (ℕ → Face → Bool) → IdsAmong = λ id value lies faces dof. map id (filter (λ face. value face && lies dof face) faces) in
    ap (λ id. F id (has_value a problem) (lies_on degree a)) (same_id a b s) ∙ ap₂ (F (id_of b)) (same_value a b problem s) (same_lies degree a b s)

same_deciding : (degree : ℕ) (a b : RefinedMesh) (problem : ProblemParts) → IsSameForest a b → deciding_id degree a problem ≡ deciding_id degree b problem
unfolding deciding_id IdsAmong
same_deciding degree a b problem s = ap₂ {C = ℕ → Option ℕ} (λ (ids : IdsAmong) (faces : List Face) dof. least (ids faces dof)) (same_among degree a b problem s) (same_faces a b s)

same_dirichlet : (degree : ℕ) (a b : RefinedMesh) (problem : ProblemParts) → IsSameForest a b → dirichlet_line degree a problem ≡ dirichlet_line degree b problem
same_dirichlet degree a b problem s = ap {B = ℕ → Option AffineLine} (λ (id : ℕ → Option ℕ) dof. line_on problem (id dof)) (same_deciding degree a b problem s)

same_hanging_name : (a b : RefinedMesh) → IsSameForest a b → (x : Name) (c f : ℕ) → IsHangingName a x c f → IsHangingName b x c f
same_hanging_name a b s x c f h =
    let n = same_count a b s in let hc = h.is_cell in let ho = h.is_other in
    record {
      other = h.other;
      v = h.v;
      is_cell = omega arith;
      is_face = h.is_face;
      is_other = omega arith;
      is_vertex = h.is_vertex;
      apart = h.apart;
      middle = h.middle ∙ ap (λ name. name c f) (same_middle_name a b s);
      corner = h.corner ∙ ap (λ name. name h.other h.v) (same_corner_name a b s);
    }

same_hanging : (degree : ℕ) (a b : RefinedMesh) → IsSameForest a b → (dof c f k : ℕ) → IsHanging degree a dof c f k → IsHanging degree b dof c f k
same_hanging degree a b s dof c f k h = record {
  name = h.name;
  hanging = same_hanging_name a b s h.name c f h.hanging;
  is_one = h.is_one;
  is_dof = h.is_dof ∙ ap (λ of. of (hung_name degree a c f k)) (same_name_dof degree a b s) ∙ ap (λ name. name_dof degree b (name c f k)) (same_hung_name degree a b s);
}

same_mesh_lines : (degree : ℕ) (a b : RefinedMesh) → IsSameForest a b → (problem : ProblemParts) (table : Table) → AreMeshLines degree a problem table → AreMeshLines degree b problem table
same_mesh_lines degree a b s problem table w =
    let n : dof_count degree a ≡ dof_count degree b = same_size degree a b s in
    record {
      size = w.size ∙ n;
      hanging = λ dof c f k h. w.hanging dof c f k (same_hanging degree b a (same_back a b s) dof c f k h) ∙ ap (λ line. Some (line c f k)) (same_hung_line degree a b s);
      others = λ dof h nowhere. w.others dof (omega arith) (λ c f k x. nowhere c f k (same_hanging degree a b s dof c f k x)) ∙ ap (λ line. line dof) (same_dirichlet degree a b problem s);
    }

same_dof_at : (degree : ℕ) (a b : RefinedMesh) → IsSameForest a b → (place : Option ℕ) → dof_at degree a place ≡ dof_at degree b place
same_dof_at degree a b s None = refl
same_dof_at degree a b s (Some place) = ap (λ list. rank_among same_name list (node place)) (same_names degree a b s)

same_node_dofs : (degree : ℕ) (a b : RefinedMesh) → IsSameForest a b → (ids : List ℕ) → dof_of_id (nodes_of degree ids a) ≡ dof_of_id (nodes_of degree ids b)
unfolding dof_of_id
same_node_dofs degree a b s ids = fun_ext (λ id. same_dof_at degree a b s (place_of ids id))

same_constrained : (degree : ℕ) (a b : RefinedMesh) → IsSameForest a b → (ids : List ℕ) (problem : ProblemParts) (answer : Answer) → IsConstrained (nodes_of degree ids a) problem answer → IsConstrained (nodes_of degree ids b) problem answer
same_constrained degree a b s ids problem answer w =
    let P : (ℕ → Option ℕ) → Type 0 = λ dof_of. ClosesOrFails (with_ties dof_of w.lines problem.ties) answer in
    record { lines = w.lines; of_mesh = same_mesh_lines degree a b s problem w.lines w.of_mesh; outcome = subst P (same_node_dofs degree a b s ids) w.outcome }

-- one answer over both meshes
one_answer : (degree : ℕ) (a b : RefinedMesh) → IsSameForest a b → (ids : List ℕ) (problem : ProblemParts) (x y : Answer) → IsConstrained (nodes_of degree ids a) problem x → IsConstrained (nodes_of degree ids b) problem y → x ≡ y
one_answer degree a b s ids problem x y w v = same_answer (nodes_of degree ids b) problem x y (same_constrained degree a b s ids problem x w) v

same_ok : (x y : Lines) → (let r : Answer = Ok x in r) ≡ Ok y → x ≡ y
same_ok x y e = cc

same_err : (x y : ConstraintFault) → (let r : Answer = Err x in r) ≡ Err y → x ≡ y
same_err x y e = cc

not_ok : (x : Lines) (y : ConstraintFault) → (let r : Answer = Ok x in r) ≡ Err y → ⊥
not_ok x y e = cc

same_told : (x y : ConstraintFault) (r q : Refusal) → of_constraints x ≡ Refused r → of_constraints y ≡ Refused q → x ≡ y → r ≡ q
same_told x y r q e f s = let t : Refused r ≡ Refused q = sym e ∙ ap of_constraints s ∙ f in cc

-- one table of closed lines, or one refusal, over both meshes
pub same_lines : (degree : ℕ) (a b : RefinedMesh) → IsSameForest a b → (ids : List ℕ) (problem : ProblemParts) (x y : Result (List (Option AffineLine)) Refusal) → LinesFor degree ids problem a x → LinesFor degree ids problem b y → x ≡ y
same_lines degree a b s ids problem (Ok t) (Ok u) w v =
    let e : lines_in t ≡ lines_in u = same_ok (lines_in t) (lines_in u) (one_answer degree a b s ids problem (Ok (lines_in t)) (Ok (lines_in u)) w.1 v.1) in
    ap Ok (ext_get_or None t u (w.0 ∙ same_size degree a b s ∙ sym v.0) (λ dof h. ap (λ lines. lines dof) e))
same_lines degree a b s ids problem (Ok t) (Err q) w v = absurd (not_ok (lines_in t) v.0 (one_answer degree a b s ids problem (Ok (lines_in t)) (Err v.0) w.1 v.1))
same_lines degree a b s ids problem (Err r) (Ok u) w v = absurd (not_ok (lines_in u) w.0 (sym (one_answer degree a b s ids problem (Err w.0) (Ok (lines_in u)) w.1 v.1)))
same_lines degree a b s ids problem (Err r) (Err q) w v =
    ap Err (same_told w.0 v.0 r q w.2 v.2 (same_err w.0 v.0 (one_answer degree a b s ids problem (Err w.0) (Err v.0) w.1 v.1)))
