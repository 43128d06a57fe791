-- Refined meshes that are the same have the same marks by a vector, and each refined mesh has marks.
use Rattle.std.proofs.Common.{◌≡◌, ◌∙◌, sym, ap, ap₂, refl, subst, ℕ, ℤ, ◌≤◌, ◌^◌, inl, List, [], ◌∷◌, ◌++◌, length, map, sum, slice_index_or}
use mathlib.Core.Path.{fun_ext}
use Rattle.std.specs.Prelude.{All, unsigned_abs, Ok, Err}
use Rattle.std.specs.declared.result.Result.{Result}
use Rattle.std.specs.List.{flat_map, range_with_len}
use Rattle.fem_fixed.specs.declared.mesh.Point.{Point}
use Rattle.fem_text.proofs.OneReading.{ok_same, err_same, ok_err}
use Rattle.fixed_q1.specs.declared.fault.LocalFault.{LocalFault}
use Rattle.fixed_q1.specs.declared.places.Part.{Part}
use Rattle.fixed_q1.specs.declared.places.Part.TheVariants.{Whole, Half0, Half1}
use Rattle.fixed_q1.specs.JumpForm.{factors_form}
use Rattle.fixed_q1.specs.Places.{reference_place}
use Rattle.hanging_refine.specs.Refined.{RefinedMesh, cell_in}
use Rattle.hanging_refine.specs.Points.{cell_points}
use Rattle.quad_mesh.specs.Geometry.{point_at}
use Rattle.corner_names.specs.Cells.{face_start, face_end}
use Rattle.dof_numbers.specs.Dofs.{Numbering}
use Rattle.constrained_mesh.specs.MeshLines.{dof_count}
use Rattle.mesh_visits.specs.Meeting.{Face}
use Rattle.mesh_visits.specs.declared.visit.Visit.{Visit}
use Rattle.mesh_visits.specs.declared.visit.Visit.TheVariants.{Cell as OnCell, Boundary as OnBoundary, Interior as OnPart}
use Rattle.jump_refine.specs.declared.fault.IndicatorFault.{IndicatorFault}
use Rattle.jump_refine.specs.declared.fault.IndicatorFault.TheVariants as indicators
use Rattle.jump_refine.specs.Jumps.{IsFunctionOn, points_of, end_points, part_ends, part_factors, part_dofs}
use Rattle.jump_refine.specs.Indicator.{face_parts, parts_of, part_square, eta, square_of, fault_with, part_fault, cell_faults, unless_fault, indicators_at, indicators_of, IsFaultOf}
use Rattle.jump_refine.specs.Marks.{AreMarked, MarksAreUnique}
use Rattle.diagnostics.specs.declared.refusal.Refusal.{Refusal}
use Rattle.diagnostics.specs.declared.refusal.Refusal.TheVariants as refusals
use Rattle.diagnostics.specs.declared.ending.Ending.{Ending}
use Rattle.diagnostics.specs.declared.ending.Ending.TheVariants.{Refused, NoMemory}
use Rattle.diagnostics.specs.Stages.{Then}
use Rattle.system_texts.specs.Endings.{of_local}
use Rattle.system_laws.specs.Same.{IsSameForest}
use Rattle.system_laws.proofs.Forests.{same_count, by_cells}
use Rattle.system_laws.proofs.Visits.{same_interior}
use Rattle.system_laws.proofs.Lines.{same_size}
use Rattle.system_laws.proofs.One.{same_rows}
use Rattle.system_laws.proofs.Tables.{numbering_of, of_degree, numbering_is}
use Rattle.system_laws.proofs.Outcomes.{Agree, one_after, HasAnOutcome, some_after}
use Rattle.vector_texts.specs.Endings.{of_indicators}
use Rattle.vector_texts.specs.Fitting.{FittedTo}
use Rattle.vector_texts.specs.Marks.{Marks, Indicated, MarkedBy, MarkedOn}
use Rattle.vector_texts.proofs.Chain.{many_dofs}
use Rattle.vector_laws.specs.Laws.{HaveOneMarking, HaveAMarking}
use Rattle.vector_laws.proofs.Fitted.{one_fitted, some_fitted}
use Rattle.vector_laws.proofs.Sorting.{some_marks}

-- Meshes that are the same have the same indicators.
module _ (a b : RefinedMesh) (s : IsSameForest a b) where
  same_points : points_of a ≡ points_of b
  same_points = by_cells (λ m cs cell. cell_points m (cell_in cs cell)) a b s

  same_end_points : end_points a ≡ end_points b
  same_end_points = by_cells (λ m cs cell face. point_at (cell_points m (cell_in cs cell)) (face_start face) ∷ point_at (cell_points m (cell_in cs cell)) (face_end face) ∷ []) a b s

  same_ends : (cell face other other_face : ℕ) (part : Part) → part_ends a cell face other other_face part ≡ part_ends b cell face other other_face part
  same_ends cell face other other_face Whole = ap (λ ends. ends cell face) same_end_points
  same_ends cell face other other_face Half0 = ap (λ ends. ends other other_face) same_end_points
  same_ends cell face other other_face Half1 = ap (λ ends. ends other other_face) same_end_points

  same_factors : (cell : ℕ) (visit : Visit) → part_factors a cell visit ≡ part_factors b cell visit
  unfolding part_factors
  same_factors cell OnCell = refl
  same_factors cell (OnBoundary face id) = refl
  same_factors cell (OnPart face other other_face here there) =
      ap₂ (λ (points : ℕ → List Point) (ends : List Point). factors_form (points cell) (reference_place face here) (points other) (reference_place other_face there) ends) same_points
      (same_ends cell face other other_face here)

  same_parts : parts_of a ≡ parts_of b
  unfolding parts_of face_parts
  same_parts =
      ap {B = ℕ → List Visit} (λ (visits : Face → List Visit) (cell : ℕ). flat_map (λ face. visits (cell, face)) (0 ∷ 1 ∷ 2 ∷ 3 ∷ [])) (same_interior a b s)

  same_part_faults : (cell : ℕ) → part_fault a cell ≡ part_fault b cell
  same_part_faults cell = fun_ext (λ visit. ap (λ factors. fault_with cell factors) (same_factors cell visit))

  same_faults : cell_faults a ≡ cell_faults b
  unfolding cell_faults
  same_faults = fun_ext (λ cell. ap₂ (λ (fault : Visit → List (ℕ × LocalFault)) (parts : List Visit). flat_map fault parts) (same_part_faults cell) (ap (λ parts. parts cell) same_parts))

  module _ (d e : Numbering) (rows : d.cells ≡ e.cells) (x : List ℤ) where
    same_dofs : (cell : ℕ) (visit : Visit) → part_dofs d cell visit ≡ part_dofs e cell visit
    same_dofs cell OnCell = refl
    same_dofs cell (OnBoundary face id) = refl
    same_dofs cell (OnPart face other other_face here there) = ap (λ (list : List (List ℕ)). slice_index_or list cell [] ++ slice_index_or list other []) rows

    same_squares : (cell : ℕ) → part_square a d x cell ≡ part_square b e x cell
    same_squares cell = fun_ext (λ visit. ap₂ (λ factors dofs. square_of factors dofs x) (same_factors cell visit) (same_dofs cell visit))

    same_etas : eta a d x ≡ eta b e x
    unfolding eta
    same_etas = fun_ext (λ cell. ap₂ (λ (square : Visit → ℕ) (parts : List Visit). sum (map square parts)) (same_squares cell) (ap (λ parts. parts cell) same_parts))

    pub same_indicators : indicators_of a d x ≡ indicators_of b e x
    unfolding indicators_at
    same_indicators =
        ap₂ (λ (faults : ℕ → List (ℕ × LocalFault)) (each : ℕ → ℕ). unless_fault (flat_map faults (range_with_len 0 (length a.cells))) (map each (range_with_len 0 (length a.cells)))) same_faults same_etas
        ∙ ap (λ n. unless_fault (flat_map (cell_faults b) (range_with_len 0 n)) (map (eta b e x) (range_with_len 0 n))) (same_count a b s)

not_refused : {P : Type 0} (r : Refusal) → ◌≡◌ {A = Ending} NoMemory (Refused r) → P
not_refused r h = cc

-- a fault of indicators that has a refusal
record OfCell (list : Result (List ℕ) (ℕ × LocalFault)) (r : Refusal) : Type 0 where
  pub cell : ℕ
  pub fault : LocalFault
  pub is : list ≡ Err (cell, fault)
  pub told : r ≡ refusals.Local cell (of_local fault)

injected : (r q : Refusal) → Refused r ≡ Refused q → q ≡ r
injected r q h = cc

of_cell : (list : Result (List ℕ) (ℕ × LocalFault)) (fault : IndicatorFault) (r : Refusal) → IsFaultOf list fault → of_indicators fault ≡ Refused r → OfCell list r
of_cell list (indicators.Local cell fault) r h e = record { cell = cell; fault = fault; is = h; told = injected (refusals.Local cell (of_local fault)) r e }
of_cell list indicators.NoMemory r h e = not_refused r e

never_both : (list : Result (List ℕ) (ℕ × LocalFault)) (etas : List ℕ) (cell : ℕ) (fault : LocalFault) → list ≡ Ok etas → list ≡ Err (cell, fault) → ⊥
never_both list etas cell fault h k = cc

same_cell : (list : Result (List ℕ) (ℕ × LocalFault)) (c d : ℕ) (f g : LocalFault) → list ≡ Err (c, f) → list ≡ Err (d, g) → refusals.Local c (of_local f) ≡ refusals.Local d (of_local g)
same_cell list c d f g h k =
    let e : (c, f) ≡ (d, g) = err_same {A = List ℕ} (c, f) (d, g) (sym h ∙ k) in
    ap (λ (p : ℕ × LocalFault). refusals.Local p.0 (of_local p.1)) e

same_etas_told : (list : Result (List ℕ) (ℕ × LocalFault)) (u v : List ℕ) → list ≡ Ok u → list ≡ Ok v → u ≡ v
same_etas_told list u v h k = cc

one_indicated : (a b : RefinedMesh) → IsSameForest a b → (x : List ℤ) → Agree (Indicated a x) (Indicated b x)
one_indicated a b s x (Ok u) (Ok v) h k =
    let rows = same_rows 1 (inl refl) a b s h.0 k.0 h.1.degree k.1.degree h.1.numbered k.1.numbered in
    ap Ok (same_etas_told (indicators_of b k.0 x) u v (sym (same_indicators a b s h.0 k.0 rows x) ∙ h.2) k.2)
one_indicated a b s x (Ok u) (Err q) h k =
    let rows = same_rows 1 (inl refl) a b s h.0 k.0 h.1.degree k.1.degree h.1.numbered k.1.numbered in
    let f = of_cell (indicators_of b k.0 x) k.2.0 q k.2.1 k.2.2 in
    absurd (never_both (indicators_of b k.0 x) u f.cell f.fault (sym (same_indicators a b s h.0 k.0 rows x) ∙ h.2) f.is)
one_indicated a b s x (Err r) (Ok v) h k =
    let rows = same_rows 1 (inl refl) a b s h.0 k.0 h.1.degree k.1.degree h.1.numbered k.1.numbered in
    let f = of_cell (indicators_of a h.0 x) h.2.0 r h.2.1 h.2.2 in
    absurd (never_both (indicators_of b k.0 x) v f.cell f.fault k.2 (sym (same_indicators a b s h.0 k.0 rows x) ∙ f.is))
one_indicated a b s x (Err r) (Err q) h k =
    let rows = same_rows 1 (inl refl) a b s h.0 k.0 h.1.degree k.1.degree h.1.numbered k.1.numbered in
    let f = of_cell (indicators_of a h.0 x) h.2.0 r h.2.1 h.2.2 in
    let g = of_cell (indicators_of b k.0 x) k.2.0 q k.2.1 k.2.2 in
    ap Err (f.told ∙ same_cell (indicators_of b k.0 x) f.cell g.cell f.fault g.fault (sym (same_indicators a b s h.0 k.0 rows x) ∙ f.is) g.is ∙ sym g.told)

-- Marks are one, as their law says.
module _ (one_marks : MarksAreUnique) where
  one_marked_by : (count : ℕ) (etas : List ℕ) → Agree (MarkedBy count etas) (MarkedBy count etas)
  one_marked_by count etas (Ok m) (Ok n) h k = ap Ok (let e : m.0 ≡ n.0 = h.0 ∙ sym k.0 in let f : m.1 ≡ n.1 = one_marks etas count m.1 n.1 h.1 k.1 in λ i. (e i, f i))
  one_marked_by count etas (Ok m) (Err q) h k = absurd k
  one_marked_by count etas (Err r) b h k = absurd h

  pub one_marking : HaveOneMarking
  one_marking count values a b s =
      one_after (FittedTo (dof_count 1 a) (2 ^ 31) values) (FittedTo (dof_count 1 b) (2 ^ 31) values) (λ x. Then (Indicated a x) (MarkedBy count)) (λ x. Then (Indicated b x) (MarkedBy count))
      (subst (λ n. Agree (FittedTo (dof_count 1 a) (2 ^ 31) values) (FittedTo n (2 ^ 31) values)) (same_size 1 a b s) (one_fitted (dof_count 1 a) (2 ^ 31) values))
      (λ x fits. one_after (Indicated a x) (Indicated b x) (MarkedBy count) (MarkedBy count) (one_indicated a b s x) (λ etas is. one_marked_by count etas))

is_function : (forest : RefinedMesh) (values x : List ℤ) → FittedTo (dof_count 1 forest) (2 ^ 31) values (Ok x) → IsFunctionOn forest (numbering_of 1 forest) x
is_function forest values x fits = record {
  numbered = numbering_is 1 (inl refl) forest;
  degree = of_degree 1 forest;
  count = ap length fits.0 ∙ fits.1.as_many ∙ sym (many_dofs forest (numbering_of 1 forest) (numbering_is 1 (inl refl) forest) (of_degree 1 forest));
  small = subst (λ list. All (λ value. unsigned_abs value ≤ 2 ^ 31) list) (sym fits.0) fits.1.small;
}

told_so : (forest : RefinedMesh) (x : List ℤ) → IsFunctionOn forest (numbering_of 1 forest) x → (list : Result (List ℕ) (ℕ × LocalFault)) → indicators_of forest (numbering_of 1 forest) x ≡ list →
    HasAnOutcome (Indicated forest x)
told_so forest x function (Ok etas) is = (Ok etas, (numbering_of 1 forest, function, is))
told_so forest x function (Err (cell, fault)) is = (Err (refusals.Local cell (of_local fault)), (numbering_of 1 forest, function, (indicators.Local cell fault, is, refl)))

pub some_marking : HaveAMarking
some_marking count values forest =
    some_after (FittedTo (dof_count 1 forest) (2 ^ 31) values) (λ x. Then (Indicated forest x) (MarkedBy count)) (some_fitted (dof_count 1 forest) (2 ^ 31) values)
    (λ x fits. some_after (Indicated forest x) (MarkedBy count) (told_so forest x (is_function forest values x fits) (indicators_of forest (numbering_of 1 forest) x) refl)
    (λ etas is. let marks = some_marks etas count in (Ok (etas, marks.0), (refl, marks.1))))
