-- Sums of squared jumps, part by part.
use Rattle.std.proofs.Common.{◌≡◌, ◌∙◌, sym, ap, ap₂, refl, ℕ, ◌+◌, ◌<◌, length, List, [], ◌∷◌, ◌++◌, map, ℤ, Ok, Err, arith, append-nil}
use Rattle.std.specs.Prelude.{sum}
use Rattle.std.specs.declared.result.Result.{Result}
use Rattle.std.specs.List.{flat_map}
use Rattle.std.proofs.lemmas.List.{map-append}
use Rattle.std.proofs.lemmas.List.Concat.{flat_map-append}
use Rattle.std.proofs.lemmas.List.Sums.{sum_by-cons}
use Rattle.hanging_refine.specs.Refined.{RefinedMesh}
use Rattle.dof_numbers.specs.Dofs.{Numbering}
use Rattle.fixed_q1.specs.declared.fault.LocalFault.{LocalFault}
use Rattle.mesh_visits.specs.declared.visit.Visit.{Visit}
use Rattle.hanging_refine.specs.declared.sides.ActiveSide.{ActiveSide}
use Rattle.hanging_refine.specs.Grown.{IsGrown}
use Rattle.hanging_refine.specs.Sides.{IsSideOf, MeetsOnly}
use Rattle.mesh_visits.specs.SideVisits.{side_parts}
use Rattle.mesh_visits.proofs.BySide.{parts_by_side}
use Rattle.jump_refine.specs.Jumps.{part_factors, part_dofs, squared_jump}
use Rattle.jump_refine.specs.Indicator.{square_of, fault_with, part_square, part_fault, unless_fault, face_parts, parts_of}
use Rattle.jump_refine.specs.Steps.{squares_at, added}

sum-cons : (x : ℕ) (xs : List ℕ) → sum (x ∷ xs) ≡ x + sum xs
sum-cons x xs = sum_by-cons (λ n. n) x xs

sum_append : (xs ys : List ℕ) → sum (xs ++ ys) ≡ sum xs + sum ys
sum_append [] ys = omega arith
sum_append (x ∷ xs) ys = omega (arith, sum-cons x (xs ++ ys), sum-cons x xs, sum_append xs ys)

-- the first fault of faults and more faults
pub unless_added : {F : Type 0} (es fs : List F) (a b : ℕ) → unless_fault (es ++ fs) (a + b) ≡ added (unless_fault es a) (unless_fault fs b)
unless_added [] [] a b = refl
unless_added [] (f ∷ fs) a b = refl
unless_added (e ∷ es) fs a b = refl

pub squares_append : (forest : RefinedMesh) (dofs : Numbering) (values : List ℤ) (cell : ℕ) (xs ys : List Visit) →
    squares_at forest dofs values cell (xs ++ ys) ≡ added (squares_at forest dofs values cell xs) (squares_at forest dofs values cell ys)
unfolding squares_at
squares_append forest dofs values cell xs ys =
    let square : Visit → ℕ = part_square forest dofs values cell in
    ap₂ (λ (es : List (ℕ × LocalFault)) (n : ℕ). unless_fault es n) (flat_map-append (part_fault forest cell) xs ys) (ap sum (map-append square xs ys) ∙ sum_append (map square xs) (map square ys))
    ∙ unless_added (flat_map (part_fault forest cell) xs) (flat_map (part_fault forest cell) ys) (sum (map square xs)) (sum (map square ys))

one_by : (cell : ℕ) (r : Result (List ℤ) LocalFault) (ds : List ℕ) (values : List ℤ) (factors : List ℤ) → r ≡ Ok factors →
    unless_fault (fault_with cell r ++ []) (sum (square_of r ds values ∷ [])) ≡ Ok (squared_jump factors ds values)
one_by cell r ds values factors e = rw e (ap Ok (sum-cons (squared_jump factors ds values) [] ∙ omega arith))

one_fault_by : (cell : ℕ) (r : Result (List ℤ) LocalFault) (n : ℕ) (fault : LocalFault) → r ≡ Err fault → unless_fault (fault_with cell r ++ []) n ≡ Err (cell, fault)
one_fault_by cell r n fault e = rw e refl

-- one part, with its factors or with its fault
pub squares_one : (forest : RefinedMesh) (dofs : Numbering) (values : List ℤ) (cell : ℕ) (part : Visit) (factors : List ℤ) → part_factors forest cell part ≡ Ok factors →
    squares_at forest dofs values cell (part ∷ []) ≡ Ok (squared_jump factors (part_dofs dofs cell part) values)
unfolding squares_at
squares_one forest dofs values cell part factors e = one_by cell (part_factors forest cell part) (part_dofs dofs cell part) values factors e

pub squares_fault : (forest : RefinedMesh) (dofs : Numbering) (values : List ℤ) (cell : ℕ) (part : Visit) (fault : LocalFault) → part_factors forest cell part ≡ Err fault →
    squares_at forest dofs values cell (part ∷ []) ≡ Err (cell, fault)
unfolding squares_at
squares_fault forest dofs values cell part fault e = one_fault_by cell (part_factors forest cell part) (sum (part_square forest dofs values cell part ∷ [])) fault e

-- sums of two lists of parts, as the code finds them
pub both_sums : (forest : RefinedMesh) (dofs : Numbering) (values : List ℤ) (cell : ℕ) (xs ys : List Visit) (a b : ℕ) → Ok a ≡ squares_at forest dofs values cell xs → Ok b ≡ squares_at forest dofs values cell ys →
    Ok (a + b) ≡ squares_at forest dofs values cell (xs ++ ys)
both_sums forest dofs values cell xs ys a b h i = sym (squares_append forest dofs values cell xs ys ∙ ap₂ added (sym h) (sym i))

pub first_fails : (forest : RefinedMesh) (dofs : Numbering) (values : List ℤ) (cell : ℕ) (xs ys : List Visit) (e : ℕ × LocalFault) → Err e ≡ squares_at forest dofs values cell xs → Err e ≡ squares_at forest dofs values cell (xs ++ ys)
first_fails forest dofs values cell xs ys e h = sym (squares_append forest dofs values cell xs ys ∙ ap (λ r. added r (squares_at forest dofs values cell ys)) (sym h))

pub second_fails : (forest : RefinedMesh) (dofs : Numbering) (values : List ℤ) (cell : ℕ) (xs ys : List Visit) (a : ℕ) (e : ℕ × LocalFault) → Ok a ≡ squares_at forest dofs values cell xs → Err e ≡ squares_at forest dofs values cell ys →
    Err e ≡ squares_at forest dofs values cell (xs ++ ys)
second_fails forest dofs values cell xs ys a e h i = sym (squares_append forest dofs values cell xs ys ∙ ap₂ added (sym h) (sym i))

-- the parts of a face are those that its side tells
pub face_parts_by_side : (forest : RefinedMesh) (c f : ℕ) (side : ActiveSide) → IsGrown forest → c < length forest.cells → f < 4 → IsSideOf forest c f side → MeetsOnly forest c f side →
    face_parts forest c f ≡ side_parts f side
unfolding face_parts
face_parts_by_side forest c f side grown hc hf is only = parts_by_side forest c f side grown hc hf is only

-- the parts of a cell are those of its four faces
pub faces_are : (forest : RefinedMesh) (cell : ℕ) →
    parts_of forest cell ≡ face_parts forest cell 0 ++ (face_parts forest cell 1 ++ (face_parts forest cell 2 ++ face_parts forest cell 3))
unfolding parts_of
faces_are forest cell =
    ap (λ xs. face_parts forest cell 0 ++ (face_parts forest cell 1 ++ (face_parts forest cell 2 ++ xs))) (append-nil (face_parts forest cell 3))

faces : RefinedMesh → ℕ → List Visit
faces forest cell = face_parts forest cell 0 ++ (face_parts forest cell 1 ++ (face_parts forest cell 2 ++ face_parts forest cell 3))

by_faces : (forest : RefinedMesh) (dofs : Numbering) (values : List ℤ) (cell : ℕ) (r : Result ℕ (ℕ × LocalFault)) → r ≡ squares_at forest dofs values cell (faces forest cell) → r ≡ squares_at forest dofs values cell (parts_of forest cell)
unfolding faces
by_faces forest dofs values cell r e = e ∙ sym (ap (squares_at forest dofs values cell) (faces_are forest cell))

-- the first of the four faces that fails
pub left_fails : (forest : RefinedMesh) (dofs : Numbering) (values : List ℤ) (cell : ℕ) (e : ℕ × LocalFault) → Err e ≡ squares_at forest dofs values cell (face_parts forest cell 0) →
    Err e ≡ squares_at forest dofs values cell (parts_of forest cell)
unfolding faces
left_fails forest dofs values cell e h = by_faces forest dofs values cell (Err e) (first_fails forest dofs values cell (face_parts forest cell 0) _ e h)

pub right_fails : (forest : RefinedMesh) (dofs : Numbering) (values : List ℤ) (cell a : ℕ) (e : ℕ × LocalFault) → Ok a ≡ squares_at forest dofs values cell (face_parts forest cell 0) →
    Err e ≡ squares_at forest dofs values cell (face_parts forest cell 1) → Err e ≡ squares_at forest dofs values cell (parts_of forest cell)
unfolding faces
right_fails forest dofs values cell a e h i =
    by_faces forest dofs values cell (Err e) (second_fails forest dofs values cell (face_parts forest cell 0) _ a e h (first_fails forest dofs values cell (face_parts forest cell 1) _ e i))

pub bottom_fails : (forest : RefinedMesh) (dofs : Numbering) (values : List ℤ) (cell a b : ℕ) (e : ℕ × LocalFault) → Ok a ≡ squares_at forest dofs values cell (face_parts forest cell 0) →
    Ok b ≡ squares_at forest dofs values cell (face_parts forest cell 1) → Err e ≡ squares_at forest dofs values cell (face_parts forest cell 2) →
    Err e ≡ squares_at forest dofs values cell (parts_of forest cell)
unfolding faces
bottom_fails forest dofs values cell a b e h i j =
    by_faces forest dofs values cell (Err e) (second_fails forest dofs values cell (face_parts forest cell 0) _ a e h
    (second_fails forest dofs values cell (face_parts forest cell 1) _ b e i (first_fails forest dofs values cell (face_parts forest cell 2) _ e j)))

pub top_fails : (forest : RefinedMesh) (dofs : Numbering) (values : List ℤ) (cell a b c : ℕ) (e : ℕ × LocalFault) → Ok a ≡ squares_at forest dofs values cell (face_parts forest cell 0) →
    Ok b ≡ squares_at forest dofs values cell (face_parts forest cell 1) → Ok c ≡ squares_at forest dofs values cell (face_parts forest cell 2) →
    Err e ≡ squares_at forest dofs values cell (face_parts forest cell 3) → Err e ≡ squares_at forest dofs values cell (parts_of forest cell)
unfolding faces
top_fails forest dofs values cell a b c e h i j k =
    by_faces forest dofs values cell (Err e) (second_fails forest dofs values cell (face_parts forest cell 0) _ a e h
    (second_fails forest dofs values cell (face_parts forest cell 1) _ b e i
    (second_fails forest dofs values cell (face_parts forest cell 2) (face_parts forest cell 3) c e j k)))

pub four_sums : (forest : RefinedMesh) (dofs : Numbering) (values : List ℤ) (cell a b c d : ℕ) → Ok a ≡ squares_at forest dofs values cell (face_parts forest cell 0) →
    Ok b ≡ squares_at forest dofs values cell (face_parts forest cell 1) → Ok c ≡ squares_at forest dofs values cell (face_parts forest cell 2) →
    Ok d ≡ squares_at forest dofs values cell (face_parts forest cell 3) → Ok (a + b + c + d) ≡ squares_at forest dofs values cell (parts_of forest cell)
unfolding faces
four_sums forest dofs values cell a b c d h i j k =
    let sums : a + b + c + d ≡ a + (b + (c + d)) = omega arith in
    ap Ok sums ∙ by_faces forest dofs values cell (Ok (a + (b + (c + d)))) (both_sums forest dofs values cell (face_parts forest cell 0) _ a (b + (c + d)) h
    (both_sums forest dofs values cell (face_parts forest cell 1) _ b (c + d) i
    (both_sums forest dofs values cell (face_parts forest cell 2) (face_parts forest cell 3) c d j k)))
