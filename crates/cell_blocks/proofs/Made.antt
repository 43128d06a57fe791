-- Blocks that the code makes.
use Rattle.std.proofs.Common.{◌≡◌, ◌∙◌, sym, ap, refl, subst, ℕ, zero, suc, ◌<◌, ◌≤◌, ◌^◌, ℤ, pos, FitsSigned, w64, List, [], length, get_or, Ok, Some, None, arith, lit≤}
use Rattle.std.specs.Prelude.{unsigned_abs, unwrap_or, IfSome}
use Rattle.std.specs.List.{All}
use Rattle.std.specs.declared.option.Option.{Option}
use Rattle.std.specs.declared.result.Result.{Result}
use Rattle.std.proofs.lemmas.List.{get_or_default}
use Rattle.std.proofs.lemmas.Int.{fits_signed_from_abs}
use Rattle.fem_fixed.specs.declared.mesh.Point.{Point}
use Rattle.fem_fixed.specs.Mesh.{IsWithinReach}
use Rattle.fixed_q1.specs.declared.fault.LocalFault.{LocalFault}
use Rattle.fixed_q1.specs.declared.geometry.Vector.{Vector}
use Rattle.fixed_q1.specs.LocalForm.{LocalForm, zero_load}
use Rattle.fixed_q1.specs.CellForm.{cell_form}
use Rattle.fixed_q1.specs.BoundaryForm.{boundary_form}
use Rattle.fixed_q1.specs.JumpForm.{jump_form, part_numbers}
use Rattle.fixed_q1.proofs.Bounds.{form_small, form_square, form_load}
use Rattle.fixed_q1.proofs.Loads.{load_small}
use Rattle.fixed_q1.proofs.FaceBounds.{boundary_small, boundary_load_small, boundary_square, jump_is, jump_small, jump_square}
use Rattle.cell_blocks.specs.declared.local.LocalSystem.{LocalSystem}
use Rattle.cell_blocks.specs.LocalBlocks.{IsBlock}
use Rattle.cell_blocks.specs.Lending.{block_in, IsWhole}
use Rattle.cell_blocks.specs.Blocks.{with_dofs}

-- a form over so many dofs
pub record IsSquare (n : ℕ) (form : LocalForm) : Type 0 where
  pub rows : length form.matrix ≡ n
  pub columns : (i : ℕ) → i < n → length (get_or form.matrix i []) ≡ n
  pub load : length form.load ≡ n
  pub small : (i j : ℕ) → unsigned_abs (get_or (get_or form.matrix i []) j (pos 0)) ≤ 2 ^ 72
  pub small_load : (i : ℕ) → unsigned_abs (get_or form.load i (pos 0)) ≤ 2 ^ 72

pub square_block : (n : ℕ) (dofs : List ℕ) (form : LocalForm) → n ≤ 18 → length dofs ≡ n → IsSquare n form → IsBlock (record { dofs = dofs; form = form })
square_block n dofs form few count s = record {
  few = omega (arith, few, count);
  rows = s.rows ∙ sym count;
  columns = λ k d l. ap length (get_or_default form.matrix k d [] l) ∙ s.columns k (let r = s.rows in omega (arith, l, r)) ∙ sym count;
  load = s.load ∙ sym count;
  small = λ k d l. λ j e m.
      let row = get_or_default form.matrix k d [] l in
      let is : get_or (get_or form.matrix k d) j e ≡ get_or (get_or form.matrix k []) j (pos 0) = get_or_default (get_or form.matrix k d) j e (pos 0) m ∙ ap (λ xs. get_or xs j (pos 0)) row in
      rw is (s.small k j);
  small_load = λ k d l. rw (get_or_default form.load k d (pos 0) l) (s.small_load k);
}

pub cell_square : (points : List Point) (diffusion source : ℤ) (form : LocalForm) → length points ≡ 4 → All IsWithinReach points → unsigned_abs source ≤ 2 ^ 31 → cell_form points diffusion source ≡ Ok form → IsSquare 4 form
cell_square points diffusion source form four reach small e = record {
  rows = (form_square points diffusion source form e).0;
  columns = (form_square points diffusion source form e).1;
  load = form_load points diffusion source form e;
  small = form_small points diffusion source form e;
  small_load = load_small points diffusion source form four reach small e;
}

pub face_square : (ends : List Point) (alpha g : ℤ) → length ends ≡ 2 → All IsWithinReach ends → unsigned_abs alpha ≤ 2 ^ 31 → unsigned_abs g ≤ 2 ^ 31 → IsSquare 2 (boundary_form ends alpha g)
unfolding boundary_form
face_square ends alpha g two reach a b = record {
  rows = (boundary_square ends alpha g).0;
  columns = (boundary_square ends alpha g).1;
  load = refl;
  small = boundary_small ends alpha g two reach a;
  small_load = boundary_load_small ends alpha g two reach b;
}

zeros_small : (i : ℕ) → unsigned_abs (get_or (zero_load part_numbers) i (pos 0)) ≤ 2 ^ 72
zeros_small zero = lit≤ tt
zeros_small (suc zero) = lit≤ tt
zeros_small (suc (suc zero)) = lit≤ tt
zeros_small (suc (suc (suc zero))) = lit≤ tt
zeros_small (suc (suc (suc (suc zero)))) = lit≤ tt
zeros_small (suc (suc (suc (suc (suc zero))))) = lit≤ tt
zeros_small (suc (suc (suc (suc (suc (suc zero)))))) = lit≤ tt
zeros_small (suc (suc (suc (suc (suc (suc (suc zero))))))) = lit≤ tt
zeros_small (suc (suc (suc (suc (suc (suc (suc (suc i)))))))) = lit≤ tt

zero_small : (load : List ℤ) (i : ℕ) → zero_load part_numbers ≡ load → unsigned_abs (get_or load i (pos 0)) ≤ 2 ^ 72
zero_small load i e = let P : List ℤ → Type 0 = λ l. unsigned_abs (get_or l i (pos 0)) ≤ 2 ^ 72 in subst P e (zeros_small i)

pub part_square : (here there : List Point) (p q : Vector) (ends : List Point) (gamma : ℤ) (form : LocalForm) → jump_form here p there q ends gamma ≡ Ok form → IsSquare 8 form
part_square here there p q ends gamma form e = record {
  rows = (jump_square here there p q ends gamma form e).0;
  columns = (jump_square here there p q ends gamma form e).1;
  load = ap length (sym (jump_is here there p q ends gamma form e).2);
  small = jump_small here there p q ends gamma form e;
  small_load = λ i. zero_small form.load i (jump_is here there p q ends gamma form e).2;
}

-- a local system that holds a form over these dofs
pub held : (n : ℕ) (dofs : List ℕ) (form : LocalForm) (system : LocalSystem) → system.used ≡ n → n ≤ 18 → block_in system ≡ record { dofs = dofs; form = form } → IsBlock (record { dofs = dofs; form = form }) → IsWhole system
held n dofs form system used room is block = record { within = omega (arith, used, room); block = subst IsBlock (sym is) block }

-- the block of these dofs and this form is made
pub held_form : (dofs : List ℕ) (form : LocalForm) (r : Result LocalForm LocalFault) (system : LocalSystem) → r ≡ Ok form → block_in system ≡ record { dofs = dofs; form = form } → with_dofs dofs r ≡ Ok (block_in system)
held_form dofs form r system e is = ap (with_dofs dofs) e ∙ ap Ok (sym is)

abbrev pub IsRobin : ℤ × ℤ → Type 0
IsRobin numbers = (unsigned_abs numbers.0 ≤ 2 ^ 31) × (unsigned_abs numbers.1 ≤ 2 ^ 31)

robin_or_zero : (robin : Option (ℤ × ℤ)) → IfSome robin IsRobin → IsRobin (unwrap_or robin (pos 0, pos 0))
robin_or_zero None h = (lit≤ tt, lit≤ tt)
robin_or_zero (Some numbers) h = h

pub robin_small : (robin : Option (ℤ × ℤ)) (numbers : ℤ × ℤ) → IfSome robin IsRobin → numbers ≡ unwrap_or robin (pos 0, pos 0) → IsRobin numbers
robin_small robin numbers h e = subst IsRobin (sym e) (robin_or_zero robin h)

-- the local system of a face of degree 1
pub face_block : (dofs : List ℕ) (ends : List Point) (alpha g : ℤ) (form : LocalForm) → length dofs ≡ 2 → length ends ≡ 2 → All IsWithinReach ends → unsigned_abs alpha ≤ 2 ^ 31 → unsigned_abs g ≤ 2 ^ 31 → boundary_form ends alpha g ≡ form →
    IsBlock (record { dofs = dofs; form = form })
face_block dofs ends alpha g form two e2 reach a b told =
    let P : LocalForm → Type 0 = λ f. IsBlock (record { dofs = dofs; form = f }) in
    subst P told (square_block 2 dofs (boundary_form ends alpha g) (lit≤ tt) two (face_square ends alpha g e2 reach a b))

-- a coefficient fits 64 bits
pub robin_fits : (a : ℤ) → unsigned_abs a ≤ 2 ^ 31 → FitsSigned w64 a
robin_fits a h =
    let small : 2 ^ 31 < 2 ^ 63 = lit≤ tt in
    fits_signed_from_abs w64 a (omega (arith, h, small))
