-- Numbers of the code that fit their types, and contributions by the cases of a line.
use Rattle.std.proofs.Common.{◌≡◌, ◌∙◌, sym, ap, refl, ℕ, zero, suc, ◌<◌, ◌≤◌, ◌^◌, ℤ, pos, negsuc, of_z, Bool, false, cond, List, [], ◌∷◌, ◌++◌, length, map, FitsSigned, w64, lit<, arith, Some, None, slice_index, slice_index_or}
use Rattle.std.specs.Prelude.{unsigned_abs}
use Rattle.std.specs.Int.{w128}
use Rattle.std.specs.List.{flat_map}
use Rattle.std.proofs.lemmas.Int.{fits_signed_from_abs}
use Rattle.std.proofs.lemmas.List.{get_or_default, append-nil}
use Rattle.fem_fixed.proofs.Sizes.{size_fits}
use Rattle.affine_constraints.specs.declared.term.Term.{Term}
use Rattle.affine_constraints.specs.Lines.{AffineLine, Lines}
use Rattle.cell_blocks.specs.LocalBlocks.{LocalBlock}
use Rattle.serial_sum.specs.declared.part.Target.TheVariants.{Column, RightSide}
use Rattle.block_sums.specs.Masters.{masters, masters_by, constant_of, itself, Holds, IsMasterFor}
use Rattle.block_sums.specs.Contributions.{to, is_zero, column_terms, constant_terms, master_terms, row_terms, own_terms, dof_at, entry_at}
use Rattle.block_sums.specs.Shares.{entry_share, constant_share}

pub fits_weight : (a : ℤ) → unsigned_abs a ≤ 2 ^ 31 → FitsSigned w64 a
fits_weight a h = fits_signed_from_abs w64 a (omega (arith, h))

pub fits_share : (a : ℤ) → unsigned_abs a ≤ 2 ^ 100 → FitsSigned w128 a
fits_share a h = size_fits a (2 ^ 100) h (lit< tt)

pub not_zero : (constant : ℤ) → (of_z w64 constant ≡ 0 → ⊥) → is_zero constant ≡ false
not_zero (pos zero) h = absurd (h refl)
not_zero (pos (suc n)) h = grind arith
not_zero (negsuc n) h = grind arith

-- a constant that isn't 0 adds its share
pub constant_left : (row : ℕ) (weight entry constant share : ℤ) → is_zero constant ≡ false → share ≡ constant_share weight entry constant → to row RightSide share ∷ [] ≡ constant_terms row weight entry constant
constant_left row weight entry constant share there e =
    ap (λ (v : ℤ). to row RightSide v ∷ []) e ∙ sym (ap (λ (b : Bool). cond b [] (to row RightSide (constant_share weight entry constant) ∷ [])) there)

-- a free dof is its own master
pub free_masters : (lines : Lines) (dof : ℕ) → lines dof ≡ None → masters lines dof ≡ itself dof ∷ []
unfolding masters
free_masters lines dof e = ap (λ l. masters_by l dof) e

pub line_masters : (lines : Lines) (dof : ℕ) (line : AffineLine) → lines dof ≡ Some line → masters lines dof ≡ line.terms
unfolding masters
line_masters lines dof line e = ap (λ l. masters_by l dof) e

pub free_column : (lines : Lines) (master : Term) (entry : ℤ) (dof : ℕ) → lines dof ≡ None → to master.dof (Column dof) (entry_share master.weight entry (pos 65536)) ∷ [] ≡ column_terms lines master entry dof
unfolding masters constant_of
free_column lines master entry dof e = rw e refl

pub line_column : (lines : Lines) (master : Term) (entry : ℤ) (dof : ℕ) (line : AffineLine) → lines dof ≡ Some line →
    map (λ (other : Term). to master.dof (Column other.dof) (entry_share master.weight entry other.weight)) line.terms ++ constant_terms master.dof master.weight entry line.constant ≡ column_terms lines master entry dof
unfolding masters constant_of
line_column lines master entry dof line e = rw e refl

pub free_row : (lines : Lines) (block : LocalBlock) (i dof : ℕ) → dof ≡ dof_at block i → lines dof ≡ None → master_terms lines block i (itself dof) ≡ row_terms lines block i
unfolding row_terms masters
free_row lines block i dof d e =
    let at : lines (dof_at block i) ≡ None = ap lines (sym d) ∙ e in
    rw at (ap (λ n. master_terms lines block i (itself n)) d ∙ sym (append-nil (master_terms lines block i (itself (dof_at block i)))) ∙ sym (append-nil (master_terms lines block i (itself (dof_at block i)) ++ [])))

pub line_row : (lines : Lines) (block : LocalBlock) (i dof : ℕ) (line : AffineLine) → dof ≡ dof_at block i → lines dof ≡ Some line →
    flat_map (master_terms lines block i) line.terms ++ own_terms dof (unsigned_abs (entry_at block i i)) line.constant ≡ row_terms lines block i
unfolding row_terms masters
line_row lines block i dof line d e =
    let at : lines (dof_at block i) ≡ Some line = ap lines (sym d) ∙ e in
    rw at (ap (λ n. flat_map (master_terms lines block i) line.terms ++ own_terms n (unsigned_abs (entry_at block i i)) line.constant) d)

-- a master of one of the dofs
pub master_for : (pattern : List (List ℕ)) (lines : Lines) (dofs : List ℕ) (i k : ℕ) (d : Term) → Holds pattern lines dofs → i < length dofs → k < length (masters lines (slice_index dofs i)) →
    IsMasterFor pattern lines dofs (slice_index_or (masters lines (slice_index dofs i)) k d)
master_for pattern lines dofs i k d h a b = record {
  row = (h.masters i 0 a i 0 a k d b k d b).within;
  others = λ j e l. λ q t m. h.masters i 0 a j e l k d b q t m;
}

pub same_term : (terms : List Term) (k : ℕ) (d e : Term) → k < length terms → slice_index_or terms k d ≡ slice_index_or terms k e
same_term terms k d e h = get_or_default terms k d e h
