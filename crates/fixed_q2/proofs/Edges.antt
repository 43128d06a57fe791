-- The form of a boundary face by its entries.
use Rattle.std.specs.Prelude.{All, unsigned_abs}
use Rattle.std.specs.Int.{w128}
use Rattle.std.proofs.lemmas.Int.{to_z-of_z}
use Rattle.std.proofs.Common.{zero, suc, arith, ◌^◌, ◌≤◌, FitsSigned, to_z, of_z, ◌≡◌, List, [], ◌∷◌, ℤ, pos, negsuc, ◌*ℤ◌}
use Rattle.fem_fixed.specs.declared.mesh.Point.{Point}
use Rattle.fem_fixed.specs.Rounding.{nearest}
use Rattle.fixed_q1.specs.BoundaryForm.{edge_length}
use Rattle.fixed_q2.specs.BoundaryForm.{edge_masses, edge_shares, robin_entry, robin_load, boundary_form}

pub form_listed : (ends : List Point) (alpha g l near other beside middle load share : ℤ) → l ≡ pos (edge_length ends) →
    near ≡ nearest (pos 4 *ℤ alpha *ℤ l) (pos 30) → other ≡ nearest (negsuc 0 *ℤ alpha *ℤ l) (pos 30) → beside ≡ nearest (pos 2 *ℤ alpha *ℤ l) (pos 30) →
    middle ≡ nearest (pos 16 *ℤ alpha *ℤ l) (pos 30) → load ≡ nearest (pos 1 *ℤ g *ℤ l) (pos 6) → share ≡ nearest (pos 4 *ℤ g *ℤ l) (pos 6) →
    boundary_form ends alpha g ≡ record {
      matrix = (near ∷ other ∷ beside ∷ []) ∷ (other ∷ near ∷ beside ∷ []) ∷ (beside ∷ beside ∷ middle ∷ []) ∷ [];
      load = load ∷ load ∷ share ∷ [];
    }
unfolding boundary_form robin_entry robin_load edge_masses edge_shares
form_listed ends alpha g l near other beside middle load share hl hn ho hb hm hf hs = rw (hn, ho, hb, hm, hf, hs, hl)

pub all_three : {X : Type 0} (P : X → Type 0) (x0 x1 x2 : X) → P x0 → P x1 → P x2 → All P (x0 ∷ x1 ∷ x2 ∷ [])
all_three P x0 x1 x2 h0 h1 h2 = elim [
  | zero ↦ λ d h. h0
  | suc zero ↦ λ d h. h1
  | suc (suc zero) ↦ λ d h. h2
  | suc (suc (suc i)) ↦ λ d h. absurd (omega (arith, h))
]

-- a number that fits keeps its size
pub kept_size : (x : ℤ) → FitsSigned w128 x → unsigned_abs x ≤ 2 ^ 72 → unsigned_abs (to_z w128 (of_z w128 x)) ≤ 2 ^ 72
kept_size x f h = simp to_z-of_z h
