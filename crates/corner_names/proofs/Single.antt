-- One cell is a mesh: the four nodes of a single quad, with all faces on the boundary.
use Rattle.std.proofs.Common.{◌≡◌, ℕ, zero, suc, lit<, ◌<◌, Bool, true, false, refl, sym, ap, ◌∙◌, arith}
use Rattle.corner_names.specs.Names.{root}
use Rattle.corner_names.specs.Cells.{Corners, vertex, mid, AreDistinct}
use Rattle.corner_names.specs.Forest.{IsMesh}
use Rattle.corner_names.proofs.Across.{mid_one}

abbrev single : Corners
single c v = v

abbrev all_boundary : ℕ → ℕ → Bool
all_boundary c f = true

single_distinct : AreDistinct 1 single
single_distinct c v w is a b e = e

below_one : (c : ℕ) → c < 1 → c ≡ 0
below_one c h = omega arith

pub single_mesh : IsMesh 1 single all_boundary
single_mesh =
    let apart : (c d f h : ℕ) → c < 1 → d < 1 → f < 4 → h < 4 → mid single (root c) f ≡ mid single (root d) h → (c ≡ d → f ≡ h → ⊥) → ⊥ =
    λ c d f h ic id a b e none.
    let cd : c ≡ d = below_one c ic ∙ sym (below_one d id) in
    none cd (mid_one 1 single single_distinct (root c) ic f h a b (e ∙ ap (λ x. mid single (root x) h) (sym cd))) in
    record {
      distinct = single_distinct;
      shared = λ c d e f g h ic id ie a b k x y s t. absurd (apart c d f g ic id a b x s);
      alone = λ c f d h ic id a b on x. apart c d f h ic id a b x.0 x.1;
      joined = λ c f ic a off. absurd cc;
    }

-- two cells on the same four corners are a mesh with no boundary
abbrev pub no_boundary : ℕ → ℕ → Bool
no_boundary c f = false

other_of : (c : ℕ) → c < 2 → (d : ℕ) × ((d < 2) × (c ≡ d → ⊥))
other_of zero h = (1, (lit< tt, λ e. omega arith))
other_of (suc zero) h = (0, (lit< tt, λ e. omega arith))
other_of (suc (suc c)) h = absurd (omega arith)

two_distinct : AreDistinct 2 single
two_distinct c v w is a b e = e

double_mid : (c d f : ℕ) → mid single (root c) f ≡ mid single (root d) f
unfolding mid vertex
double_mid c d f = refl

pub double_mesh : IsMesh 2 single no_boundary
double_mesh =
    let same : (c d f h : ℕ) → c < 2 → f < 4 → h < 4 → mid single (root c) f ≡ mid single (root d) h → f ≡ h =
    λ c d f h ic a b e. mid_one 2 single two_distinct (root c) ic f h a b (e ∙ double_mid d c h) in
    record {
      distinct = two_distinct;
      shared = λ c d e f g h ic id ie a b k x y s t.
          let fg : f ≡ g = same c d f g ic a b x in let fh : f ≡ h = same c e f h ic a k y in
          let cd : c ≡ d → ⊥ = λ z. s z fg in let ce : c ≡ e → ⊥ = λ z. t z fh in (omega arith, sym fg ∙ fh);
      alone = λ c f d h ic id a b on x. absurd cc;
      joined = λ c f ic a off. let o = other_of c ic in (o.0, (f, (o.1.0, a, (double_mid c o.0 f, λ z _. o.1.1 z))));
    }
