-- Numbers on the way to the forms fit 64 or 128 bits.
use Rattle.std.proofs.Common.{◌+◌, ◌*◌, ◌^◌, ◌≤◌, ℤ, pos, ◌+ℤ◌, ◌-ℤ◌, ◌*ℤ◌, ◌<ℤ◌, FitsSigned, arith, lit<, lit≤}
use Rattle.std.specs.Prelude.{unsigned_abs}
use Rattle.std.specs.Int.{w64}
use Rattle.std.proofs.lemmas.Int.{ints}
use Rattle.fem_fixed.proofs.Sizes.{size_add, size_sub, size_mul}
use Rattle.fixed_q1.specs.declared.geometry.Vector.{Vector}
use Rattle.fixed_q1.proofs.Fits.{short_fits}

pub gradient_fits : (a : ℤ) → unsigned_abs a ≤ 2 ^ 47 → FitsSigned w64 a
gradient_fits a h = short_fits a (2 ^ 47) h (lit< tt)

pub flux_fits : (a : ℤ) → unsigned_abs a ≤ 2 ^ 61 → FitsSigned w64 a
flux_fits a h = short_fits a (2 ^ 61) h (lit< tt)

pub across_size : (a b : ℤ) → unsigned_abs a ≤ 2 ^ 27 → unsigned_abs b ≤ 2 ^ 47 → unsigned_abs (a *ℤ b) ≤ 2 ^ 74
across_size a b ha hb = size_mul a b (2 ^ 27) (2 ^ 47) ha hb

pub product_size : (n g : Vector) → unsigned_abs n.x ≤ 2 ^ 27 → unsigned_abs n.y ≤ 2 ^ 27 → unsigned_abs g.x ≤ 2 ^ 47 → unsigned_abs g.y ≤ 2 ^ 47 →
    unsigned_abs (n.x *ℤ g.x +ℤ n.y *ℤ g.y) ≤ 2 ^ 75
product_size n g nx ny gx gy = size_add (n.x *ℤ g.x) (n.y *ℤ g.y) (2 ^ 74) (2 ^ 74) (across_size n.x g.x nx gx) (across_size n.y g.y ny gy)

pub dot_size : (g h : Vector) → unsigned_abs g.x ≤ 2 ^ 47 → unsigned_abs g.y ≤ 2 ^ 47 → unsigned_abs h.x ≤ 2 ^ 47 → unsigned_abs h.y ≤ 2 ^ 47 →
    unsigned_abs (g.x *ℤ h.x +ℤ g.y *ℤ h.y) ≤ 2 ^ 95
dot_size g h gx gy hx hy =
    size_add (g.x *ℤ h.x) (g.y *ℤ h.y) (2 ^ 94) (2 ^ 94) (size_mul g.x h.x (2 ^ 47) (2 ^ 47) gx hx) (size_mul g.y h.y (2 ^ 47) (2 ^ 47) gy hy)

pub flux_size : (g h : Vector) → unsigned_abs g.x ≤ 2 ^ 61 → unsigned_abs g.y ≤ 2 ^ 61 → unsigned_abs h.x ≤ 2 ^ 47 → unsigned_abs h.y ≤ 2 ^ 47 →
    unsigned_abs (g.x *ℤ h.x +ℤ g.y *ℤ h.y) ≤ 2 ^ 109
flux_size g h gx gy hx hy =
    size_add (g.x *ℤ h.x) (g.y *ℤ h.y) (2 ^ 108) (2 ^ 108) (size_mul g.x h.x (2 ^ 61) (2 ^ 47) gx hx) (size_mul g.y h.y (2 ^ 61) (2 ^ 47) gy hy)

-- a difference of two products
pub cross_near : (a b c d : ℤ) → unsigned_abs b ≤ 2 ^ 18 → unsigned_abs d ≤ 2 ^ 18 →
    unsigned_abs (a *ℤ b -ℤ c *ℤ d) ≤ (unsigned_abs a + unsigned_abs c) * 2 ^ 18
cross_near a b c d hb hd =
    let first : unsigned_abs (a *ℤ b) ≤ unsigned_abs a * 2 ^ 18 = size_mul a b (unsigned_abs a) (2 ^ 18) (omega arith) hb in
    let second : unsigned_abs (c *ℤ d) ≤ unsigned_abs c * 2 ^ 18 = size_mul c d (unsigned_abs c) (2 ^ 18) (omega arith) hd in
    let both : unsigned_abs (a *ℤ b -ℤ c *ℤ d) ≤ unsigned_abs a * 2 ^ 18 + unsigned_abs c * 2 ^ 18 =
    size_sub (a *ℤ b) (c *ℤ d) (unsigned_abs a * 2 ^ 18) (unsigned_abs c * 2 ^ 18) first second in
    omega (arith, both)

pub cross_size : (a b c d : ℤ) → unsigned_abs a ≤ 2 ^ 28 → unsigned_abs b ≤ 2 ^ 18 → unsigned_abs c ≤ 2 ^ 28 → unsigned_abs d ≤ 2 ^ 18 →
    unsigned_abs (a *ℤ b -ℤ c *ℤ d) ≤ 2 ^ 47
cross_size a b c d ha hb hc hd =
    size_sub (a *ℤ b) (c *ℤ d) (2 ^ 46) (2 ^ 46) (size_mul a b (2 ^ 28) (2 ^ 18) ha hb) (size_mul c d (2 ^ 28) (2 ^ 18) hc hd)

-- over a positive determinant
pub scaled_positive : (d : ℤ) → pos 0 <ℤ d → pos 0 <ℤ (pos 65536 *ℤ d)
scaled_positive d h = omega (arith, ints)

pub scaled_size : (d : ℤ) → unsigned_abs d ≤ 2 ^ 57 → unsigned_abs (pos 65536 *ℤ d) ≤ 2 ^ 73
scaled_size d h = size_mul (pos 65536) d (2 ^ 16) (2 ^ 57) (lit≤ tt) h

at_least : (d : ℤ) → pos 0 <ℤ d → 65536 ≤ unsigned_abs (pos 65536 *ℤ d)
at_least d h = omega (arith, ints)

pub over_size : (n d : ℤ) → pos 0 <ℤ d → unsigned_abs n ≤ 2 ^ 126 → unsigned_abs n ≤ 2 ^ 110 * unsigned_abs (pos 65536 *ℤ d)
over_size n d positive small =
    let big : 65536 ≤ unsigned_abs (pos 65536 *ℤ d) = at_least d positive in
    omega (arith, big, small)
