-- Laws of products of signed numbers.
use Rattle.std.proofs.Common.{◌≡◌, ◌∙◌, sym, ap, ℕ, ◌+◌, ◌*◌, ℤ, ◌+ℤ◌, ◌*ℤ◌, arith}
use borrow.Author.Differences.{up, down, same_in, product_is, sum_is_lem}
use Rattle.fixed_q1.specs.declared.geometry.Vector.{Vector}
use Rattle.fixed_q1.specs.CellForm.{dot}
use Rattle.fixed_q2.specs.Samples.{flux_along}

scaled : (k m n : ℕ) → m ≡ n → m * k ≡ n * k
scaled k m n e = ap (λ x. x * k) e

-- both sides as differences of numbers, multiplied out
pub grouped : (a b c : ℤ) → a *ℤ b *ℤ c ≡ a *ℤ (b *ℤ c)
grouped a b c =
    let first = product_is a b in
    let second = product_is b c in
    let left = product_is (a *ℤ b) c in
    let right = product_is a (b *ℤ c) in
    let ups : up (a *ℤ b *ℤ c) ≡ up (a *ℤ (b *ℤ c)) =
    omega (arith, scaled (up c) _ _ first.0, scaled (down c) _ _ first.1, scaled (up a) _ _ second.0, scaled (down a) _ _ second.1) in
    let downs : down (a *ℤ b *ℤ c) ≡ down (a *ℤ (b *ℤ c)) =
    omega (arith, scaled (down c) _ _ first.0, scaled (up c) _ _ first.1, scaled (up a) _ _ second.1, scaled (down a) _ _ second.0) in
    same_in _ _ (λ i. ups i + sym downs i)

pub turned : (a b c : ℤ) → a *ℤ b *ℤ c ≡ a *ℤ c *ℤ b
turned a b c =
    let first = product_is a b in
    let second = product_is a c in
    let left = product_is (a *ℤ b) c in
    let right = product_is (a *ℤ c) b in
    let ups : up (a *ℤ b *ℤ c) ≡ up (a *ℤ c *ℤ b) =
    omega (arith, scaled (up c) _ _ first.0, scaled (down c) _ _ first.1, scaled (up b) _ _ second.0, scaled (down b) _ _ second.1) in
    let downs : down (a *ℤ b *ℤ c) ≡ down (a *ℤ c *ℤ b) =
    omega (arith, scaled (down c) _ _ first.0, scaled (up c) _ _ first.1, scaled (down b) _ _ second.0, scaled (up b) _ _ second.1) in
    same_in _ _ (λ i. ups i + sym downs i)

pub spread : (a b c : ℤ) → a *ℤ (b +ℤ c) ≡ a *ℤ b +ℤ a *ℤ c
spread a b c =
    let inner = sum_is_lem b c in
    let outer = sum_is_lem (a *ℤ b) (a *ℤ c) in
    let whole = product_is a (b +ℤ c) in
    let first = product_is a b in
    let second = product_is a c in
    same_in _ _ (omega (arith, scaled (up a) _ _ inner, scaled (down a) _ _ inner))

-- a gradient times the diffusion, in a scalar product
pub flux_dot : (d : ℤ) (g h : Vector) → dot (flux_along d g) h ≡ d *ℤ dot g h
flux_dot d g h =
    let x : d *ℤ g.x *ℤ h.x ≡ d *ℤ (g.x *ℤ h.x) = grouped d g.x h.x in
    let y : d *ℤ g.y *ℤ h.y ≡ d *ℤ (g.y *ℤ h.y) = grouped d g.y h.y in
    ap (λ n. n +ℤ d *ℤ g.y *ℤ h.y) x ∙ ap (λ n. d *ℤ (g.x *ℤ h.x) +ℤ n) y ∙ sym (spread d (g.x *ℤ h.x) (g.y *ℤ h.y))
