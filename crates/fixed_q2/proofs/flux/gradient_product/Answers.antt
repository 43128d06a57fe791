use Rattle.std.proofs.Common.{◌≡◌, ◌+ℤ◌, ◌*ℤ◌, ◌^◌, ◌≤◌, FitsSigned, lit<}
use Rattle.std.specs.Prelude.{unsigned_abs}
use Rattle.std.specs.Int.{w128, w64}
use Rattle.std.proofs.lemmas.Int.{to_z-of_z}
use Rattle.fem_fixed.proofs.Sizes.{size_fits}
use Rattle.fixed_q1.specs.declared.geometry.Vector.{Vector}
use Rattle.fixed_q2.proofs.Fits.{dot_size, gradient_fits}
use Rattle.fixed_q2.proofs.flux.gradient_product.Goals as goal

pub overflow_add-result : goal.overflow_add-result
overflow_add-result c =
    let g : Vector = c.args.g in
    let h : Vector = c.args.h in
    let gx : FitsSigned w64 g.x = gradient_fits g.x c.requires.g.0 in
    let gy : FitsSigned w64 g.y = gradient_fits g.y c.requires.g.1 in
    let hx : FitsSigned w64 h.x = gradient_fits h.x c.requires.h.0 in
    let hy : FitsSigned w64 h.y = gradient_fits h.y c.requires.h.1 in
    let first : FitsSigned w128 c.product.result = record { sfits = c.product.type_inv } in
    let second : FitsSigned w128 c.product-2.result = record { sfits = c.product-2.type_inv } in
    let raw = c.product.ensures in
    let raw_2 = c.product-2.ensures in
    let value : c.product.result ≡ g.x *ℤ h.x = simp to_z-of_z at raw in
    let value_2 : c.product-2.result ≡ g.y *ℤ h.y = simp to_z-of_z at raw_2 in
    let size : unsigned_abs (g.x *ℤ h.x +ℤ g.y *ℤ h.y) ≤ 2 ^ 95 = dot_size g h c.requires.g.0 c.requires.g.1 c.requires.h.0 c.requires.h.1 in
    let whole : FitsSigned w128 (c.product.result +ℤ c.product-2.result) = rw (value, value_2) (size_fits _ (2 ^ 95) size (lit< tt)) in
    simp to_z-of_z whole

pub returns-clause-value : goal.returns-clause-value
returns-clause-value c =
    let g : Vector = c.args.g in
    let h : Vector = c.args.h in
    let gx : FitsSigned w64 g.x = gradient_fits g.x c.requires.g.0 in
    let gy : FitsSigned w64 g.y = gradient_fits g.y c.requires.g.1 in
    let hx : FitsSigned w64 h.x = gradient_fits h.x c.requires.h.0 in
    let hy : FitsSigned w64 h.y = gradient_fits h.y c.requires.h.1 in
    let first : FitsSigned w128 c.product.result = record { sfits = c.product.type_inv } in
    let second : FitsSigned w128 c.product-2.result = record { sfits = c.product-2.type_inv } in
    let raw = c.product.ensures in
    let raw_2 = c.product-2.ensures in
    let value : c.product.result ≡ g.x *ℤ h.x = simp to_z-of_z at raw in
    let value_2 : c.product-2.result ≡ g.y *ℤ h.y = simp to_z-of_z at raw_2 in
    let size : unsigned_abs (g.x *ℤ h.x +ℤ g.y *ℤ h.y) ≤ 2 ^ 95 = dot_size g h c.requires.g.0 c.requires.g.1 c.requires.h.0 c.requires.h.1 in
    let whole : FitsSigned w128 (c.product.result +ℤ c.product-2.result) = rw (value, value_2) (size_fits _ (2 ^ 95) size (lit< tt)) in
    simp to_z-of_z (rw (value, value_2))

pub returns-clause-size : goal.returns-clause-size
returns-clause-size c =
    let g : Vector = c.args.g in
    let h : Vector = c.args.h in
    let gx : FitsSigned w64 g.x = gradient_fits g.x c.requires.g.0 in
    let gy : FitsSigned w64 g.y = gradient_fits g.y c.requires.g.1 in
    let hx : FitsSigned w64 h.x = gradient_fits h.x c.requires.h.0 in
    let hy : FitsSigned w64 h.y = gradient_fits h.y c.requires.h.1 in
    let first : FitsSigned w128 c.product.result = record { sfits = c.product.type_inv } in
    let second : FitsSigned w128 c.product-2.result = record { sfits = c.product-2.type_inv } in
    let raw = c.product.ensures in
    let raw_2 = c.product-2.ensures in
    let value : c.product.result ≡ g.x *ℤ h.x = simp to_z-of_z at raw in
    let value_2 : c.product-2.result ≡ g.y *ℤ h.y = simp to_z-of_z at raw_2 in
    let size : unsigned_abs (g.x *ℤ h.x +ℤ g.y *ℤ h.y) ≤ 2 ^ 95 = dot_size g h c.requires.g.0 c.requires.g.1 c.requires.h.0 c.requires.h.1 in
    let whole : FitsSigned w128 (c.product.result +ℤ c.product-2.result) = rw (value, value_2) (size_fits _ (2 ^ 95) size (lit< tt)) in
    simp to_z-of_z (rw (value, value_2) size)
