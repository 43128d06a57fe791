use Rattle.std.proofs.Common.{◌≡◌, ◌+ℤ◌, ◌*ℤ◌, ◌^◌, ◌≤◌, FitsSigned, lit<}
use Rattle.std.specs.Prelude.{unsigned_abs}
use Rattle.std.specs.Int.{w64, w128}
use Rattle.std.proofs.lemmas.Int.{to_z-of_z}
use Rattle.fem_fixed.proofs.Sizes.{size_fits}
use Rattle.fixed_q1.specs.declared.geometry.Vector.{Vector}
use Rattle.fixed_q1.proofs.Jumps.{normal_fits}
use Rattle.fixed_q2.proofs.Fits.{gradient_fits, product_size}
use Rattle.fixed_q2.proofs.jump.normal_product.Goals as goal

pub overflow_add-result : goal.overflow_add-result
overflow_add-result c =
    let n : Vector = c.args.normal in
    let g : Vector = c.args.gradient in
    let nx : FitsSigned w64 n.x = normal_fits n.x c.requires.normal.0 in
    let ny : FitsSigned w64 n.y = normal_fits n.y c.requires.normal.1 in
    let gx : FitsSigned w64 g.x = gradient_fits g.x c.requires.gradient.0 in
    let gy : FitsSigned w64 g.y = gradient_fits g.y c.requires.gradient.1 in
    let first : FitsSigned w128 c.product.result = record { sfits = c.product.type_inv } in
    let second : FitsSigned w128 c.product-2.result = record { sfits = c.product-2.type_inv } in
    let raw = c.product.ensures in
    let raw_2 = c.product-2.ensures in
    let value : c.product.result ≡ n.x *ℤ g.x = simp to_z-of_z at raw in
    let value_2 : c.product-2.result ≡ n.y *ℤ g.y = simp to_z-of_z at raw_2 in
    let size : unsigned_abs (n.x *ℤ g.x +ℤ n.y *ℤ g.y) ≤ 2 ^ 75 =
    product_size n g c.requires.normal.0 c.requires.normal.1 c.requires.gradient.0 c.requires.gradient.1 in
    let whole : FitsSigned w128 (c.product.result +ℤ c.product-2.result) = rw (value, value_2) (size_fits _ (2 ^ 75) size (lit< tt)) in
    simp to_z-of_z whole

pub returns-clause-value : goal.returns-clause-value
returns-clause-value c =
    let n : Vector = c.args.normal in
    let g : Vector = c.args.gradient in
    let nx : FitsSigned w64 n.x = normal_fits n.x c.requires.normal.0 in
    let ny : FitsSigned w64 n.y = normal_fits n.y c.requires.normal.1 in
    let gx : FitsSigned w64 g.x = gradient_fits g.x c.requires.gradient.0 in
    let gy : FitsSigned w64 g.y = gradient_fits g.y c.requires.gradient.1 in
    let first : FitsSigned w128 c.product.result = record { sfits = c.product.type_inv } in
    let second : FitsSigned w128 c.product-2.result = record { sfits = c.product-2.type_inv } in
    let raw = c.product.ensures in
    let raw_2 = c.product-2.ensures in
    let value : c.product.result ≡ n.x *ℤ g.x = simp to_z-of_z at raw in
    let value_2 : c.product-2.result ≡ n.y *ℤ g.y = simp to_z-of_z at raw_2 in
    let size : unsigned_abs (n.x *ℤ g.x +ℤ n.y *ℤ g.y) ≤ 2 ^ 75 =
    product_size n g c.requires.normal.0 c.requires.normal.1 c.requires.gradient.0 c.requires.gradient.1 in
    let whole : FitsSigned w128 (c.product.result +ℤ c.product-2.result) = rw (value, value_2) (size_fits _ (2 ^ 75) size (lit< tt)) in
    simp to_z-of_z (rw (value, value_2))

pub returns-clause-size : goal.returns-clause-size
returns-clause-size c =
    let n : Vector = c.args.normal in
    let g : Vector = c.args.gradient in
    let nx : FitsSigned w64 n.x = normal_fits n.x c.requires.normal.0 in
    let ny : FitsSigned w64 n.y = normal_fits n.y c.requires.normal.1 in
    let gx : FitsSigned w64 g.x = gradient_fits g.x c.requires.gradient.0 in
    let gy : FitsSigned w64 g.y = gradient_fits g.y c.requires.gradient.1 in
    let first : FitsSigned w128 c.product.result = record { sfits = c.product.type_inv } in
    let second : FitsSigned w128 c.product-2.result = record { sfits = c.product-2.type_inv } in
    let raw = c.product.ensures in
    let raw_2 = c.product-2.ensures in
    let value : c.product.result ≡ n.x *ℤ g.x = simp to_z-of_z at raw in
    let value_2 : c.product-2.result ≡ n.y *ℤ g.y = simp to_z-of_z at raw_2 in
    let size : unsigned_abs (n.x *ℤ g.x +ℤ n.y *ℤ g.y) ≤ 2 ^ 75 =
    product_size n g c.requires.normal.0 c.requires.normal.1 c.requires.gradient.0 c.requires.gradient.1 in
    let whole : FitsSigned w128 (c.product.result +ℤ c.product-2.result) = rw (value, value_2) (size_fits _ (2 ^ 75) size (lit< tt)) in
    simp to_z-of_z (rw (value, value_2) size)
