use Rattle.std.proofs.Common.{◌≡◌, ◌-ℤ◌, ◌*ℤ◌, FitsSigned, w64}
use Rattle.std.proofs.lemmas.Int.{to_z-of_z}
use Rattle.quad_mesh.specs.Geometry.{cross_product}
use Rattle.lumped_mass.proofs.Sizes.{point_fits, edge_fits, share_fits, share_size}
use Rattle.lumped_mass.proofs.shares.cross.Goals as goal

pub overflow_sub-ahead-2 : goal.overflow_sub-ahead-2
overflow_sub-ahead-2 c =
    let py : FitsSigned w64 c.args.at.y = point_fits c.args.at.y c.requires.at.1 in
    let ay : FitsSigned w64 c.args.ahead.y = point_fits c.args.ahead.y c.requires.ahead.1 in
    simp to_z-of_z (edge_fits c.args.at.y c.args.ahead.y c.requires.at.1 c.requires.ahead.1)

pub overflow_sub-behind-2 : goal.overflow_sub-behind-2
overflow_sub-behind-2 c =
    let px : FitsSigned w64 c.args.at.x = point_fits c.args.at.x c.requires.at.0 in
    let bx : FitsSigned w64 c.args.behind.x = point_fits c.args.behind.x c.requires.behind.0 in
    simp to_z-of_z (edge_fits c.args.at.x c.args.behind.x c.requires.at.0 c.requires.behind.0)

pub overflow_sub-result : goal.overflow_sub-result
overflow_sub-result c =
    let first : FitsSigned w64 c.product.result = record { sfits = c.product.type_inv } in
    let second : FitsSigned w64 c.product-2.result = record { sfits = c.product-2.type_inv } in
    simp to_z-of_z (share_fits c.product.result c.product-2.result c.product.ensures.small c.product-2.ensures.small)

pub returns-clause-value : goal.returns-clause-value
unfolding cross_product
returns-clause-value c =
    let first : FitsSigned w64 c.product.result = record { sfits = c.product.type_inv } in
    let second : FitsSigned w64 c.product-2.result = record { sfits = c.product-2.type_inv } in
    let whole : FitsSigned w64 (c.product.result -ℤ c.product-2.result) = share_fits c.product.result c.product-2.result c.product.ensures.small c.product-2.ensures.small in
    let px : FitsSigned w64 c.args.at.x = point_fits c.args.at.x c.requires.at.0 in
    let py : FitsSigned w64 c.args.at.y = point_fits c.args.at.y c.requires.at.1 in
    let ax : FitsSigned w64 c.args.ahead.x = point_fits c.args.ahead.x c.requires.ahead.0 in
    let ay : FitsSigned w64 c.args.ahead.y = point_fits c.args.ahead.y c.requires.ahead.1 in
    let bx : FitsSigned w64 c.args.behind.x = point_fits c.args.behind.x c.requires.behind.0 in
    let by : FitsSigned w64 c.args.behind.y = point_fits c.args.behind.y c.requires.behind.1 in
    let wx : FitsSigned w64 (c.args.ahead.x -ℤ c.args.at.x) = edge_fits c.args.at.x c.args.ahead.x c.requires.at.0 c.requires.ahead.0 in
    let wy : FitsSigned w64 (c.args.ahead.y -ℤ c.args.at.y) = edge_fits c.args.at.y c.args.ahead.y c.requires.at.1 c.requires.ahead.1 in
    let vx : FitsSigned w64 (c.args.behind.x -ℤ c.args.at.x) = edge_fits c.args.at.x c.args.behind.x c.requires.at.0 c.requires.behind.0 in
    let vy : FitsSigned w64 (c.args.behind.y -ℤ c.args.at.y) = edge_fits c.args.at.y c.args.behind.y c.requires.at.1 c.requires.behind.1 in
    let raw = c.product.ensures.value in
    let raw_second = c.product-2.ensures.value in
    let value : c.product.result ≡ (c.args.ahead.x -ℤ c.args.at.x) *ℤ (c.args.behind.y -ℤ c.args.at.y) = simp to_z-of_z at raw in
    let value_second : c.product-2.result ≡ (c.args.ahead.y -ℤ c.args.at.y) *ℤ (c.args.behind.x -ℤ c.args.at.x) = simp to_z-of_z at raw_second in
    simp to_z-of_z (rw (value, value_second))

pub returns-clause-small : goal.returns-clause-small
returns-clause-small c =
    let first : FitsSigned w64 c.product.result = record { sfits = c.product.type_inv } in
    let second : FitsSigned w64 c.product-2.result = record { sfits = c.product-2.type_inv } in
    let whole : FitsSigned w64 (c.product.result -ℤ c.product-2.result) = share_fits c.product.result c.product-2.result c.product.ensures.small c.product-2.ensures.small in
    simp to_z-of_z (share_size c.product.result c.product-2.result c.product.ensures.small c.product-2.ensures.small)
