use Rattle.std.proofs.Common.{◌≡◌, ◌∙◌, refl, ℤ, pos, ◌*ℤ◌, ◌^◌, ◌≤◌, FitsSigned, arith, lit<}
use Rattle.std.specs.Prelude.{unsigned_abs}
use Rattle.std.specs.Int.{w64, w128}
use Rattle.std.proofs.lemmas.Int.{to_z-of_z}
use Rattle.fem_fixed.specs.Rounding.{IsNearest}
use Rattle.fem_fixed.proofs.Sizes.{size_mul, size_fits}
use Rattle.fixed_q1.specs.Evaluation.{number_at}
use Rattle.fixed_q2.specs.declared.sample.Sample.{Sample}
use Rattle.fixed_q2.specs.declared.flux.ScaledSource.{ScaledSource}
use Rattle.fixed_q2.proofs.Fluxes.{certain_source}
use Rattle.fixed_q1.proofs.Fits.{short_fits}
use Rattle.fixed_q2.proofs.flux.source_part.Goals as goal

pub is_certain-requires-clause-n : goal.is_certain-requires-clause-n
is_certain-requires-clause-n c =
    let s : Sample = c.args.sample.now in
    let h : ScaledSource = c.args.scaled in
    let v : ℤ = number_at s.values c.args.i in
    let size_v : unsigned_abs v ≤ 2 ^ 32 = c.requires.sample.values c.args.i c.requires.i in
    let fv : FitsSigned w64 v = short_fits v (2 ^ 32) size_v (lit< tt) in
    let scaled : h.product ≡ c.args.source *ℤ s.determinant = c.requires.scaled in
    let size_h : unsigned_abs h.product ≤ 2 ^ 88 = rw scaled (size_mul c.args.source s.determinant (2 ^ 31) (2 ^ 57) c.requires.source c.requires.sample.determinant) in
    let fh : FitsSigned w128 h.product = size_fits h.product (2 ^ 88) size_h (lit< tt) in
    let raw_size = c.unsigned_abs.ensures.value in
    let measured : c.unsigned_abs.result ≡ unsigned_abs h.product = simp to_z-of_z at raw_size in
    let short : unsigned_abs h.product ≤ 2 ^ 62 = omega (arith, measured, c.if-unsigned_abs-lt-SCALED_SOURCE_LIMIT.true) in
    let fh2 : FitsSigned w64 h.product = short_fits h.product (2 ^ 62) short (lit< tt) in
    let raw = c.product.ensures in
    let value : c.product.result ≡ h.product *ℤ v = simp to_z-of_z at raw in
    let fp : FitsSigned w128 c.product.result = record { sfits = c.product.type_inv } in
    let size : unsigned_abs (h.product *ℤ v) ≤ 2 ^ 94 = size_mul h.product v (2 ^ 62) (2 ^ 32) short size_v in
    let less : unsigned_abs (h.product *ℤ v) ≤ 2 ^ 122 = omega (arith, size) in
    simp to_z-of_z (rw value less)

pub returns-then-is_certain-clause-value : goal.returns-then-is_certain-clause-value
returns-then-is_certain-clause-value c =
    let s : Sample = c.args.sample.now in
    let h : ScaledSource = c.args.scaled in
    let v : ℤ = number_at s.values c.args.i in
    let size_v : unsigned_abs v ≤ 2 ^ 32 = c.requires.sample.values c.args.i c.requires.i in
    let fv : FitsSigned w64 v = short_fits v (2 ^ 32) size_v (lit< tt) in
    let scaled : h.product ≡ c.args.source *ℤ s.determinant = c.requires.scaled in
    let size_h : unsigned_abs h.product ≤ 2 ^ 88 = rw scaled (size_mul c.args.source s.determinant (2 ^ 31) (2 ^ 57) c.requires.source c.requires.sample.determinant) in
    let fh : FitsSigned w128 h.product = size_fits h.product (2 ^ 88) size_h (lit< tt) in
    let raw_size = c.unsigned_abs.ensures.value in
    let measured : c.unsigned_abs.result ≡ unsigned_abs h.product = simp to_z-of_z at raw_size in
    let short : unsigned_abs h.product ≤ 2 ^ 62 = omega (arith, measured, c.if-unsigned_abs-lt-SCALED_SOURCE_LIMIT.true) in
    let fh2 : FitsSigned w64 h.product = short_fits h.product (2 ^ 62) short (lit< tt) in
    let raw = c.product.ensures in
    let value : c.product.result ≡ h.product *ℤ v = simp to_z-of_z at raw in
    let fp : FitsSigned w128 c.product.result = record { sfits = c.product.type_inv } in
    let size : unsigned_abs (h.product *ℤ v) ≤ 2 ^ 94 = size_mul h.product v (2 ^ 62) (2 ^ 32) short size_v in
    let q : ℤ = c.guess_of-guess.result in
    let fw : FitsSigned w64 s.weight = short_fits _ 64 c.requires.sample.weight (lit< tt) in
    let fq : FitsSigned w64 q = record { sfits = c.guess_of-guess.type_inv } in
    let fr : FitsSigned w128 c.parts_of.result = record { sfits = c.parts_of.type_inv } in
    let whole = c.parts_of.ensures.value in
    let certain = c.if-is_certain.ensures in
    let close : IsNearest c.product.result (pos (2 ^ 48)) q = (simp to_z-of_z at certain) refl in
    let near : IsNearest (h.product *ℤ v) (pos (2 ^ 48)) q = rw (← value) close in
    simp to_z-of_z ((simp to_z-of_z at whole) ∙ certain_source c.args.source s h c.args.i q scaled near)
