use Rattle.std.proofs.Common.{◌≡◌, ◌∙◌, ◌^◌, List, [], ◌∷◌, ℤ, FitsSigned, lit<}
use Rattle.std.specs.Int.{w64}
use Rattle.std.proofs.lemmas.Int.{to_z-of_z}
use Rattle.fixed_q1.specs.Evaluation.{number_at}
use Rattle.fixed_q1.proofs.Fits.{short_fits}
use Rattle.fixed_q1.proofs.Symmetry.{rows_same}
use Rattle.fixed_q1.proofs.TenEntries.{mirrored_is}
use Rattle.fixed_q1.proofs.sums.mirrored.Goals as goal

pub returns : goal.returns
returns c =
    let q : List ℤ = c.args.entries.now in
    let f0 : FitsSigned w64 (number_at q 0) = short_fits _ (2 ^ 53) (c.requires 0 (lit< tt)) (lit< tt) in
    let f1 : FitsSigned w64 (number_at q 1) = short_fits _ (2 ^ 53) (c.requires 1 (lit< tt)) (lit< tt) in
    let f2 : FitsSigned w64 (number_at q 2) = short_fits _ (2 ^ 53) (c.requires 2 (lit< tt)) (lit< tt) in
    let f3 : FitsSigned w64 (number_at q 3) = short_fits _ (2 ^ 53) (c.requires 3 (lit< tt)) (lit< tt) in
    let f4 : FitsSigned w64 (number_at q 4) = short_fits _ (2 ^ 53) (c.requires 4 (lit< tt)) (lit< tt) in
    let f5 : FitsSigned w64 (number_at q 5) = short_fits _ (2 ^ 53) (c.requires 5 (lit< tt)) (lit< tt) in
    let f6 : FitsSigned w64 (number_at q 6) = short_fits _ (2 ^ 53) (c.requires 6 (lit< tt)) (lit< tt) in
    let f7 : FitsSigned w64 (number_at q 7) = short_fits _ (2 ^ 53) (c.requires 7 (lit< tt)) (lit< tt) in
    let f8 : FitsSigned w64 (number_at q 8) = short_fits _ (2 ^ 53) (c.requires 8 (lit< tt)) (lit< tt) in
    let f9 : FitsSigned w64 (number_at q 9) = short_fits _ (2 ^ 53) (c.requires 9 (lit< tt)) (lit< tt) in
    let r0 = c.wide.ensures in
    let v0 : c.wide.result ≡ number_at q 0 ∷ number_at q 1 ∷ number_at q 2 ∷ number_at q 3 ∷ [] = simp to_z-of_z at r0 in
    let r1 = c.wide-2.ensures in
    let v1 : c.wide-2.result ≡ number_at q 1 ∷ number_at q 4 ∷ number_at q 5 ∷ number_at q 6 ∷ [] = simp to_z-of_z at r1 in
    let r2 = c.wide-3.ensures in
    let v2 : c.wide-3.result ≡ number_at q 2 ∷ number_at q 5 ∷ number_at q 7 ∷ number_at q 8 ∷ [] = simp to_z-of_z at r2 in
    let r3 = c.wide-4.ensures in
    let v3 : c.wide-4.result ≡ number_at q 3 ∷ number_at q 6 ∷ number_at q 8 ∷ number_at q 9 ∷ [] = simp to_z-of_z at r3 in
    λ es d e. rows_same _ _ _ _ _ _ _ _ v0 v1 v2 v3 ∙ mirrored_is es d q e
