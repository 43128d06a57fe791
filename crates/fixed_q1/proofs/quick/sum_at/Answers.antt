use Rattle.std.proofs.Common.{◌+◌, ◌≤◌, ◌^◌, ℤ, ◌+ℤ◌, FitsSigned, lit<}
use Rattle.std.specs.Prelude.{unsigned_abs}
use Rattle.std.specs.Int.{w64}
use Rattle.std.proofs.lemmas.Int.{to_z-of_z}
use Rattle.fixed_q1.specs.Evaluation.{number_at}
use Rattle.fixed_q1.proofs.Fits.{short_fits}
use Rattle.fixed_q1.proofs.TenEntries.{two_small, three_small, four_small}
use Rattle.fixed_q1.proofs.quick.sum_at.Goals as goal

pub overflow_add-result-3 : goal.overflow_add-result-3
overflow_add-result-3 c =
    let a : ℤ = number_at c.args.p0.now c.args.k in
    let b : ℤ = number_at c.args.p1.now c.args.k in
    let e : ℤ = number_at c.args.p2.now c.args.k in
    let f : ℤ = number_at c.args.p3.now c.args.k in
    let sa : unsigned_abs a ≤ 2 ^ 51 = c.requires.p0 c.args.k c.requires.k in
    let sb : unsigned_abs b ≤ 2 ^ 51 = c.requires.p1 c.args.k c.requires.k in
    let se : unsigned_abs e ≤ 2 ^ 51 = c.requires.p2 c.args.k c.requires.k in
    let sf : unsigned_abs f ≤ 2 ^ 51 = c.requires.p3 c.args.k c.requires.k in
    let fa : FitsSigned w64 a = short_fits a (2 ^ 51) sa (lit< tt) in
    let fb : FitsSigned w64 b = short_fits b (2 ^ 51) sb (lit< tt) in
    let fe : FitsSigned w64 e = short_fits e (2 ^ 51) se (lit< tt) in
    let ff : FitsSigned w64 f = short_fits f (2 ^ 51) sf (lit< tt) in
    let two : FitsSigned w64 (a +ℤ b) = short_fits _ (2 ^ 52) (two_small a b sa sb) (lit< tt) in
    let three : FitsSigned w64 (a +ℤ b +ℤ e) = short_fits _ (2 ^ 52 + 2 ^ 51) (three_small a b e sa sb se) (lit< tt) in
    let four : FitsSigned w64 (a +ℤ b +ℤ e +ℤ f) = short_fits _ (2 ^ 53) (four_small a b e f sa sb se sf) (lit< tt) in
    simp to_z-of_z four

pub returns-clause-value : goal.returns-clause-value
returns-clause-value c =
    let a : ℤ = number_at c.args.p0.now c.args.k in
    let b : ℤ = number_at c.args.p1.now c.args.k in
    let e : ℤ = number_at c.args.p2.now c.args.k in
    let f : ℤ = number_at c.args.p3.now c.args.k in
    let sa : unsigned_abs a ≤ 2 ^ 51 = c.requires.p0 c.args.k c.requires.k in
    let sb : unsigned_abs b ≤ 2 ^ 51 = c.requires.p1 c.args.k c.requires.k in
    let se : unsigned_abs e ≤ 2 ^ 51 = c.requires.p2 c.args.k c.requires.k in
    let sf : unsigned_abs f ≤ 2 ^ 51 = c.requires.p3 c.args.k c.requires.k in
    let fa : FitsSigned w64 a = short_fits a (2 ^ 51) sa (lit< tt) in
    let fb : FitsSigned w64 b = short_fits b (2 ^ 51) sb (lit< tt) in
    let fe : FitsSigned w64 e = short_fits e (2 ^ 51) se (lit< tt) in
    let ff : FitsSigned w64 f = short_fits f (2 ^ 51) sf (lit< tt) in
    let two : FitsSigned w64 (a +ℤ b) = short_fits _ (2 ^ 52) (two_small a b sa sb) (lit< tt) in
    let three : FitsSigned w64 (a +ℤ b +ℤ e) = short_fits _ (2 ^ 52 + 2 ^ 51) (three_small a b e sa sb se) (lit< tt) in
    let four : FitsSigned w64 (a +ℤ b +ℤ e +ℤ f) = short_fits _ (2 ^ 53) (four_small a b e f sa sb se sf) (lit< tt) in
    simp to_z-of_z

pub returns-clause-small : goal.returns-clause-small
returns-clause-small c =
    let a : ℤ = number_at c.args.p0.now c.args.k in
    let b : ℤ = number_at c.args.p1.now c.args.k in
    let e : ℤ = number_at c.args.p2.now c.args.k in
    let f : ℤ = number_at c.args.p3.now c.args.k in
    let sa : unsigned_abs a ≤ 2 ^ 51 = c.requires.p0 c.args.k c.requires.k in
    let sb : unsigned_abs b ≤ 2 ^ 51 = c.requires.p1 c.args.k c.requires.k in
    let se : unsigned_abs e ≤ 2 ^ 51 = c.requires.p2 c.args.k c.requires.k in
    let sf : unsigned_abs f ≤ 2 ^ 51 = c.requires.p3 c.args.k c.requires.k in
    let fa : FitsSigned w64 a = short_fits a (2 ^ 51) sa (lit< tt) in
    let fb : FitsSigned w64 b = short_fits b (2 ^ 51) sb (lit< tt) in
    let fe : FitsSigned w64 e = short_fits e (2 ^ 51) se (lit< tt) in
    let ff : FitsSigned w64 f = short_fits f (2 ^ 51) sf (lit< tt) in
    let two : FitsSigned w64 (a +ℤ b) = short_fits _ (2 ^ 52) (two_small a b sa sb) (lit< tt) in
    let three : FitsSigned w64 (a +ℤ b +ℤ e) = short_fits _ (2 ^ 52 + 2 ^ 51) (three_small a b e sa sb se) (lit< tt) in
    let four : FitsSigned w64 (a +ℤ b +ℤ e +ℤ f) = short_fits _ (2 ^ 53) (four_small a b e f sa sb se sf) (lit< tt) in
    simp to_z-of_z (four_small a b e f sa sb se sf)
