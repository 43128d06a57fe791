-- What the quick ways of a cell's form give.
use Rattle.std.proofs.Common.{◌≡◌, ◌∙◌, sym, refl, ap, ℕ, ◌+◌, ◌<◌, ◌≤◌, ◌^◌, List, [], ◌∷◌, length, slice_index_or, Bool, true, false, ℤ, pos, ◌+ℤ◌, ◌*ℤ◌, arith, lit≤}
use Rattle.std.specs.Prelude.{map, unsigned_abs, IsTrue, ◌&&◌}
use Rattle.fem_fixed.proofs.Sizes.{size_add, size_mul}
use Rattle.fem_fixed.specs.Rounding.{nearest}
use Rattle.fixed_q1.specs.declared.evaluation.Evaluation.{Evaluation}
use Rattle.fixed_q1.specs.CellForm.{total}
use Rattle.fixed_q1.specs.Evaluation.{number_at, kept_diffusion, kept_source, kept_matrix, kept_load}
use Rattle.fixed_q1.specs.TenEntries.{ten_parts, ten_entries}
use Rattle.fixed_q1.proofs.Symmetry.{entry_commutes, rows_same}
use Rattle.fixed_q1.proofs.Parts.{numbers_same, sum_of_parts}
use Rattle.fem_fixed.proofs.Signs.{none_times}

-- without a source the load is zero
no_product : (v d : ℤ) → pos 0 *ℤ v *ℤ d ≡ pos 0
no_product v d = ap (λ x. x *ℤ d) (none_times v) ∙ none_times d

no_quotient : (x : ℤ) → x ≡ pos 0 → pos 0 ≡ nearest x (pos (2 ^ 50))
unfolding nearest
no_quotient x h = ap (λ y. nearest y (pos (2 ^ 50))) (sym h)

no_part : (i : ℕ) (e : Evaluation) → pos 0 ≡ kept_source (pos 0) i e
unfolding kept_source
no_part i e = no_quotient _ (no_product (number_at e.values i) e.determinant)

no_sum : (i : ℕ) (es : List Evaluation) → pos 0 ≡ total (map (kept_source (pos 0) i) es)
no_sum i [] = refl
no_sum i (e ∷ es) =
    let first : pos 0 ≡ kept_source (pos 0) i e = no_part i e in
    let more : pos 0 ≡ total (map (kept_source (pos 0) i) es) = no_sum i es in
    ap (λ x. x +ℤ pos 0) first ∙ ap (λ x. kept_source (pos 0) i e +ℤ x) more

pub no_load : (source : ℤ) (es : List Evaluation) → source ≡ pos 0 → pos 0 ∷ pos 0 ∷ pos 0 ∷ pos 0 ∷ [] ≡ kept_load es source
no_load source es h = rw h (numbers_same _ _ _ _ _ _ _ _ (no_sum 0 es) (no_sum 1 es) (no_sum 2 es) (no_sum 3 es))

-- a matrix from its ten entries
pub mirrored_is : (es : List Evaluation) (d : ℤ) (q : List ℤ) → q ≡ ten_entries es d →
    ◌≡◌ {A = List (List ℤ)} ((number_at q 0 ∷ number_at q 1 ∷ number_at q 2 ∷ number_at q 3 ∷ []) ∷ (number_at q 1 ∷ number_at q 4 ∷ number_at q 5 ∷ number_at q 6 ∷ [])
    ∷ (number_at q 2 ∷ number_at q 5 ∷ number_at q 7 ∷ number_at q 8 ∷ []) ∷ (number_at q 3 ∷ number_at q 6 ∷ number_at q 8 ∷ number_at q 9 ∷ []) ∷ []) (kept_matrix es d)
mirrored_is es d q h = rw h (rows_same _ _ _ _ _ _ _ _ refl
    (numbers_same _ _ _ _ _ _ _ _ (entry_commutes es d 0 1) refl refl refl)
    (numbers_same _ _ _ _ _ _ _ _ (entry_commutes es d 0 2) (entry_commutes es d 1 2) refl refl)
    (numbers_same _ _ _ _ _ _ _ _ (entry_commutes es d 0 3) (entry_commutes es d 1 3) (entry_commutes es d 2 3) refl))

-- sums of four numbers
pub two_small : (a b : ℤ) → unsigned_abs a ≤ 2 ^ 51 → unsigned_abs b ≤ 2 ^ 51 → unsigned_abs (a +ℤ b) ≤ 2 ^ 52
two_small a b ha hb = size_add a b (2 ^ 51) (2 ^ 51) ha hb

pub three_small : (a b c : ℤ) → unsigned_abs a ≤ 2 ^ 51 → unsigned_abs b ≤ 2 ^ 51 → unsigned_abs c ≤ 2 ^ 51 → unsigned_abs (a +ℤ b +ℤ c) ≤ 2 ^ 52 + 2 ^ 51
three_small a b c ha hb hc = size_add (a +ℤ b) c (2 ^ 52) (2 ^ 51) (two_small a b ha hb) hc

pub four_small : (a b c d : ℤ) → unsigned_abs a ≤ 2 ^ 51 → unsigned_abs b ≤ 2 ^ 51 → unsigned_abs c ≤ 2 ^ 51 → unsigned_abs d ≤ 2 ^ 51 → unsigned_abs (a +ℤ b +ℤ c +ℤ d) ≤ 2 ^ 53
four_small a b c d ha hb hc hd = size_add (a +ℤ b +ℤ c) d (2 ^ 52 + 2 ^ 51) (2 ^ 51) (three_small a b c ha hb hc) hd

-- ten tests that were passed
both_true : (a b : Bool) → IsTrue (a && b) → IsTrue a × IsTrue b
both_true true true h = (refl, refl)
both_true true false h = absurd (cc h)
both_true false b h = absurd (cc h)

ten_same : (a0 a1 a2 a3 a4 a5 a6 a7 a8 a9 b0 b1 b2 b3 b4 b5 b6 b7 b8 b9 : ℤ) → a0 ≡ b0 → a1 ≡ b1 → a2 ≡ b2 → a3 ≡ b3 → a4 ≡ b4 → a5 ≡ b5 → a6 ≡ b6 → a7 ≡ b7 → a8 ≡ b8 → a9 ≡ b9 →
    ◌≡◌ {A = List ℤ} (a0 ∷ a1 ∷ a2 ∷ a3 ∷ a4 ∷ a5 ∷ a6 ∷ a7 ∷ a8 ∷ a9 ∷ []) (b0 ∷ b1 ∷ b2 ∷ b3 ∷ b4 ∷ b5 ∷ b6 ∷ b7 ∷ b8 ∷ b9 ∷ [])
ten_same a0 a1 a2 a3 a4 a5 a6 a7 a8 a9 b0 b1 b2 b3 b4 b5 b6 b7 b8 b9 h0 h1 h2 h3 h4 h5 h6 h7 h8 h9 = λ k. h0 k ∷ h1 k ∷ h2 k ∷ h3 k ∷ h4 k ∷ h5 k ∷ h6 k ∷ h7 k ∷ h8 k ∷ h9 k ∷ []

ten_listed : (q : List ℤ) → length q ≡ 10 → number_at q 0 ∷ number_at q 1 ∷ number_at q 2 ∷ number_at q 3 ∷ number_at q 4 ∷ number_at q 5 ∷ number_at q 6 ∷ number_at q 7 ∷ number_at q 8 ∷ number_at q 9 ∷ [] ≡ q
ten_listed [] h = absurd (omega arith)
ten_listed (x0 ∷ []) h = absurd (omega arith)
ten_listed (x0 ∷ x1 ∷ []) h = absurd (omega arith)
ten_listed (x0 ∷ x1 ∷ x2 ∷ []) h = absurd (omega arith)
ten_listed (x0 ∷ x1 ∷ x2 ∷ x3 ∷ []) h = absurd (omega arith)
ten_listed (x0 ∷ x1 ∷ x2 ∷ x3 ∷ x4 ∷ []) h = absurd (omega arith)
ten_listed (x0 ∷ x1 ∷ x2 ∷ x3 ∷ x4 ∷ x5 ∷ []) h = absurd (omega arith)
ten_listed (x0 ∷ x1 ∷ x2 ∷ x3 ∷ x4 ∷ x5 ∷ x6 ∷ []) h = absurd (omega arith)
ten_listed (x0 ∷ x1 ∷ x2 ∷ x3 ∷ x4 ∷ x5 ∷ x6 ∷ x7 ∷ []) h = absurd (omega arith)
ten_listed (x0 ∷ x1 ∷ x2 ∷ x3 ∷ x4 ∷ x5 ∷ x6 ∷ x7 ∷ x8 ∷ []) h = absurd (omega arith)
ten_listed (x0 ∷ x1 ∷ x2 ∷ x3 ∷ x4 ∷ x5 ∷ x6 ∷ x7 ∷ x8 ∷ x9 ∷ []) h = refl
ten_listed (x0 ∷ x1 ∷ x2 ∷ x3 ∷ x4 ∷ x5 ∷ x6 ∷ x7 ∷ x8 ∷ x9 ∷ x10 ∷ q) h = absurd (omega arith)

pub ten_are : (q : List ℤ) (d : ℤ) (e : Evaluation) → length q ≡ 10 → number_at q 0 ≡ kept_diffusion d 0 0 e → number_at q 1 ≡ kept_diffusion d 0 1 e → number_at q 2 ≡ kept_diffusion d 0 2 e → number_at q 3 ≡ kept_diffusion d 0 3 e → number_at q 4 ≡ kept_diffusion d 1 1 e → number_at q 5 ≡ kept_diffusion d 1 2 e → number_at q 6 ≡ kept_diffusion d 1 3 e → number_at q 7 ≡ kept_diffusion d 2 2 e → number_at q 8 ≡ kept_diffusion d 2 3 e → number_at q 9 ≡ kept_diffusion d 3 3 e → q ≡ ten_parts d e
ten_are q d e size h0 h1 h2 h3 h4 h5 h6 h7 h8 h9 = sym (ten_listed q size) ∙ ten_same _ _ _ _ _ _ _ _ _ _ _ _ _ _ _ _ _ _ _ _ h0 h1 h2 h3 h4 h5 h6 h7 h8 h9

pub ten_passed : (q : List ℤ) (d : ℤ) (e : Evaluation) (t0 t1 t2 t3 t4 t5 t6 t7 t8 t9 : Bool) → length q ≡ 10 → (IsTrue t0 → number_at q 0 ≡ kept_diffusion d 0 0 e) → (IsTrue t1 → number_at q 1 ≡ kept_diffusion d 0 1 e) → (IsTrue t2 → number_at q 2 ≡ kept_diffusion d 0 2 e) → (IsTrue t3 → number_at q 3 ≡ kept_diffusion d 0 3 e) → (IsTrue t4 → number_at q 4 ≡ kept_diffusion d 1 1 e) → (IsTrue t5 → number_at q 5 ≡ kept_diffusion d 1 2 e) → (IsTrue t6 → number_at q 6 ≡ kept_diffusion d 1 3 e) → (IsTrue t7 → number_at q 7 ≡ kept_diffusion d 2 2 e) → (IsTrue t8 → number_at q 8 ≡ kept_diffusion d 2 3 e) → (IsTrue t9 → number_at q 9 ≡ kept_diffusion d 3 3 e) →
    IsTrue (((((t0 && t1) && t2) && t3) && t4) && ((((t5 && t6) && t7) && t8) && t9)) → q ≡ ten_parts d e
ten_passed q d e t0 t1 t2 t3 t4 t5 t6 t7 t8 t9 size h0 h1 h2 h3 h4 h5 h6 h7 h8 h9 t =
    let halves = both_true ((((t0 && t1) && t2) && t3) && t4) ((((t5 && t6) && t7) && t8) && t9) t in
    let p4 = both_true (((t0 && t1) && t2) && t3) t4 halves.0 in
    let p3 = both_true ((t0 && t1) && t2) t3 p4.0 in
    let p2 = both_true (t0 && t1) t2 p3.0 in
    let p1 = both_true t0 t1 p2.0 in
    let p9 = both_true (((t5 && t6) && t7) && t8) t9 halves.1 in
    let p8 = both_true ((t5 && t6) && t7) t8 p9.0 in
    let p7 = both_true (t5 && t6) t7 p8.0 in
    let p6 = both_true t5 t6 p7.0 in
    ten_are q d e size (h0 p1.0) (h1 p1.1) (h2 p2.1) (h3 p3.1) (h4 p4.1) (h5 p6.0) (h6 p6.1) (h7 p7.1) (h8 p8.1) (h9 p9.1)

-- the ten sums over the points
abbrev pub sum_of : List ℤ → List ℤ → List ℤ → List ℤ → ℕ → ℤ
sum_of p0 p1 p2 p3 k = number_at p0 k +ℤ number_at p1 k +ℤ number_at p2 k +ℤ number_at p3 k

pub sums_are : (es : List Evaluation) (d : ℤ) (e0 e1 e2 e3 : Evaluation) (p0 p1 p2 p3 : List ℤ) (s0 s1 s2 s3 s4 s5 s6 s7 s8 s9 : ℤ) → length es ≡ 4 →
    p0 ≡ ten_parts d (slice_index_or es 0 e0) → p1 ≡ ten_parts d (slice_index_or es 1 e1) → p2 ≡ ten_parts d (slice_index_or es 2 e2) → p3 ≡ ten_parts d (slice_index_or es 3 e3) →
    s0 ≡ sum_of p0 p1 p2 p3 0 → s1 ≡ sum_of p0 p1 p2 p3 1 → s2 ≡ sum_of p0 p1 p2 p3 2 → s3 ≡ sum_of p0 p1 p2 p3 3 → s4 ≡ sum_of p0 p1 p2 p3 4 → s5 ≡ sum_of p0 p1 p2 p3 5 → s6 ≡ sum_of p0 p1 p2 p3 6 → s7 ≡ sum_of p0 p1 p2 p3 7 → s8 ≡ sum_of p0 p1 p2 p3 8 → s9 ≡ sum_of p0 p1 p2 p3 9 →
    ◌≡◌ {A = List ℤ} (s0 ∷ s1 ∷ s2 ∷ s3 ∷ s4 ∷ s5 ∷ s6 ∷ s7 ∷ s8 ∷ s9 ∷ []) (ten_entries es d)
sums_are es d e0 e1 e2 e3 p0 p1 p2 p3 s0 s1 s2 s3 s4 s5 s6 s7 s8 s9 size q0 q1 q2 q3 h0 h1 h2 h3 h4 h5 h6 h7 h8 h9 = ten_same _ _ _ _ _ _ _ _ _ _ _ _ _ _ _ _ _ _ _ _
    (h0 ∙ sum_of_parts (kept_diffusion d 0 0) es e0 e1 e2 e3 _ _ _ _ size (ap (λ q. number_at q 0) q0) (ap (λ q. number_at q 0) q1) (ap (λ q. number_at q 0) q2) (ap (λ q. number_at q 0) q3))
    (h1 ∙ sum_of_parts (kept_diffusion d 0 1) es e0 e1 e2 e3 _ _ _ _ size (ap (λ q. number_at q 1) q0) (ap (λ q. number_at q 1) q1) (ap (λ q. number_at q 1) q2) (ap (λ q. number_at q 1) q3))
    (h2 ∙ sum_of_parts (kept_diffusion d 0 2) es e0 e1 e2 e3 _ _ _ _ size (ap (λ q. number_at q 2) q0) (ap (λ q. number_at q 2) q1) (ap (λ q. number_at q 2) q2) (ap (λ q. number_at q 2) q3))
    (h3 ∙ sum_of_parts (kept_diffusion d 0 3) es e0 e1 e2 e3 _ _ _ _ size (ap (λ q. number_at q 3) q0) (ap (λ q. number_at q 3) q1) (ap (λ q. number_at q 3) q2) (ap (λ q. number_at q 3) q3))
    (h4 ∙ sum_of_parts (kept_diffusion d 1 1) es e0 e1 e2 e3 _ _ _ _ size (ap (λ q. number_at q 4) q0) (ap (λ q. number_at q 4) q1) (ap (λ q. number_at q 4) q2) (ap (λ q. number_at q 4) q3))
    (h5 ∙ sum_of_parts (kept_diffusion d 1 2) es e0 e1 e2 e3 _ _ _ _ size (ap (λ q. number_at q 5) q0) (ap (λ q. number_at q 5) q1) (ap (λ q. number_at q 5) q2) (ap (λ q. number_at q 5) q3))
    (h6 ∙ sum_of_parts (kept_diffusion d 1 3) es e0 e1 e2 e3 _ _ _ _ size (ap (λ q. number_at q 6) q0) (ap (λ q. number_at q 6) q1) (ap (λ q. number_at q 6) q2) (ap (λ q. number_at q 6) q3))
    (h7 ∙ sum_of_parts (kept_diffusion d 2 2) es e0 e1 e2 e3 _ _ _ _ size (ap (λ q. number_at q 7) q0) (ap (λ q. number_at q 7) q1) (ap (λ q. number_at q 7) q2) (ap (λ q. number_at q 7) q3))
    (h8 ∙ sum_of_parts (kept_diffusion d 2 3) es e0 e1 e2 e3 _ _ _ _ size (ap (λ q. number_at q 8) q0) (ap (λ q. number_at q 8) q1) (ap (λ q. number_at q 8) q2) (ap (λ q. number_at q 8) q3))
    (h9 ∙ sum_of_parts (kept_diffusion d 3 3) es e0 e1 e2 e3 _ _ _ _ size (ap (λ q. number_at q 9) q0) (ap (λ q. number_at q 9) q1) (ap (λ q. number_at q 9) q2) (ap (λ q. number_at q 9) q3))

pub scaled_small : (d : ℤ) → unsigned_abs d < 2 ^ 44 → unsigned_abs (pos 262144 *ℤ d) ≤ 2 ^ 62
scaled_small d h = size_mul (pos 262144) d (2 ^ 18) (2 ^ 44) (lit≤ tt) (omega arith)
