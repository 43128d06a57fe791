-- Vectors that fit, and that don't.
use Rattle.std.proofs.Common.{◌≡◌, ◌≢◌, ◌∙◌, ap, sym, subst, refl, ℕ, suc, ℤ, ◌+◌, ◌<◌, ◌≤◌, List, [], ◌∷◌, ◌++◌, length, take, arith}
use Rattle.std.specs.Prelude.{All, slice_index_or, pos, unsigned_abs, Ok, Err}
use Rattle.std.proofs.lemmas.List.{take_more}
use Rattle.std.proofs.lemmas.List.Elements.{All-nil, All-cons}
use Rattle.std.proofs.lemmas.Grind.{common_steps}
use Rattle.diagnostics.specs.declared.kinds.VectorFault.TheVariants.{Length, Value}
use Rattle.diagnostics.specs.declared.refusal.Refusal.TheVariants.{Vector}
use Rattle.vector_texts.specs.Fitting.{size_at, IsFirstLarge, Fits, Misfits, by_length, by_value, FittedTo}

abbrev pub AreSmallBefore : ℕ → List ℤ → ℕ → Type 0
AreSmallBefore limit values place = (k : ℕ) → k < place → size_at values k ≤ limit

pub small_so_far : (limit : ℕ) (values : List ℤ) (place : ℕ) (value same : ℤ) → AreSmallBefore limit values place → value ≡ slice_index_or values place (pos 0) → same ≡ value →
    unsigned_abs same ≤ limit → AreSmallBefore limit values (place + 1)
small_so_far limit values place value same before there is small k within =
    let at : unsigned_abs (slice_index_or values place (pos 0)) ≤ limit = subst (λ v. unsigned_abs v ≤ limit) (is ∙ there) small in
    small_at k (before k) within
  where
    small_at : (k : ℕ) → (k < place → size_at values k ≤ limit) → k < place + 1 → size_at values k ≤ limit
    small_at k earlier within = grind arith

pub taken_so_far : (x values : List ℤ) (place : ℕ) (value same : ℤ) → place < length values → x ≡ take place values → value ≡ slice_index_or values place (pos 0) → same ≡ value →
    x ++ same ∷ [] ≡ take (place + 1) values
taken_so_far x values place value same within so_far there is =
    ap (λ front. front ++ same ∷ []) so_far ∙ ap (λ v. take place values ++ v ∷ []) (is ∙ there) ∙ sym (take_more values place (pos 0) within)

all_small : (limit : ℕ) (values : List ℤ) → AreSmallBefore limit values (length values) → All (λ value. unsigned_abs value ≤ limit) values
all_small limit [] small = All-nil (λ value. unsigned_abs value ≤ limit)
all_small limit (v ∷ values) small =
    All-cons (λ value. unsigned_abs value ≤ limit) v values (small 0 (omega arith)) (all_small limit values (λ k within. small (suc k) (omega (arith, within))))

take_all : (values : List ℤ) (n : ℕ) → length values ≤ n → take n values ≡ values
take_all values n all = grind (arith, common_steps)

before_all : (limit : ℕ) (values : List ℤ) (n : ℕ) → length values ≤ n → AreSmallBefore limit values n → AreSmallBefore limit values (length values)
before_all limit values n all small k within = small k (omega (arith, within, all))

-- all values were taken
pub fit : (size limit : ℕ) (values x : List ℤ) (n : ℕ) → length values ≡ size → length values ≤ n → x ≡ take n values → AreSmallBefore limit values n → FittedTo size limit values (Ok x)
fit size limit values x n many all is small =
    (is ∙ take_all values n all, record { as_many = many; small = all_small limit values (before_all limit values n all small) })

-- a value is too large
pub too_large : (size limit : ℕ) (values : List ℤ) (place : ℕ) (value : ℤ) → length values ≡ size → place < length values → value ≡ slice_index_or values place (pos 0) →
    limit < unsigned_abs value → AreSmallBefore limit values place → FittedTo size limit values (Err (Vector (Value place)))
too_large size limit values place value many within there large before =
    by_value many place (record { within = within; large = subst (λ v. limit < unsigned_abs v) there large; first = before }) refl

-- there are more or fewer
pub other_length : (size limit : ℕ) (values : List ℤ) → length values ≢ size → FittedTo size limit values (Err (Vector (Length (length values))))
other_length size limit values other = by_length other refl
