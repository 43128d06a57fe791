-- A vector fits or it doesn't, in one way.
use Rattle.std.proofs.Common.{◌≡◌, ◌≢◌, ◌∙◌, ◌⊎◌, inl, inr, sym, ap, refl, subst, ℕ, zero, suc, ℤ, ◌<◌, ◌≤◌, ⊎_elim, Bool, true, false, List, [], ◌∷◌, length, slice_index_or, nat_eq, arith}
use Rattle.std.specs.Prelude.{All, pos, unsigned_abs, Ok, Err}
use Rattle.std.specs.declared.result.Result.{Result}
use Rattle.std.proofs.lemmas.Bool.{cases_lt, cases_Bool}
use Rattle.std.proofs.lemmas.List.Elements.{All-nil, All-cons, All-get_or}
use borrow.Author.Tests.{eqb-true, eqb-false}
use Rattle.diagnostics.specs.declared.kinds.VectorFault.TheVariants.{Length, Value}
use Rattle.diagnostics.specs.declared.refusal.Refusal.{Refusal}
use Rattle.diagnostics.specs.declared.refusal.Refusal.TheVariants.{Vector}
use Rattle.vector_texts.specs.Fitting.{size_at, IsFirstLarge, Fits, Misfits, by_length, by_value, FittedTo}
use Rattle.system_laws.proofs.Outcomes.{Agree, HasAnOutcome}

none_large : (size limit : ℕ) (values : List ℤ) (place : ℕ) → Fits size limit values → IsFirstLarge limit values place → ⊥
none_large size limit values place fits large =
    let small : size_at values place ≤ limit = All-get_or (λ value. unsigned_abs value ≤ limit) values place (pos 0) large.within fits.small in
    let h = large.large in
    omega (arith, small, h)

apart : (size limit : ℕ) (values : List ℤ) (refusal : Refusal) → Fits size limit values → Misfits size limit values refusal → ⊥
apart size limit values refusal fits (by_length other is) = other fits.as_many
apart size limit values refusal fits (by_value many place large is) = none_large size limit values place fits large

not_earlier : (limit : ℕ) (values : List ℤ) (i j : ℕ) → IsFirstLarge limit values i → IsFirstLarge limit values j → i < j → ⊥
not_earlier limit values i j a b h = (let small = b.first i h in let large = a.large in omega (arith, small, large))

one_place : (limit : ℕ) (values : List ℤ) (i j : ℕ) → IsFirstLarge limit values i → IsFirstLarge limit values j → i ≡ j
one_place limit values i j a b =
    ⊎_elim (λ (h : i < j). absurd (not_earlier limit values i j a b h))
    (λ (h : j ≤ i). ⊎_elim (λ (k : j < i). absurd (not_earlier limit values j i b a k)) (λ (k : i ≤ j). omega (arith, h, k)) (cases_lt j i)) (cases_lt i j)

one_refusal : (size limit : ℕ) (values : List ℤ) (r q : Refusal) → Misfits size limit values r → Misfits size limit values q → r ≡ q
one_refusal size limit values r q (by_length a e) (by_length b f) = e ∙ sym f
one_refusal size limit values r q (by_length a e) (by_value many place large f) = absurd (a many)
one_refusal size limit values r q (by_value many place large e) (by_length b f) = absurd (b many)
one_refusal size limit values r q (by_value many i large e) (by_value too j other f) = e ∙ ap (λ place. Vector (Value place)) (one_place limit values i j large other) ∙ sym f

pub one_fitted : (size limit : ℕ) (values : List ℤ) → Agree (FittedTo size limit values) (FittedTo size limit values)
one_fitted size limit values (Ok x) (Ok y) h k = ap Ok (h.0 ∙ sym k.0)
one_fitted size limit values (Ok x) (Err q) h k = absurd (apart size limit values q h.1 k)
one_fitted size limit values (Err r) (Ok y) h k = absurd (apart size limit values r k.1 h)
one_fitted size limit values (Err r) (Err q) h k = ap Err (one_refusal size limit values r q h k)

earlier_small : (limit : ℕ) (v : ℤ) (values : List ℤ) (place : ℕ) → unsigned_abs v ≤ limit → IsFirstLarge limit values place → (k : ℕ) → k < suc place → size_at (v ∷ values) k ≤ limit
earlier_small limit v values place small first zero h = small
earlier_small limit v values place small first (suc k) h = first.first k (omega (arith, h))

-- some value is too large, or none is
large_or_not : (limit : ℕ) (values : List ℤ) → ((place : ℕ) × IsFirstLarge limit values place) ⊎ All (λ value. unsigned_abs value ≤ limit) values
large_or_not limit [] = inr (All-nil (λ value. unsigned_abs value ≤ limit))
large_or_not limit (v ∷ values) = ⊎_elim
    (λ (large : limit < unsigned_abs v). inl (0, record { within = omega arith; large = large; first = λ k h. absurd (omega (arith, h)) }))
    (λ (small : unsigned_abs v ≤ limit). ⊎_elim
    (λ (found : (place : ℕ) × IsFirstLarge limit values place).
    inl (suc found.0, record { within = (let h = found.1.within in omega (arith, h)); large = found.1.large; first = earlier_small limit v values found.0 small found.1 }))
    (λ (none : All (λ value. unsigned_abs value ≤ limit) values). inr (All-cons (λ value. unsigned_abs value ≤ limit) v values small none))
    (large_or_not limit values))
    (cases_lt limit (unsigned_abs v))

of_length : (size limit : ℕ) (values : List ℤ) → length values ≡ size → HasAnOutcome (FittedTo size limit values)
of_length size limit values many = elim (large_or_not limit values) [
  | inl found ↦ (Err (Vector (Value found.0)), by_value many found.0 found.1 refl)
  | inr small ↦ (Ok values, (refl, record { as_many = many; small = small }))
]

pub some_fitted : (size limit : ℕ) (values : List ℤ) → HasAnOutcome (FittedTo size limit values)
some_fitted size limit values = elim (cases_Bool (nat_eq (length values) size)) [
  | inl same ↦ of_length size limit values (eqb-true (length values) size same)
  | inr other ↦ (Err (Vector (Length (length values))), by_length (eqb-false (length values) size other) refl)
]
