-- Elements of lists, as rounds and as std see them.
use Rattle.std.proofs.Common.{◌≡◌, ◌≢◌, ◌∙◌, sym, ap, subst, refl, ℕ, zero, suc, ◌+◌, ◌-◌, ◌<◌, inl, inr, List, [], ◌∷◌, ◌++◌, length, map, arith, get_or}
use Rattle.std.specs.Prelude.{◌⊎◌}
use Rattle.std.specs.List.{AllPairs, Contains, dedup, range_with_len}
use Rattle.std.specs.List.Sorted.{IsStrictlyIncreasing, IsPermutation, IsSorted}
use Rattle.std.specs.Ordering.{nat_cmp}
use Rattle.std.proofs.lemmas.Bool.{cases_eq, cases_lt}
use Rattle.std.proofs.lemmas.List.FromFn.{get_or-range_with_len, length-range_with_len}
use Rattle.std.proofs.lemmas.List.Kept.{AllPairs-from_increasing, Contains-dedup_nat, Contains-from_dedup}
use Rattle.std.proofs.lemmas.List.Sorted.{Contains-permutation, IsPermutation-sym}
use Rattle.std.proofs.lemmas.Map.Keys.{IsStrictlyIncreasing-dedup}
use Rattle.std.proofs.lemmas.List.{length-append, get_or_append_left, get_or-append_right}
use lib.Dec.{eqb}
use mathlib.Core.Option.{some, some-injective, some-ne-none}
use lib.ListN.{get_elem?}
use Rattle.colored_copier.specs.Plans.{In, Rise}
use Rattle.lumped_mass.specs.Rows.{IsRising, AreRising}

pub within : {A : Type 0} (l : List A) (k : ℕ) (a : A) → get_elem? l k ≡ some a → k < length l
within [] k a e = absurd (some-ne-none a (sym e))
within (x ∷ xs) zero a e = omega arith
within (x ∷ xs) (suc k) a e = let t = within xs k a e in omega (arith, t)

pub there : {A : Type 0} (l : List A) (k : ℕ) (d : A) → k < length l → get_elem? l k ≡ some (get_or l k d)
there [] k d h = absurd (omega (arith, h))
there (x ∷ xs) zero d h = refl
there (x ∷ xs) (suc k) d h = there xs k d (omega (arith, h))

pub read : {A : Type 0} (l : List A) (k : ℕ) (d a : A) → get_elem? l k ≡ some a → get_or l k d ≡ a
read [] k d a e = absurd (some-ne-none a (sym e))
read (x ∷ xs) zero d a e = some-injective x a e
read (x ∷ xs) (suc k) d a e = read xs k d a e

pub in_contains : (xs : List ℕ) (r : ℕ) → In r xs → Contains xs r
in_contains xs r h = (h.0, within xs h.0 r h.1, read xs h.0 r r h.1)

pub contains_in : (xs : List ℕ) (r : ℕ) → Contains xs r → In r xs
contains_in xs r (k, inside, at) = (k, there xs k r inside ∙ ap some at)

-- a number is in a list or isn't
pub in_or_not : (xs : List ℕ) (r : ℕ) → In r xs ⊎ (In r xs → ⊥)
in_or_not [] r = inr (λ h. some-ne-none r (sym h.1))
in_or_not (x ∷ xs) r = elim (cases_eq x r) [
  | inl same ↦ inl (0, ap some same)
  | inr other ↦ elim (in_or_not xs r) [
    | inl at ↦ inl (suc at.0, at.1)
    | inr none ↦ inr (λ h. by_place h.0 h.1 other none)
  ]
]
  where
    by_place : (k : ℕ) → get_elem? (x ∷ xs) k ≡ some r → x ≢ r → (In r xs → ⊥) → ⊥
    by_place zero e other none = other (some-injective x r e)
    by_place (suc k) e other none = none (k, e)

-- rising lists
next_below : (a b : ℕ) → a < b → suc a < suc b
next_below a b h = omega (arith, h)

pub rises_pairs : (xs : List ℕ) → AllPairs (λ x y. x < y) xs → Rise xs
rises_pairs [] pairs = tt
rises_pairs (x ∷ xs) pairs = (
  (λ q h. let P : ℕ → Type 0 = λ n. x < n in subst P (read xs h.0 0 q h.1) (pairs 0 (suc h.0) 0 (omega arith) (next_below h.0 (length xs) (within xs h.0 q h.1)))),
  rises_pairs xs (λ i j d lt inside. pairs (suc i) (suc j) d (next_below i j lt) (next_below j (length xs) inside)),
)

pub rises : (xs : List ℕ) → IsStrictlyIncreasing xs → Rise xs
rises xs h = rises_pairs xs (AllPairs-from_increasing xs h)

pub range_pairs : (n : ℕ) → AllPairs (λ x y. x < y) (range_with_len 0 n)
range_pairs n i j d lt inside =
    let high : j < n = omega (arith, inside, length-range_with_len 0 n) in
    let low : i < n = omega (arith, lt, high) in
    omega (arith, lt, get_or-range_with_len 0 n i d low, get_or-range_with_len 0 n j d high)

pub in_range : (n k : ℕ) → k < n → In k (range_with_len 0 n)
in_range n k h = (k, there (range_with_len 0 n) k 0 (omega (arith, h, length-range_with_len 0 n)) ∙ ap some (get_or-range_with_len 0 n k 0 h ∙ omega arith))

-- numbers that are sorted, each left once
pub rising_of : (numbers start sorted rising : List ℕ) → start ≡ numbers → IsPermutation start sorted → IsSorted nat_cmp sorted → rising ≡ dedup eqb sorted → IsRising numbers rising
rising_of numbers start sorted rising e moved order is =
    let P : List ℕ → Type 0 = λ xs. IsRising xs rising in
    let Q : List ℕ → Type 0 = IsRising start in
    subst P e (subst Q (sym is) record {
      rises = IsStrictlyIncreasing-dedup sorted order;
      same = λ n. (
        (λ h. Contains-permutation sorted start n (IsPermutation-sym start sorted moved) (Contains-from_dedup eqb sorted n h)),
        (λ h. Contains-dedup_nat sorted n (Contains-permutation start sorted n moved h)),
      );
    })

-- a list more
pub none_rising : (lists : List (List ℕ)) → AreRising lists [] 0
none_rising lists = record { as_many = refl; each = λ k h. absurd (omega (arith, h)) }

pub rising_more : (lists rising : List (List ℕ)) (n : ℕ) (row : List ℕ) → AreRising lists rising n → IsRising (get_or lists n []) row → AreRising lists (rising ++ row ∷ []) (n + 1)
rising_more lists rising n row are one = record {
  as_many = omega (arith, are.as_many, length-append rising (row ∷ []));
  each = λ k h. elim (cases_lt k n) [
    | inl low ↦ (let P : List ℕ → Type 0 = IsRising (get_or lists k []) in subst P (sym (get_or_append_left rising (row ∷ []) [] k (omega (arith, low, are.as_many)))) (are.each k low))
    | inr high ↦ (let here : n ≡ k = omega (arith, h, high) in
        let P : ℕ → Type 0 = λ i. IsRising (get_or lists i []) (get_or (rising ++ row ∷ []) i []) in
        let Q : List ℕ → Type 0 = IsRising (get_or lists n []) in
        subst P here (subst Q (sym (last_one n are.as_many)) one))
  ];
}
  where
    last_one : (n : ℕ) → length rising ≡ n → get_or (rising ++ row ∷ []) n [] ≡ row
    last_one n e = get_or-append_right rising (row ∷ []) n n [] e (omega arith) ∙ (let none : n - n ≡ 0 = omega arith in ap (λ i. get_or (row ∷ []) i []) none)
