-- A zone has a run of picks that leaves no cell.
use Rattle.std.proofs.Common.{◌≡◌, ◌≢◌, ◌⊎◌, inl, inr, ⊎_elim, ℕ, ◌+◌, ◌<◌, ◌≤◌, List, [], ◌∷◌, ◌++◌, Bool, true, false, cond, ◌||◌, ◌&&◌, ◌==◌, map, refl, sym, ◌∙◌, ap, arith, subst, zero, suc}
use Rattle.std.specs.Prelude.{not, filter}
use Rattle.std.proofs.lemmas.Bool.{eqb-true, eq-eqb, or_cases, cases_eq, cases_order, not-false}
use Rattle.std.proofs.lemmas.List.Folds.{list_any-append}
use Rattle.conflict_coloring.specs.Conflict.{has}
use Rattle.conflict_coloring.specs.Colours.{Picks, IsPick, IsRun, IsColoured, IsBefore, IsLeastFree, is_left, saturation, degree, colours_near}
use Rattle.conflict_coloring.proofs.Members.{bool_cases, false_or_true, or_left, or_right}
use Rattle.conflict_coloring.proofs.Picks.{any_map, and_left}
use Rattle.conflict_coloring.proofs.Spreads.{has_filter}
use Rattle.conflict_coloring.proofs.Chosen.{run_more}
use Rattle.conflict_coloring.proofs.Least.{not_true, least_from, above, has_below}

-- ---- the cell that stands before all others

abbrev Before : ℕ → ℕ → ℕ → ℕ → ℕ → ℕ → Type 0
Before s t m n c d = (t < s) ⊎ ((t ≡ s) × ((n < m) ⊎ ((n ≡ m) × (c < d))))

before_trans : (s t u m n o c d e : ℕ) → Before s t m n c d → Before t u n o d e → Before s u m o c e
before_trans s t u m n o c d e (inl a) (inl b) = inl (omega arith)
before_trans s t u m n o c d e (inl a) (inr (f, y)) = inl (omega arith)
before_trans s t u m n o c d e (inr (f, x)) (inl b) = inl (omega arith)
before_trans s t u m n o c d e (inr (f, inl a)) (inr (g, inl b)) = inr (g ∙ f, inl (omega arith))
before_trans s t u m n o c d e (inr (f, inl a)) (inr (g, inr (h, b))) = inr (g ∙ f, inl (omega arith))
before_trans s t u m n o c d e (inr (f, inr (i, a))) (inr (g, inl b)) = inr (g ∙ f, inl (omega arith))
before_trans s t u m n o c d e (inr (f, inr (i, a))) (inr (g, inr (h, b))) = inr (g ∙ f, inr (h ∙ i, omega arith))

before_or : (s t m n c d : ℕ) → c ≢ d → Before s t m n c d ⊎ Before t s n m d c
before_or s t m n c d apart = elim (cases_order s t) [
  | inl same ↦ elim (cases_order m n) [
    | inl even ↦ elim (cases_order c d) [
      | inl one ↦ absurd (apart one)
      | inr o ↦ elim o [ inl lt ↦ inl (inr (sym same, inr (sym even, lt))) | inr gt ↦ inr (inr (same, inr (even, gt))) ]
    ]
    | inr o ↦ elim o [ inl lt ↦ inr (inr (same, inl lt)) | inr gt ↦ inl (inr (sym same, inl gt)) ]
  ]
  | inr o ↦ elim o [ inl lt ↦ inr (inl lt) | inr gt ↦ inl (inl gt) ]
]

-- of these cells it stands before all others
record IsFirst (cells : List (List ℕ)) (zone : List ℕ) (done : Picks) (xs : List ℕ) (c : ℕ) : Type 0 where
  inside : has xs c ≡ true
  before : (d : ℕ) → has xs d ≡ true → d ≢ c → IsBefore cells zone done c d

first_alone : (cells : List (List ℕ)) (zone : List ℕ) (done : Picks) (x : ℕ) → IsFirst cells zone done (x ∷ []) x
first_alone cells zone done x = record {
  inside = or_left (x == x) false (eq-eqb x x refl);
  before = λ d here apart. ⊎_elim (λ e. absurd (apart (sym (eqb-true x d e)))) (λ r. absurd (false_or_true false refl r)) (or_cases (x == d) false here);
}

first_same : (cells : List (List ℕ)) (zone : List ℕ) (done : Picks) (xs : List ℕ) (x c : ℕ) → x ≡ c → IsFirst cells zone done xs c → IsFirst cells zone done (x ∷ xs) c
first_same cells zone done xs x c same first = record {
  inside = or_right (x == c) (has xs c) first.inside;
  before = λ d here apart. ⊎_elim (λ e. absurd (apart (sym (eqb-true x d e) ∙ same))) (λ r. first.before d r apart) (or_cases (x == d) (has xs d) here);
}

first_kept : (cells : List (List ℕ)) (zone : List ℕ) (done : Picks) (xs : List ℕ) (x c : ℕ) → IsBefore cells zone done c x → IsFirst cells zone done xs c → IsFirst cells zone done (x ∷ xs) c
first_kept cells zone done xs x c low first = record {
  inside = or_right (x == c) (has xs c) first.inside;
  before = λ d here apart. ⊎_elim (λ e. (let P : ℕ → Type 0 = λ y. IsBefore cells zone done c y in subst P (eqb-true x d e) low)) (λ r. first.before d r apart) (or_cases (x == d) (has xs d) here);
}

first_new : (cells : List (List ℕ)) (zone : List ℕ) (done : Picks) (xs : List ℕ) (x c : ℕ) → IsBefore cells zone done x c → IsFirst cells zone done xs c → IsFirst cells zone done (x ∷ xs) x
first_new cells zone done xs x c high first = record {
  inside = or_left (x == x) (has xs x) (eq-eqb x x refl);
  before = λ d here apart. ⊎_elim (λ e. absurd (apart (sym (eqb-true x d e))))
      (λ r. elim (cases_eq d c) [
        | inl same ↦ (let P : ℕ → Type 0 = λ y. IsBefore cells zone done x y in subst P (sym same) high)
        | inr other ↦ before_trans (saturation cells done x) (saturation cells done c) (saturation cells done d) (degree cells zone x) (degree cells zone c) (degree cells zone d) x c d high (first.before d r other)
      ]) (or_cases (x == d) (has xs d) here);
}

some_first : (cells : List (List ℕ)) (zone : List ℕ) (done : Picks) (x : ℕ) (xs : List ℕ) → (c : ℕ) × IsFirst cells zone done (x ∷ xs) c
some_first cells zone done x [] = (x, first_alone cells zone done x)
some_first cells zone done x (y ∷ ys) =
    let b = some_first cells zone done y ys in
    elim (cases_eq x b.0) [
      | inl same ↦ (b.0, first_same cells zone done (y ∷ ys) x b.0 same b.1)
      | inr apart ↦ elim (before_or (saturation cells done x) (saturation cells done b.0) (degree cells zone x) (degree cells zone b.0) x b.0 apart) [
        | inl high ↦ (x, first_new cells zone done (y ∷ ys) x b.0 high b.1)
        | inr low ↦ (b.0, first_kept cells zone done (y ∷ ys) x b.0 low b.1)
      ]
    ]

-- ---- the next pick

unused : (used : List ℕ) → not (has used (above used)) ≡ true
unused used = ⊎_elim (λ t. absurd (let low = has_below used (above used) t in omega arith)) (λ f. ap not f) (bool_cases (has used (above used)))

some_free : (used : List ℕ) → (k : ℕ) × IsLeastFree used k
some_free used =
    let found = least_from (λ k. not (has used k)) (above used) (unused used) in
    (found.0, record { free = not_true (has used found.0) found.1.passes; least = λ j lt. not-false (has used j) (found.1.least j lt) })

-- a cell is picked, or none is left
abbrev Next : List (List ℕ) → List ℕ → Picks → Type 0
Next cells zone done = ((c : ℕ) × (k : ℕ) × IsPick cells zone done c k) ⊎ ((c : ℕ) → is_left zone done c ≡ false)

next_of : (cells : List (List ℕ)) (zone : List ℕ) (done : Picks) (left : List ℕ) → ((d : ℕ) → has left d ≡ is_left zone done d) → Next cells zone done
next_of cells zone done [] same = inr (λ c. sym (same c))
next_of cells zone done (x ∷ xs) same =
    let first = some_first cells zone done x xs in
    let free = some_free (colours_near cells done first.0) in
    inl (
      first.0,
      free.0,
      record {
        left = sym (same first.0) ∙ first.1.inside;
        greatest = λ d here apart. first.1.before d (same d ∙ here) apart;
        least_free = free.1;
      },
    )

left_in : (zone : List ℕ) (done : Picks) (d : ℕ) → has (filter (is_left zone done) zone) d ≡ is_left zone done d
left_in zone done d = has_filter (is_left zone done) zone d ∙ twice (has zone d) (not (has (map (λ (p : ℕ × ℕ). p.0) done) d))
  where
    twice : (a b : Bool) → (a && (a && b)) ≡ (a && b)
    twice true b = refl
    twice false b = refl

next_pick : (cells : List (List ℕ)) (zone : List ℕ) (done : Picks) → Next cells zone done
next_pick cells zone done = next_of cells zone done (filter (is_left zone done) zone) (left_in zone done)

-- ---- fewer cells are left behind each pick

abbrev count : (ℕ → Bool) → List ℕ → ℕ
count test [] = 0
count test (x ∷ xs) = cond (test x) 1 0 + count test xs

at_most : (p q : Bool) → (q ≡ true → p ≡ true) → cond {A = ℕ} q 1 0 ≤ cond {A = ℕ} p 1 0
at_most true true h = omega arith
at_most true false h = omega arith
at_most false true h = (let e = h refl in cc)
at_most false false h = omega arith

one_less : (p q : Bool) → p ≡ true → q ≡ false → cond {A = ℕ} q 1 0 + 1 ≤ cond {A = ℕ} p 1 0
one_less true false a b = omega arith
one_less true true a b = cc
one_less false q a b = cc

count_le : (p q : ℕ → Bool) (xs : List ℕ) → ((d : ℕ) → q d ≡ true → p d ≡ true) → count q xs ≤ count p xs
count_le p q [] fewer = omega arith
count_le p q (x ∷ xs) fewer = (let here = at_most (p x) (q x) (fewer x) in let rest = count_le p q xs fewer in omega arith)

count_lt : (p q : ℕ → Bool) (xs : List ℕ) (c : ℕ) → ((d : ℕ) → q d ≡ true → p d ≡ true) → has xs c ≡ true → p c ≡ true → q c ≡ false → count q xs + 1 ≤ count p xs
count_lt p q [] c fewer here is isnt = absurd (cc)
count_lt p q (x ∷ xs) c fewer here is isnt = elim (or_cases (x == c) (has xs c) here) [
  | inl e ↦ (let same : x ≡ c = eqb-true x c e in
      let less = one_less (p x) (q x) (ap p same ∙ is) (ap q same ∙ isnt) in
      let rest = count_le p q xs fewer in
      omega arith)
  | inr r ↦ (let first = at_most (p x) (q x) (fewer x) in let rest = count_lt p q xs c fewer r is isnt in omega arith)
]

abbrev picked : Picks → ℕ → Bool
picked done c = has (map (λ (p : ℕ × ℕ). p.0) done) c

picked_more : (done : Picks) (c k d : ℕ) → picked (done ++ (c, k) ∷ []) d ≡ (picked done d || ((c == d) || false))
picked_more done c k d =
    any_map (λ (p : ℕ × ℕ). p.0) (λ y. y == d) (done ++ (c, k) ∷ [])
    ∙ list_any-append (λ (p : ℕ × ℕ). p.0 == d) done ((c, k) ∷ [])
    ∙ ap (λ b. b || ((c == d) || false)) (sym (any_map (λ (p : ℕ × ℕ). p.0) (λ y. y == d) done))

less_left : (here before more : Bool) → (here && not (before || more)) ≡ true → (here && not before) ≡ true
less_left true true more h = cc
less_left true false more h = refl
less_left false before more h = h

none_left : (here before now : Bool) → now ≡ true → (here && not (before || now)) ≡ false
none_left true true now t = refl
none_left true false now t = ap not t
none_left false before now t = refl

fewer_left : (zone : List ℕ) (done : Picks) (c k : ℕ) → is_left zone done c ≡ true → count (is_left zone (done ++ (c, k) ∷ [])) zone + 1 ≤ count (is_left zone done) zone
fewer_left zone done c k left =
    count_lt (is_left zone done) (is_left zone (done ++ (c, k) ∷ [])) zone c
    (λ d t. less_left (has zone d) (picked done d) ((c == d) || false) (sym (ap (λ b. has zone d && not b) (picked_more done c k d)) ∙ t))
    (and_left (has zone c) (not (picked done c)) left) left
    (ap (λ b. has zone c && not b) (picked_more done c k c) ∙ none_left (has zone c) (picked done c) ((c == c) || false) (or_left (c == c) false (eq-eqb c c refl)))

run_from : (fuel : ℕ) (cells : List (List ℕ)) (zone : List ℕ) (done : Picks) → IsRun cells zone done → count (is_left zone done) zone ≤ fuel → (all : Picks) × IsColoured cells zone all
run_from zero cells zone done run few = elim (next_pick cells zone done) [
  | inl next ↦ absurd (let less = fewer_left zone done next.0 next.1 next.2.left in omega arith)
  | inr none ↦ (done, (run, none))
]
run_from (suc fuel) cells zone done run few = elim (next_pick cells zone done) [
  | inl next ↦ (let less = fewer_left zone done next.0 next.1 next.2.left in
      run_from fuel cells zone (done ++ (next.0, next.1) ∷ []) (run_more cells zone done next.0 next.1 run next.2) (omega arith))
  | inr none ↦ (done, (run, none))
]

pub some_run : (cells : List (List ℕ)) (zone : List ℕ) → (all : Picks) × IsColoured cells zone all
some_run cells zone = run_from (count (is_left zone []) zone) cells zone [] (λ i lt. absurd (omega arith)) (omega arith)
