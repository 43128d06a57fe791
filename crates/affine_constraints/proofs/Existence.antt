-- Every table of lines has an answer: which dofs reach which is decided by a test.
use Rattle.std.proofs.Common.{◌≡◌, ◌≢◌, ◌∙◌, ap, refl, subst, ℕ, zero, suc, ◌<◌, ◌≤◌, List, [], ◌∷◌, length, Bool, true, false, not, ◌&&◌, ◌||◌, ◌==◌, arith, inl, inr, ◌⊎◌, ⊎_elim, pos}
use Rattle.std.specs.Prelude.{Some, None, Ok, Err, if◌then◌else◌}
use Rattle.std.specs.List.{list_any}
use Rattle.std.specs.declared.option.Option.{Option}
use Rattle.std.specs.declared.result.Result.{Result}
use Rattle.std.proofs.lemmas.Bool.{cases_Bool, cases_lt, eqb-true, eq-eqb, both_ways, and_from, and_parts, or_cases, or_left, or_right, not_from_false, not-true}
use Rattle.std.proofs.lemmas.List.{get_or_past}
use Rattle.std.proofs.lemmas.List.Folds.{list_any_at}
use Rattle.affine_constraints.specs.declared.term.Term.{Term}
use Rattle.affine_constraints.specs.declared.fault.CloseFault.{CloseFault}
use Rattle.affine_constraints.specs.declared.fault.CloseFault.TheVariants.{Cycle, Weight, Terms, NoMemory}
use Rattle.affine_constraints.specs.Lines.{AffineLine, Lines, lines_in, Names, Reaches, HaveNoCycle, IsLeastCycle}
use Rattle.affine_constraints.specs.Lines.Reaches.{once, more}
use Rattle.affine_constraints.specs.Closing.{AreClosed, AreOutside, IsOutside, HaveFault, is_in_range, fault_of, has_small_numbers}
use Rattle.affine_constraints.specs.Forming.{term_of}
use Rattle.affine_constraints.specs.Laws.{IsAnswer}
use Rattle.affine_constraints.proofs.Naming.{names, named, names_some, reach_both, term_in}
use Rattle.affine_constraints.proofs.ClosedLaws.{by_option, free_at}
use Rattle.affine_constraints.proofs.OneAnswer.{along, can_be_closed, has_place}

-- ---- which dofs a dof reaches, by the dofs below n alone in between

abbrev terms_at : Option AffineLine → List Term
terms_at None = []
terms_at (Some line) = line.terms

abbrev names_it : Lines → ℕ → ℕ → Bool
names_it lines i j = list_any (λ t. t.dof == j) (terms_at (lines i))

abbrev reaches_by : Lines → ℕ → ℕ → ℕ → Bool
reaches_by lines zero i j = names_it lines i j
reaches_by lines (suc n) i j = reaches_by lines n i j || (reaches_by lines n i n && reaches_by lines n n j)

found_in : (terms : List Term) (j : ℕ) → list_any (λ t. t.dof == j) terms ≡ true → (k : ℕ) × (k < length terms) × ((term_in terms k).dof ≡ j)
found_in [] j h = absurd (cc)
found_in (t ∷ terms) j h = elim (or_cases (t.dof == j) (list_any (λ u. u.dof == j) terms) h) [
  | inl here ↦ (0, omega arith, eqb-true t.dof j here)
  | inr there ↦ (let at = found_in terms j there in (suc at.0, omega (arith, at.1), at.2))
]

named_by : (lines : Lines) (i j : ℕ) (o : Option AffineLine) → lines i ≡ o → list_any (λ t. t.dof == j) (terms_at o) ≡ true → Names lines i j
named_by lines i j None is h = absurd (cc)
named_by lines i j (Some line) is h =
    let at = found_in line.terms j h in
    subst (λ (d : ℕ). Names lines i d) at.2 (names lines i at.0 line is at.1)

names_told : (lines : Lines) (i j : ℕ) → Names lines i j → names_it lines i j ≡ true
names_told lines i j name = elim (by_option (lines i)) [
  | inl free ↦ absurd (let some = names_some lines i j name in cc)
  | inr some ↦ (let at = named lines i j some.0 some.1 name in
      ap (λ (o : Option AffineLine). list_any (λ t. t.dof == j) (terms_at o)) some.1
      ∙ list_any_at (λ (t : Term). t.dof == j) some.0.terms at.place (term_of 0 (pos 0)) at.below (eq-eqb (term_in some.0.terms at.place).dof j at.is))
]

reaches_is : (lines : Lines) (n i j : ℕ) → reaches_by lines n i j ≡ true → Reaches lines i j
reaches_is lines zero i j h = once i j (named_by lines i j (lines i) refl h)
reaches_is lines (suc n) i j h = elim (or_cases (reaches_by lines n i j) (reaches_by lines n i n && reaches_by lines n n j) h) [
  | inl before ↦ reaches_is lines n i j before
  | inr through ↦ (let both = and_parts (reaches_by lines n i n) (reaches_by lines n n j) through in
      reach_both lines i n j (reaches_is lines n i n both.0) (reaches_is lines n n j both.1))
]

-- the way to the last dof in between, and from it
to_last : (lines : Lines) (n i : ℕ) → reaches_by lines (suc n) i n ≡ true → reaches_by lines n i n ≡ true
to_last lines n i h = ⊎_elim (λ e. e) (λ b. (and_parts (reaches_by lines n i n) (reaches_by lines n n n) b).0) (or_cases (reaches_by lines n i n) (reaches_by lines n i n && reaches_by lines n n n) h)

from_last : (lines : Lines) (n j : ℕ) → reaches_by lines (suc n) n j ≡ true → reaches_by lines n n j ≡ true
from_last lines n j h = ⊎_elim (λ e. e) (λ b. (and_parts (reaches_by lines n n n) (reaches_by lines n n j) b).1) (or_cases (reaches_by lines n n j) (reaches_by lines n n n && reaches_by lines n n j) h)

through : (lines : Lines) (n i j : ℕ) → reaches_by lines n i n ≡ true → reaches_by lines n n j ≡ true → reaches_by lines (suc n) i j ≡ true
through lines n i j to from = or_right (reaches_by lines n i j) (reaches_by lines n i n && reaches_by lines n n j) (and_from (reaches_by lines n i n) (reaches_by lines n n j) to from)

-- two ways that meet in a dof below n are one
both_by : (lines : Lines) (n i k j : ℕ) → k < n → reaches_by lines n i k ≡ true → reaches_by lines n k j ≡ true → reaches_by lines n i j ≡ true
both_by lines zero i k j below first next = absurd (omega arith)
both_by lines (suc n) i k j below first next = elim (cases_lt k n) [
  | inr last ↦ (let e : k ≡ n = omega arith in
      through lines n i j (to_last lines n i (subst (λ (m : ℕ). reaches_by lines (suc n) i m ≡ true) e first)) (from_last lines n j (subst (λ (m : ℕ). reaches_by lines (suc n) m j ≡ true) e next)))
  | inl less ↦ elim (or_cases (reaches_by lines n i k) (reaches_by lines n i n && reaches_by lines n n k) first) [
    | inl plain ↦ elim (or_cases (reaches_by lines n k j) (reaches_by lines n k n && reaches_by lines n n j) next) [
      | inl on ↦ or_left (reaches_by lines n i j) (reaches_by lines n i n && reaches_by lines n n j) (both_by lines n i k j less plain on)
      | inr on ↦ (let way = and_parts (reaches_by lines n k n) (reaches_by lines n n j) on in through lines n i j (both_by lines n i k n less plain way.0) way.1)
    ]
    | inr past ↦ (let way = and_parts (reaches_by lines n i n) (reaches_by lines n n k) past in
        elim (or_cases (reaches_by lines n k j) (reaches_by lines n k n && reaches_by lines n n j) next) [
          | inl on ↦ through lines n i j way.0 (both_by lines n n k j less way.1 on)
          | inr on ↦ through lines n i j way.0 (and_parts (reaches_by lines n k n) (reaches_by lines n n j) on).1
        ])
  ]
]

more_by : (lines : Lines) (n i j : ℕ) → names_it lines i j ≡ true → reaches_by lines n i j ≡ true
more_by lines zero i j h = h
more_by lines (suc n) i j h = or_left (reaches_by lines n i j) (reaches_by lines n i n && reaches_by lines n n j) (more_by lines n i j h)

from_place : (table : List (Option AffineLine)) (i j : ℕ) → Reaches (lines_in table) i j → i < length table
from_place table _ _ (once i j name) = has_place table i (names_some (lines_in table) i j name)
from_place table _ _ (more i m j name rest) = has_place table i (names_some (lines_in table) i m name)

reaches_told : (table : List (Option AffineLine)) (i j : ℕ) → Reaches (lines_in table) i j → reaches_by (lines_in table) (length table) i j ≡ true
reaches_told table _ _ (once i j name) = more_by (lines_in table) (length table) i j (names_told (lines_in table) i j name)
reaches_told table _ _ (more i m j name rest) =
    both_by (lines_in table) (length table) i m j (from_place table m j rest) (more_by (lines_in table) (length table) i m (names_told (lines_in table) i m name)) (reaches_told table m j rest)

-- ---- the least number that passes a test

record IsLeast (test : ℕ → Bool) (count : ℕ) : Type 0 where
  at : ℕ
  below : at < count
  is : test at ≡ true
  least : (d : ℕ) → d < at → test d ≡ false

least_of : (test : ℕ → Bool) (count : ℕ) → IsLeast test count ⊎ ((d : ℕ) → d < count → test d ≡ false)
least_of test zero = inr (λ d h. absurd (omega arith))
least_of test (suc n) = elim (least_of test n) [
  | inl found ↦ inl (record { at = found.at; below = (let h = found.below in omega arith); is = found.is; least = found.least })
  | inr none ↦ elim (cases_Bool (test n)) [
    | inl passes ↦ inl (record { at = n; below = omega arith; is = passes; least = none })
    | inr fails ↦ inr (λ d h. elim (cases_lt d n) [
      | inl less ↦ none d less
      | inr same ↦ (let e : d ≡ n = omega arith in ap test e ∙ fails)
    ])
  ]
]

least_is : (test : ℕ → Bool) (count other : ℕ) (found : IsLeast test count) → test other ≡ true → found.at ≤ other
least_is test count other found passes = elim (cases_lt other found.at) [
  | inl less ↦ absurd (both_ways (test other) (found.least other less) passes)
  | inr after ↦ after
]

-- ---- the answer

cycle_answer : (table : List (Option AffineLine)) → IsLeast (λ d. reaches_by (lines_in table) (length table) d d) (length table) → (answer : Result Lines CloseFault) × IsAnswer (lines_in table) answer
cycle_answer table found =
    let is : IsLeastCycle (lines_in table) found.at = record {
      cycle = reaches_is (lines_in table) (length table) found.at found.at found.is;
      least = λ other way. least_is (λ d. reaches_by (lines_in table) (length table) d d) (length table) other found (reaches_told table other other way);
    } in
    let other : Cycle found.at ≢ NoMemory = λ e. cc in
    (Err (Cycle found.at), (is, other))

-- each dof below the count passes the test
abbrev all_below : (ℕ → Bool) → ℕ → Bool
all_below test zero = true
all_below test (suc n) = all_below test n && test n

all_below_at : (test : ℕ → Bool) (n d : ℕ) → all_below test n ≡ true → d < n → test d ≡ true
all_below_at test zero d h below = absurd (omega arith)
all_below_at test (suc n) d h below =
    let both = and_parts (all_below test n) (test n) h in
    elim (cases_lt d n) [
      | inl less ↦ all_below_at test n d both.0 less
      | inr same ↦ (let e : d ≡ n = omega arith in ap test e ∙ both.1)
    ]

all_below_from : (test : ℕ → Bool) (n : ℕ) → ((d : ℕ) → d < n → test d ≡ true) → all_below test n ≡ true
all_below_from test zero each = refl
all_below_from test (suc n) each = and_from (all_below test n) (test n) (all_below_from test n (λ d h. each d (omega arith))) (each n (omega arith))

-- the test for a dof whose closed line is the first to leave its range
abbrev leaves_first : List (Option AffineLine) → Lines → ℕ → Bool
leaves_first table closed d =
    not (is_in_range (closed d)) && all_below (λ k. not (reaches_by (lines_in table) (length table) d k) || is_in_range (closed k)) (length table)

free_in_range : (table : List (Option AffineLine)) (closed : Lines) (d : ℕ) → AreClosed (lines_in table) closed → length table ≤ d → is_in_range (closed d) ≡ true
unfolding is_in_range
free_in_range table closed d are past = ap is_in_range (free_at (lines_in table) closed d are (get_or_past table d None past))

is_first : (table : List (Option AffineLine)) (closed : Lines) (d : ℕ) → AreClosed (lines_in table) closed → leaves_first table closed d ≡ true → IsOutside (lines_in table) closed d
is_first table closed d are h =
    let inner : ℕ → Bool = λ k. not (reaches_by (lines_in table) (length table) d k) || is_in_range (closed k) in
    let both = and_parts (not (is_in_range (closed d))) (all_below inner (length table)) h in
    record {
      outside = not-true (is_in_range (closed d)) both.0;
      inner = λ k way. elim (cases_lt k (length table)) [
        | inr past ↦ free_in_range table closed k are past
        | inl below ↦ elim (or_cases (not (reaches_by (lines_in table) (length table) d k)) (is_in_range (closed k)) (all_below_at inner (length table) k both.1 below)) [
          | inl off ↦ absurd (both_ways (reaches_by (lines_in table) (length table) d k) (not-true (reaches_by (lines_in table) (length table) d k) off) (reaches_told table d k way))
          | inr on ↦ on
        ]
      ];
    }

first_told : (table : List (Option AffineLine)) (closed : Lines) (d : ℕ) → IsOutside (lines_in table) closed d → leaves_first table closed d ≡ true
first_told table closed d out =
    let inner : ℕ → Bool = λ k. not (reaches_by (lines_in table) (length table) d k) || is_in_range (closed k) in
    and_from (not (is_in_range (closed d))) (all_below inner (length table)) (not_from_false (is_in_range (closed d)) out.outside)
    (all_below_from inner (length table) (λ k below. elim (cases_Bool (reaches_by (lines_in table) (length table) d k)) [
      | inl way ↦ or_right (not (reaches_by (lines_in table) (length table) d k)) (is_in_range (closed k)) (out.inner k (reaches_is (lines_in table) (length table) d k way))
      | inr off ↦ or_left (not (reaches_by (lines_in table) (length table) d k)) (is_in_range (closed k)) (not_from_false (reaches_by (lines_in table) (length table) d k) off)
    ]))

-- the closed line of the dof, and those of all dofs that it reaches, are in range
record AreInside (table : List (Option AffineLine)) (closed : Lines) (d : ℕ) : Type 0 where
  here : is_in_range (closed d) ≡ true
  there : (k : ℕ) → Reaches (lines_in table) d k → is_in_range (closed k) ≡ true

there_by : (table : List (Option AffineLine)) (closed : Lines) (d k : ℕ) → ((m : ℕ) → Names (lines_in table) d m → AreInside table closed m) → Reaches (lines_in table) d k → is_in_range (closed k) ≡ true
there_by table closed _ _ before (once i j name) = (before j name).here
there_by table closed _ _ before (more i m j name rest) = (before m name).there j rest

all_inside : (table : List (Option AffineLine)) (closed : Lines) → HaveNoCycle (lines_in table) → AreClosed (lines_in table) closed → ((d : ℕ) → d < length table → leaves_first table closed d ≡ false) → (d : ℕ) → AreInside table closed d
all_inside table closed no_cycle are none = along table (AreInside table closed) no_cycle (λ d before.
    (let there : (k : ℕ) → Reaches (lines_in table) d k → is_in_range (closed k) ≡ true = λ k way. there_by table closed d k before way in
    elim (cases_Bool (is_in_range (closed d))) [
      | inl passes ↦ record { here = passes; there = there }
      | inr fails ↦ elim (cases_lt d (length table)) [
        | inl below ↦ absurd (both_ways (leaves_first table closed d) (none d below) (first_told table closed d (record { outside = fails; inner = there })))
        | inr past ↦ absurd (both_ways (is_in_range (closed d)) fails (free_in_range table closed d are past))
      ]
    ]))

by_small : (lines : Lines) (small : Bool) (dof : ℕ) → AreOutside lines (if small then Terms dof else Weight dof) → HaveFault lines (if small then Terms dof else Weight dof) × ((if small then Terms dof else Weight dof) ≢ NoMemory)
by_small lines true dof are = (are, λ e. cc)
by_small lines false dof are = (are, λ e. cc)

as_fault : (lines : Lines) (o : Option AffineLine) (dof : ℕ) → AreOutside lines (fault_of o dof) → HaveFault lines (fault_of o dof) × (fault_of o dof ≢ NoMemory)
unfolding fault_of
as_fault lines None dof are = (are, λ e. cc)
as_fault lines (Some line) dof are = by_small lines (has_small_numbers line) dof are

range_answer : (table : List (Option AffineLine)) (closed : Lines) → HaveNoCycle (lines_in table) → AreClosed (lines_in table) closed → (answer : Result Lines CloseFault) × IsAnswer (lines_in table) answer
range_answer table closed no_cycle are = elim (least_of (leaves_first table closed) (length table)) [
  | inl found ↦ (let out : AreOutside (lines_in table) (fault_of (closed found.at) found.at) = record {
    no_cycle = no_cycle;
    closed = closed;
    are_closed = are;
    dof = found.at;
    outside = is_first table closed found.at are found.is;
    least = λ other is. least_is (leaves_first table closed) (length table) other found (first_told table closed other is);
    is_fault = refl;
  } in
      (Err (fault_of (closed found.at) found.at), as_fault (lines_in table) (closed found.at) found.at out))
  | inr none ↦ (Ok closed, record { no_cycle = no_cycle; are_closed = are; in_range = λ d. (all_inside table closed no_cycle are none d).here })
]

pub an_answer : (table : List (Option AffineLine)) → (answer : Result Lines CloseFault) × IsAnswer (lines_in table) answer
an_answer table = elim (least_of (λ d. reaches_by (lines_in table) (length table) d d) (length table)) [
  | inl found ↦ cycle_answer table found
  | inr none ↦ (let no_cycle : HaveNoCycle (lines_in table) = λ d way.
      both_ways (reaches_by (lines_in table) (length table) d d) (none d (from_place table d d way)) (reaches_told table d d way) in
      let closable = can_be_closed table no_cycle in
      range_answer table closable.closed no_cycle closable.are_closed)
]
