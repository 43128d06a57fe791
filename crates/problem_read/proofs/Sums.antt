-- What words give, one after another.
use Rattle.std.proofs.Common.{◌≡◌, ◌∙◌, sym, ap, refl, ℕ, List, [], ◌∷◌, ◌++◌, Bool, true, false, append-nil, append_assoc, ◌⊎◌, inl, inr}
use Rattle.std.specs.Prelude.{filter, ℤ, pos, Some, None, Err, unwrap_or, is_some}
use Rattle.std.specs.declared.option.Option.{Option}
use Rattle.std.proofs.lemmas.List.Elements.{filter-append}
use Rattle.fem_text.specs.Words.{or_fault, with_first, all_of}
use Rattle.fem_text.proofs.OneReading.{err_same}
use Rattle.fem_text.specs.declared.fault.TextFault.{TextFault}
use Rattle.problem_read.specs.declared.fault.ProblemKind.{ProblemKind}
use Rattle.problem_read.specs.declared.fault.ProblemKind.TheVariants.{Number}
use Rattle.problem_read.specs.declared.ties.TieTerm.{TieTerm}
use Rattle.problem_read.specs.Sums.{is_term, is_constant, term_of, constant_of, last_or, sum_with, sum_of}
use Rattle.problem_read.specs.Ties.{AddsPart, HasSum}
use Rattle.problem_read.specs.Problem.{NoMemoryOr}
use Rattle.problem_read.specs.Steps.{IsLineFault}

with_both : {B : Type 0} (y : Option B) (ys : Option (List B)) (zs : List B) → with_first y ys ≡ Some zs → (v : B) × (vs : List B) × (y ≡ Some v) × (ys ≡ Some vs) × (zs ≡ v ∷ vs)
with_both (Some v) (Some vs) zs h = (v, vs, refl, refl, cc)
with_both (Some v) None zs h = cc
with_both None (Some vs) zs h = cc
with_both None None zs h = cc

pub all_of_both : {A B : Type 0} (f : A → Option B) (xs ys : List A) (us vs : List B) → all_of f xs ≡ Some us → all_of f ys ≡ Some vs → all_of f (xs ++ ys) ≡ Some (us ++ vs)
all_of_both f [] ys us vs first second = (let none : [] ≡ us = cc in second ∙ ap (λ front. Some (front ++ vs)) none)
all_of_both f (x ∷ xs) ys us vs first second =
    let (w, ws, head, tail, is) = with_both (f x) (all_of f xs) us first in
    let more = all_of_both f xs ys ws vs tail second in
    (λ i. with_first (head i) (more i)) ∙ ap (λ front. Some (front ++ vs)) (sym is)

none_left : {B : Type 0} (ys : Option (List B)) → with_first None ys ≡ None
none_left (Some vs) = refl
none_left None = refl

none_right : {B : Type 0} (y : Option B) → with_first y None ≡ None
none_right (Some v) = refl
none_right None = refl

one_none : {B : Type 0} (value : Option B) (more longer : Option (List B)) → (more ≡ None → longer ≡ None) → with_first value more ≡ None → with_first value longer ≡ None
one_none None more longer rest h = none_left longer
one_none (Some v) None longer rest h = ap (with_first (Some v)) (rest refl)
one_none (Some v) (Some vs) longer rest h = cc

front_none : {A B : Type 0} (f : A → Option B) (ys zs : List A) → all_of f ys ≡ None → all_of f (ys ++ zs) ≡ None
front_none f [] zs h = cc
front_none f (y ∷ ys) zs h = one_none (f y) (all_of f ys) (all_of f (ys ++ zs)) (front_none f ys zs) h

-- where some items give nothing, all of them together give nothing
pub all_of_none : {A B : Type 0} (f : A → Option B) (xs ys zs : List A) → all_of f ys ≡ None → all_of f (xs ++ (ys ++ zs)) ≡ None
all_of_none f [] ys zs h = front_none f ys zs h
all_of_none f (x ∷ xs) ys zs h = ap (with_first (f x)) (all_of_none f xs ys zs h) ∙ none_right (f x)

pub last_or_both : (other : ℤ) (xs ys : List ℤ) → last_or other (xs ++ ys) ≡ last_or (last_or other xs) ys
last_or_both other [] ys = refl
last_or_both other (x ∷ xs) ys = last_or_both x xs ys

-- the first of these words give these values, and the rest is left
pub record GivesSoFar {B : Type 0} (f : List ℕ → Option B) (all : List (List ℕ)) (values : List B) (rest : List (List ℕ)) : Type 0 where
  pub done : List (List ℕ)
  pub splits : all ≡ done ++ rest
  pub gives : all_of f done ≡ Some values

moved : (all done rest more : List (List ℕ)) (word : List ℕ) → all ≡ done ++ rest → rest ≡ word ∷ more → all ≡ (done ++ word ∷ []) ++ more
moved all done rest more word splits first = splits ∙ ap (λ words. done ++ words) first ∙ sym (append_assoc done (word ∷ []) more)

pub gives_more : {B : Type 0} (f : List ℕ → Option B) (all rest more : List (List ℕ)) (values now : List B) (word : List ℕ) (value : B) →
    GivesSoFar f all values rest → rest ≡ word ∷ more → f word ≡ Some value → now ≡ values ++ value ∷ [] → GivesSoFar f all now more
gives_more f all rest more values now word value so_far first gives added =
    record {
      done = so_far.done ++ word ∷ [];
      splits = moved all so_far.done rest more word so_far.splits first;
      gives = all_of_both f so_far.done (word ∷ []) values (value ∷ []) so_far.gives (ap (λ v. with_first v (Some [])) gives) ∙ ap Some (sym added);
    }

pub gives_all : {B : Type 0} (f : List ℕ → Option B) (all rest : List (List ℕ)) (values : List B) → GivesSoFar f all values rest → rest ≡ [] → all_of f all ≡ Some values
gives_all f all rest values so_far none =
    let whole : all ≡ so_far.done = so_far.splits ∙ ap (λ words. so_far.done ++ words) none ∙ append-nil so_far.done in
    ap (all_of f) whole ∙ so_far.gives

pub gives_stop : {B : Type 0} (f : List ℕ → Option B) (all rest more : List (List ℕ)) (values : List B) (word : List ℕ) → GivesSoFar f all values rest → rest ≡ word ∷ more → f word ≡ None →
    all_of f all ≡ None
gives_stop f all rest more values word so_far first none =
    let one : all_of f (word ∷ []) ≡ None = ap (λ v. with_first v (Some [])) none in
    ap (all_of f) (so_far.splits ∙ ap (λ words. so_far.done ++ words) first) ∙ all_of_none f so_far.done (word ∷ []) more one

-- the first of these words give these terms behind the earlier ones and this constant, and the rest is left
pub record SumSoFar (all : List (List ℕ)) (before now : List TieTerm) (constant : ℤ) (rest : List (List ℕ)) : Type 0 where
  pub done : List (List ℕ)
  pub splits : all ≡ done ++ rest
  pub terms : List TieTerm
  pub constants : List ℤ
  pub terms_are : all_of term_of (filter is_term done) ≡ Some terms
  pub constants_are : all_of constant_of (filter is_constant done) ≡ Some constants
  pub constant_is : constant ≡ last_or (pos 0) constants
  pub added : now ≡ before ++ terms

pub sum_none : (all rest : List (List ℕ)) (before : List TieTerm) → rest ≡ all → SumSoFar all before before (pos 0) rest
sum_none all rest before same =
    record { done = []; splits = sym same; terms = []; constants = []; terms_are = refl; constants_are = refl; constant_is = refl; added = sym (append-nil before) }

parts_both : {B : Type 0} (f : List ℕ → Option B) (test : List ℕ → Bool) (done : List (List ℕ)) (word : List ℕ) (us vs : List B) → all_of f (filter test done) ≡ Some us →
    all_of f (filter test (word ∷ [])) ≡ Some vs → all_of f (filter test (done ++ word ∷ [])) ≡ Some (us ++ vs)
parts_both f test done word us vs first second =
    ap (all_of f) (filter-append test done (word ∷ [])) ∙ all_of_both f (filter test done) (filter test (word ∷ [])) us vs first second

pub sum_more : (all rest more : List (List ℕ)) (start before now : List TieTerm) (constant constant_now : ℤ) (word : List ℕ) → SumSoFar all start before constant rest → rest ≡ word ∷ more →
    AddsPart word before constant now constant_now → SumSoFar all start now constant_now more
sum_more all rest more start before now constant constant_now word so_far first adds =
    record {
      done = so_far.done ++ word ∷ [];
      splits = moved all so_far.done rest more word so_far.splits first;
      terms = so_far.terms ++ adds.terms;
      constants = so_far.constants ++ adds.constants;
      terms_are = parts_both term_of is_term so_far.done word so_far.terms adds.terms so_far.terms_are adds.terms_are;
      constants_are = parts_both constant_of is_constant so_far.done word so_far.constants adds.constants so_far.constants_are adds.constants_are;
      constant_is = adds.constant_is ∙ ap (λ k. last_or k adds.constants) so_far.constant_is ∙ sym (last_or_both (pos 0) so_far.constants adds.constants);
      added = adds.added ∙ ap (λ list. list ++ adds.terms) so_far.added ∙ append_assoc start so_far.terms adds.terms;
    }

pub sum_all : (all rest : List (List ℕ)) (before now : List TieTerm) (constant : ℤ) → SumSoFar all before now constant rest → rest ≡ [] → HasSum all before now constant
unfolding sum_of
sum_all all rest before now constant so_far none =
    let whole : all ≡ so_far.done = so_far.splits ∙ ap (λ words. so_far.done ++ words) none ∙ append-nil so_far.done in
    record {
      terms = so_far.terms;
      sum = ap sum_of whole ∙ (λ i. sum_with (so_far.terms_are i) (so_far.constants_are i)) ∙ ap (λ k. Some (record { terms = so_far.terms; constant = k })) (sym so_far.constant_is);
      added = so_far.added;
    }

sum_nothing : (terms : Option (List TieTerm)) (constants : Option (List ℤ)) → sum_with terms constants ≡ None → (terms ≡ None) ⊎ (constants ≡ None)
sum_nothing (Some terms) (Some constants) h = cc
sum_nothing (Some terms) None h = inr refl
sum_nothing None (Some constants) h = inl refl
sum_nothing None None h = inl refl

no_terms : (constants : Option (List ℤ)) → sum_with None constants ≡ None
no_terms (Some constants) = refl
no_terms None = refl

no_constants : (terms : Option (List TieTerm)) → sum_with terms None ≡ None
no_constants (Some terms) = refl
no_constants None = refl

-- the words of a test among these
cut : (test : List ℕ → Bool) (done more : List (List ℕ)) (word : List ℕ) → filter test (done ++ word ∷ more) ≡ filter test done ++ (filter test (word ∷ []) ++ filter test more)
cut test done more word = filter-append test done (word ∷ more) ∙ ap (λ words. filter test done ++ words) (filter-append test (word ∷ []) more)

-- a word that gives no part stops the sum
pub sum_stop : (done more : List (List ℕ)) (word : List ℕ) → sum_of (word ∷ []) ≡ None → sum_of (done ++ word ∷ more) ≡ None
unfolding sum_of
sum_stop done more word none = elim (sum_nothing (all_of term_of (filter is_term (word ∷ []))) (all_of constant_of (filter is_constant (word ∷ []))) none) [
  | inl terms ↦ ap (λ ts. sum_with ts (all_of constant_of (filter is_constant (done ++ word ∷ more))))
      (ap (all_of term_of) (cut is_term done more word) ∙ all_of_none term_of (filter is_term done) (filter is_term (word ∷ [])) (filter is_term more) terms)
      ∙ no_terms (all_of constant_of (filter is_constant (done ++ word ∷ more)))
  | inr constants ↦ ap (sum_with (all_of term_of (filter is_term (done ++ word ∷ more))))
      (ap (all_of constant_of) (cut is_constant done more word) ∙ all_of_none constant_of (filter is_constant done) (filter is_constant (word ∷ [])) (filter is_constant more) constants)
      ∙ no_constants (all_of term_of (filter is_term (done ++ word ∷ more)))
]

nothing : {A : Type 0} (kind other : ProblemKind) (o : Option A) → or_fault kind o ≡ Err other → (o ≡ None) × (kind ≡ other)
nothing kind other (Some x) h = cc
nothing {A = A} kind other None h = (refl, err_same {A = A} kind other h)

pub sum_fails : (all rest more : List (List ℕ)) (before now : List TieTerm) (constant : ℤ) (word : List ℕ) (number : ℕ) (fault : TextFault ProblemKind) → SumSoFar all before now constant rest →
    rest ≡ word ∷ more → NoMemoryOr fault (IsLineFault (or_fault Number (sum_of (word ∷ []))) number fault) → NoMemoryOr fault (IsLineFault (or_fault Number (sum_of all)) number fault)
sum_fails all rest more before now constant word number fault so_far first found = elim found [
  | inl memory ↦ inl memory
  | inr fails ↦ (let (none, kind) = nothing Number fault.kind (sum_of (word ∷ [])) fails.kind_is in
      let whole : sum_of all ≡ None = ap sum_of (so_far.splits ∙ ap (λ words. so_far.done ++ words) first) ∙ sum_stop so_far.done more word none in
      inr (record { kind_is = ap (or_fault Number) whole ∙ ap (λ k. Err k) kind; line_is = fails.line_is }))
]

pub bad_term : (word : List ℕ) → is_term word ≡ true → term_of word ≡ None → or_fault Number (sum_of (word ∷ [])) ≡ Err Number
unfolding sum_of
bad_term word one none =
    let words : filter is_term (word ∷ []) ≡ word ∷ [] = rw one refl in
    let terms : all_of term_of (filter is_term (word ∷ [])) ≡ None = ap (all_of term_of) words ∙ ap (λ v. with_first v (Some [])) none in
    ap (or_fault Number) (ap (λ ts. sum_with ts (all_of constant_of (filter is_constant (word ∷ [])))) terms ∙ no_terms (all_of constant_of (filter is_constant (word ∷ []))))

pub bad_constant : (word : List ℕ) → is_constant word ≡ true → constant_of word ≡ None → or_fault Number (sum_of (word ∷ [])) ≡ Err Number
unfolding sum_of
bad_constant word one none =
    let words : filter is_constant (word ∷ []) ≡ word ∷ [] = rw one refl in
    let constants : all_of constant_of (filter is_constant (word ∷ [])) ≡ None = ap (all_of constant_of) words ∙ ap (λ v. with_first v (Some [])) none in
    ap (or_fault Number) (ap (sum_with (all_of term_of (filter is_term (word ∷ [])))) constants ∙ no_constants (all_of term_of (filter is_term (word ∷ []))))

part_some : (word : List ℕ) (before : List TieTerm) (constant value : ℤ) → is_term word ≡ false → is_constant word ≡ true → constant_of word ≡ Some value → AddsPart word before constant before value
part_some word before constant value term one given =
    let none : filter is_term (word ∷ []) ≡ [] = rw term refl in
    let words : filter is_constant (word ∷ []) ≡ word ∷ [] = rw one refl in
    record {
      terms = [];
      constants = value ∷ [];
      terms_are = ap (all_of term_of) none;
      constants_are = ap (all_of constant_of) words ∙ ap (λ v. with_first v (Some [])) given;
      added = sym (append-nil before);
      constant_is = refl;
    }

pub part_constant : (word : List ℕ) (before : List TieTerm) (constant : ℤ) (value : Option ℤ) → is_term word ≡ false → is_constant word ≡ true → value ≡ constant_of word → is_some value ≡ true →
    AddsPart word before constant before (unwrap_or value (pos 0))
part_constant word before constant (Some value) term one given some = part_some word before constant value term one (sym given)
part_constant word before constant None term one given some = cc

pub part_none : (word : List ℕ) (before : List TieTerm) (constant : ℤ) → is_term word ≡ false → is_constant word ≡ false → AddsPart word before constant before constant
part_none word before constant term one =
    let none : filter is_term (word ∷ []) ≡ [] = rw term refl in
    let words : filter is_constant (word ∷ []) ≡ [] = rw one refl in
    record {
      terms = [];
      constants = [];
      terms_are = ap (all_of term_of) none;
      constants_are = ap (all_of constant_of) words;
      added = sym (append-nil before);
      constant_is = refl;
    }
