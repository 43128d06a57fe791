-- Laws on lists of any elements: one more element, and elements numbered as they come. For the crates above.
use Rattle.std.proofs.Common.{◌≡◌, ◌∙◌, ◌⊎◌, sym, ap, refl, ℕ, ◌+◌, ◌≤◌, List, [], ◌∷◌, ◌++◌, length, Bool, true, false, arith, append_assoc, append-nil, subst, inl, inr, length-append, nat_eq}
use Rattle.std.specs.Prelude.{Some, None, ◌||◌, ◌&&◌, ◌==◌, if◌then◌else◌}
use Rattle.std.specs.Ordering.{is_eq}
use Rattle.std.specs.List.{list_any, before_first, position}
use Rattle.std.proofs.lemmas.List.Folds.{list_any-append, position_or_len_push}
use Rattle.std.proofs.lemmas.List.Sums.{prefix_len-le-length}
use Rattle.std.proofs.lemmas.Grind.{common_steps}
use Rattle.std.proofs.lemmas.Bool.{cases_Bool}
use Rattle.fem_fixed.specs.Lists.{IsEquality, IsNumbering, contains, different, place_of, rank_of, rank_among, pair_cmp}

-- the test on numbers
pub numbers_equal : IsEquality nat_eq
numbers_equal = record { itself = λ x. (grind arith); equal = λ x y h. (grind arith) }

-- two elements are one, or the test tells them apart
pub one_or_apart : {X : Type 0} {same : X → X → Bool} (laws : IsEquality same) (x y : X) → (x ≡ y) ⊎ (same x y ≡ false)
one_or_apart {same = same} laws x y = elim (cases_Bool (same x y)) [ inl e ↦ inl (laws.equal x y e) | inr e ↦ inr e ]

-- the test is true of one element
pub same_by : {X : Type 0} {same : X → X → Bool} (laws : IsEquality same) (x y : X) → x ≡ y → same x y ≡ true
same_by {same = same} laws x y e = ap (λ z. same x z) (sym e) ∙ laws.itself x

-- the test is symmetric
pub same_turned : {X : Type 0} {same : X → X → Bool} (laws : IsEquality same) (x y : X) → same x y ≡ same y x
same_turned {same = same} laws x y = elim (cases_Bool (same x y)) [
  | inl e ↦ e ∙ sym (same_by laws y x (sym (laws.equal x y e)))
  | inr e ↦ elim (cases_Bool (same y x)) [
    | inl f ↦ (let g : same x y ≡ true = same_by laws x y (sym (laws.equal y x f)) in cc)
    | inr f ↦ e ∙ sym f
  ]
]

-- an element is in one of two lists
pub contains-append : {X : Type 0} (same : X → X → Bool) (xs ys : List X) (x : X) → contains same (xs ++ ys) x ≡ (contains same xs x || contains same ys x)
contains-append same xs ys x = list_any-append (λ y. same y x) xs ys

or_false_right : (a : Bool) → (a || false) ≡ a
or_false_right true = refl
or_false_right false = refl

or_true_right : (a : Bool) → (a || true) ≡ true
or_true_right true = refl
or_true_right false = refl

-- an element of a list is in a longer one
pub contains_more : {X : Type 0} (same : X → X → Bool) (seen more : List X) (x : X) → contains same seen x ≡ true → contains same (seen ++ more) x ≡ true
contains_more same seen more x h = contains-append same seen more x ∙ ap (λ b. b || contains same more x) h

-- the last element is in the list
pub last_here : {X : Type 0} {same : X → X → Bool} (laws : IsEquality same) (xs : List X) (x y : X) → x ≡ y → contains same (xs ++ x ∷ []) y ≡ true
last_here {same = same} laws xs x y e = contains-append same xs (x ∷ []) y ∙ ap (λ b. contains same xs y || (b || false)) (same_by laws x y e) ∙ or_true_right (contains same xs y)

-- another one is where it was in the list before
pub last_apart : {X : Type 0} (same : X → X → Bool) (xs : List X) (x y : X) → same x y ≡ false → contains same (xs ++ x ∷ []) y ≡ contains same xs y
last_apart same xs x y e = contains-append same xs (x ∷ []) y ∙ ap (λ b. contains same xs y || (b || false)) e ∙ or_false_right (contains same xs y)

pub contains_last : {X : Type 0} {same : X → X → Bool} (laws : IsEquality same) (xs : List X) (x : X) → contains same (xs ++ x ∷ []) x ≡ true
contains_last laws xs x = last_here laws xs x x refl

move : (a b c : ℕ) → a + (b + c) ≡ a + b + c
move a b c = omega arith

turn : (b c : ℕ) → 0 + (b + c) ≡ c + b + 0
turn b c = omega arith

-- an element that stands already leaves the count, a new one adds one
pub different-append : {X : Type 0} {same : X → X → Bool} (laws : IsEquality same) (xs : List X) (x : X) →
    different same (xs ++ x ∷ []) ≡ different same xs + (if contains same xs x then 0 else 1)
different-append laws [] x = refl
different-append {same = same} laws (y ∷ xs) x =
    let more : different same (xs ++ x ∷ []) ≡ different same xs + (if contains same xs x then 0 else 1) = different-append laws xs x in
    elim (one_or_apart laws x y) [
      | inl e ↦ (let here : contains same (xs ++ x ∷ []) y ≡ true = last_here laws xs x y e in
          let head : same y x ≡ true = same_by laws y x (sym e) in
          let both : contains same xs y ≡ contains same xs x = ap (contains same xs) (sym e) in
          ap (λ b. (if b then 0 else 1) + different same (xs ++ x ∷ [])) here ∙ ap (λ n. 0 + n) more ∙ turn (different same xs) (if contains same xs x then 0 else 1)
          ∙ ap (λ b. (if b then 0 else 1) + different same xs + 0) (sym both) ∙ ap (λ b. (if contains same xs y then 0 else 1) + different same xs + (if (b || contains same xs x) then 0 else 1)) (sym head))
      | inr e ↦ (let here : contains same (xs ++ x ∷ []) y ≡ contains same xs y = last_apart same xs x y e in
          let head : same y x ≡ false = same_turned laws y x ∙ e in
          ap (λ b. (if b then 0 else 1) + different same (xs ++ x ∷ [])) here ∙ ap (λ n. (if contains same xs y then 0 else 1) + n) more
          ∙ move (if contains same xs y then 0 else 1) (different same xs) (if contains same xs x then 0 else 1)
          ∙ ap (λ b. (if contains same xs y then 0 else 1) + different same xs + (if (b || contains same xs x) then 0 else 1)) (sym head))
    ]

-- there are no more different elements than elements
pub different-le-length : {X : Type 0} (same : X → X → Bool) (xs : List X) → different same xs ≤ length xs
different-le-length same [] = omega arith
different-le-length same (x ∷ xs) = elim (cases_Bool (contains same xs x)) [
  | inl e ↦ rw e (omega (arith, different-le-length same xs))
  | inr e ↦ rw e (omega (arith, different-le-length same xs))
]

first_here : {X : Type 0} (p : X → Bool) (x : X) (xs : List X) → p x ≡ true → before_first p (x ∷ xs) ≡ []
first_here p x xs e = rw e refl

first_later : {X : Type 0} (p : X → Bool) (x : X) (xs : List X) → p x ≡ false → before_first p (x ∷ xs) ≡ x ∷ before_first p xs
first_later p x xs e = grind (arith, common_steps)

any_later : {X : Type 0} (p : X → Bool) (x : X) (xs : List X) → p x ≡ false → list_any p (x ∷ xs) ≡ list_any p xs
any_later p x xs e = grind (arith, common_steps)

any_here : {X : Type 0} (p : X → Bool) (x : X) (xs : List X) → list_any p (x ∷ xs) ≡ false → p x ≡ false
any_here p x xs e = grind (arith, common_steps)

-- what stands before the first place doesn't change where more comes behind
pub found_first : {X : Type 0} (p : X → Bool) (xs ys : List X) → list_any p xs ≡ true → before_first p (xs ++ ys) ≡ before_first p xs
found_first p [] ys h = cc
found_first p (x ∷ xs) ys h = elim (cases_Bool (p x)) [
  | inl e ↦ first_here p x (xs ++ ys) e ∙ sym (first_here p x xs e)
  | inr e ↦ first_later p x (xs ++ ys) e ∙ ap (λ zs. x ∷ zs) (found_first p xs ys (sym (any_later p x xs e) ∙ h)) ∙ sym (first_later p x xs e)
]

-- and it is the whole list where the first place comes behind it
pub none_first : {X : Type 0} (p : X → Bool) (xs : List X) (n : X) → list_any p xs ≡ false → p n ≡ true → before_first p (xs ++ n ∷ []) ≡ xs
none_first p [] n h at = first_here p n [] at
none_first p (x ∷ xs) n h at =
    let e : p x ≡ false = any_here p x xs h in
    first_later p x (xs ++ n ∷ []) e ∙ ap (λ zs. x ∷ zs) (none_first p xs n (sym (any_later p x xs e) ∙ h) at)

-- the number of an element doesn't change where more elements come behind
pub rank_stays : {X : Type 0} (same : X → X → Bool) (seen more : List X) (x : X) → contains same seen x ≡ true → rank_of same (seen ++ more) x ≡ rank_of same seen x
unfolding rank_of
rank_stays same seen more x h = ap (different same) (found_first (λ y. same y x) seen more h)

-- a new element gets the next number
pub rank_next : {X : Type 0} {same : X → X → Bool} (laws : IsEquality same) (seen : List X) (x : X) → contains same seen x ≡ false → rank_of same (seen ++ x ∷ []) x ≡ different same seen
unfolding rank_of
rank_next {same = same} laws seen x h = ap (different same) (none_first (λ y. same y x) seen x h (laws.itself x))

among_by : {X : Type 0} (same : X → X → Bool) (xs : List X) (x : X) (b : Bool) → contains same xs x ≡ b → rank_among same xs x ≡ (if b then Some (rank_of same xs x) else None)
among_by same xs x b e = ap (λ c. if c then Some (rank_of same xs x) else None) e

-- whether an element has a number
pub among_some : {X : Type 0} (same : X → X → Bool) (xs : List X) (x : X) → contains same xs x ≡ true → rank_among same xs x ≡ Some (rank_of same xs x)
among_some same xs x e = among_by same xs x true e

pub among_none : {X : Type 0} (same : X → X → Bool) (xs : List X) (x : X) → contains same xs x ≡ false → rank_among same xs x ≡ None
among_none same xs x e = among_by same xs x false e

-- with one more element behind, the others keep their numbers
pub among_apart : {X : Type 0} (same : X → X → Bool) (seen : List X) (x y : X) → same x y ≡ false → rank_among same (seen ++ x ∷ []) y ≡ rank_among same seen y
among_apart same seen x y e = elim (cases_Bool (contains same seen y)) [
  | inl h ↦ among_some same (seen ++ x ∷ []) y (contains_more same seen (x ∷ []) y h) ∙ ap Some (rank_stays same seen (x ∷ []) y h) ∙ sym (among_some same seen y h)
  | inr h ↦ among_none same (seen ++ x ∷ []) y (last_apart same seen x y e ∙ h) ∙ sym (among_none same seen y h)
]

-- so do all where the one more stood already
pub among_same : {X : Type 0} {same : X → X → Bool} (laws : IsEquality same) (seen : List X) (x y : X) → contains same seen x ≡ true → rank_among same (seen ++ x ∷ []) y ≡ rank_among same seen y
among_same {same = same} laws seen x y h = elim (one_or_apart laws x y) [
  | inl e ↦ (let here : contains same seen y ≡ true = ap (contains same seen) (sym e) ∙ h in
      among_some same (seen ++ x ∷ []) y (contains_more same seen (x ∷ []) y here) ∙ ap Some (rank_stays same seen (x ∷ []) y here) ∙ sym (among_some same seen y here))
  | inr e ↦ among_apart same seen x y e
]

-- and the new one gets the next
pub among_new : {X : Type 0} {same : X → X → Bool} (laws : IsEquality same) (seen : List X) (x : X) → contains same seen x ≡ false → rank_among same (seen ++ x ∷ []) x ≡ Some (different same seen)
among_new {same = same} laws seen x h = among_some same (seen ++ x ∷ []) x (contains_last laws seen x) ∙ ap Some (rank_next laws seen x h)

none_numbered : {X : Type 0} (same : X → X → Bool) → IsNumbering same []
none_numbered same = record { below = λ x h. cc; one = λ x y h g e. cc }

old_numbered : {X : Type 0} {same : X → X → Bool} (laws : IsEquality same) (seen : List X) (z : X) → IsNumbering same seen → contains same seen z ≡ true → IsNumbering same (seen ++ z ∷ [])
old_numbered {X = X} {same = same} laws seen z g old =
    let was : (x : X) → contains same (seen ++ z ∷ []) x ≡ true → contains same seen x ≡ true = λ x h.
    elim (one_or_apart laws z x) [ inl e ↦ ap (contains same seen) (sym e) ∙ old | inr e ↦ sym (last_apart same seen z x e) ∙ h ] in
    let count : different same (seen ++ z ∷ []) ≡ different same seen + 0 = different-append laws seen z ∙ ap (λ b. different same seen + (if b then 0 else 1)) old in
    record {
      below = λ x h. (let s = rank_stays same seen (z ∷ []) x (was x h) in omega (arith, g.below x (was x h)));
      one = λ x y h k e. g.one x y (was x h) (was y k) (sym (rank_stays same seen (z ∷ []) x (was x h)) ∙ e ∙ rank_stays same seen (z ∷ []) y (was y k));
    }

new_numbered : {X : Type 0} {same : X → X → Bool} (laws : IsEquality same) (seen : List X) (z : X) → IsNumbering same seen → contains same seen z ≡ false → IsNumbering same (seen ++ z ∷ [])
new_numbered {X = X} {same = same} laws seen z g new =
    let count : different same (seen ++ z ∷ []) ≡ different same seen + 1 = different-append laws seen z ∙ ap (λ b. different same seen + (if b then 0 else 1)) new in
    let next : rank_of same (seen ++ z ∷ []) z ≡ different same seen = rank_next laws seen z new in
    let at : (x : X) → z ≡ x → rank_of same (seen ++ z ∷ []) x ≡ different same seen = λ x e. ap (rank_of same (seen ++ z ∷ [])) (sym e) ∙ next in
    let was : (x : X) → same z x ≡ false → contains same (seen ++ z ∷ []) x ≡ true → contains same seen x ≡ true = λ x e h. sym (last_apart same seen z x e) ∙ h in
    let stays : (x : X) → same z x ≡ false → contains same (seen ++ z ∷ []) x ≡ true → rank_of same (seen ++ z ∷ []) x ≡ rank_of same seen x = λ x e h. rank_stays same seen (z ∷ []) x (was x e h) in
    record {
      below = λ x h. elim (one_or_apart laws z x) [
        | inl e ↦ (let a = at x e in omega arith)
        | inr e ↦ (let s = stays x e h in omega (arith, g.below x (was x e h)))
      ];
      one = λ x y h k eq. elim (one_or_apart laws z x) [
        | inl e ↦ elim (one_or_apart laws z y) [
          | inl d ↦ sym e ∙ d
          | inr d ↦ (let a = at x e in let s = stays y d k in absurd (omega (arith, g.below y (was y d k))))
        ]
        | inr e ↦ elim (one_or_apart laws z y) [
          | inl d ↦ (let a = at y d in let s = stays x e h in absurd (omega (arith, g.below x (was x e h))))
          | inr d ↦ g.one x y (was x e h) (was y d k) (sym (stays x e h) ∙ eq ∙ stays y d k)
        ]
      ];
    }

more_numbered : {X : Type 0} {same : X → X → Bool} (laws : IsEquality same) (ys seen : List X) → IsNumbering same seen → IsNumbering same (seen ++ ys)
more_numbered {same = same} laws [] seen g = subst (IsNumbering same) (sym (append-nil seen)) g
more_numbered {same = same} laws (y ∷ ys) seen g =
    let step : IsNumbering same (seen ++ y ∷ []) = elim (cases_Bool (contains same seen y)) [ inl h ↦ old_numbered laws seen y g h | inr h ↦ new_numbered laws seen y g h ] in
    let e : (seen ++ y ∷ []) ++ ys ≡ seen ++ y ∷ ys = append_assoc seen (y ∷ []) ys in
    subst (IsNumbering same) e (more_numbered laws ys (seen ++ y ∷ []) step)

-- numbers as they come are below the count, and no two elements have one, for every list
pub numbered : {X : Type 0} {same : X → X → Bool} (laws : IsEquality same) (xs : List X) → IsNumbering same xs
numbered {same = same} laws xs = more_numbered laws xs [] (none_numbered same)

-- a new element has the next position, and the others keep theirs
pub place_push : {X : Type 0} {same : X → X → Bool} (laws : IsEquality same) (xs : List X) (new x : X) → place_of same xs new ≡ None →
    place_of same (xs ++ new ∷ []) x ≡ (if same new x then Some (length xs) else place_of same xs x)
place_push {X = X} {same = same} laws xs new x h = placed (λ (y : X). same y x) xs new (λ found. (
    let e : new ≡ x = laws.equal new x found in ap (place_of same xs) (sym e) ∙ h))
  where
    placed : {X : Type 0} (test : X → Bool) (xs : List X) (new : X) → (test new ≡ true → position test xs ≡ None) →
        position test (xs ++ new ∷ []) ≡ (if test new then Some (length xs) else position test xs)
    placed test xs new h =
        let first = position_or_len_push test xs new in
        let before = prefix_len-le-length (λ y. if test y then false else true) xs in
        elim (cases_Bool (test new)) [
          | inl e ↦ (let none = h e in grind (arith, common_steps, first, before, length-append))
          | inr e ↦ grind (arith, common_steps, first, before, length-append)
        ]

-- pairs are equal in their order exactly where both parts are
pub pair_equal : (a b : ℕ × ℕ) → is_eq (pair_cmp a b) ≡ (a.0 == b.0 && a.1 == b.1)
pair_equal a b = grind arith
