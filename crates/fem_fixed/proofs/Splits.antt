-- A list cut at the first element that passes a test. For the crates above.
use Rattle.std.proofs.Common.{◌≡◌, ◌∙◌, sym, ap, refl, List, [], ◌∷◌, ◌++◌, Bool, true, false, arith, inl, inr}
use Rattle.std.specs.Prelude.{◌||◌}
use Rattle.std.specs.List.{list_any, before_first, after_first}
use Rattle.std.proofs.lemmas.Grind.{common_steps}
use Rattle.std.proofs.lemmas.Bool.{cases_Bool}

before_here : {X : Type 0} (p : X → Bool) (x : X) (xs : List X) → p x ≡ true → before_first p (x ∷ xs) ≡ []
before_here p x xs e = rw e refl

before_later : {X : Type 0} (p : X → Bool) (x : X) (xs : List X) → p x ≡ false → before_first p (x ∷ xs) ≡ x ∷ before_first p xs
before_later p x xs e = grind (arith, common_steps)

after_here : {X : Type 0} (p : X → Bool) (x : X) (xs : List X) → p x ≡ true → after_first p (x ∷ xs) ≡ xs
after_here p x xs e = rw e refl

after_later : {X : Type 0} (p : X → Bool) (x : X) (xs : List X) → p x ≡ false → after_first p (x ∷ xs) ≡ after_first p xs
after_later p x xs e = grind (arith, common_steps)

any_here : {X : Type 0} (p : X → Bool) (x : X) (xs : List X) → list_any p (x ∷ xs) ≡ false → p x ≡ false
any_here p x xs e = grind (arith, common_steps)

any_later : {X : Type 0} (p : X → Bool) (x : X) (xs : List X) → p x ≡ false → list_any p (x ∷ xs) ≡ list_any p xs
any_later p x xs e = grind (arith, common_steps)

none_later : {X : Type 0} (p : X → Bool) (x : X) (xs : List X) → list_any p (x ∷ xs) ≡ false → list_any p xs ≡ false
none_later p x xs e = sym (any_later p x xs (any_here p x xs e)) ∙ e

-- no element passes
pub before_none : {X : Type 0} (p : X → Bool) (xs : List X) → list_any p xs ≡ false → before_first p xs ≡ xs
before_none p [] h = refl
before_none p (x ∷ xs) h = before_later p x xs (any_here p x xs h) ∙ ap (λ ys. x ∷ ys) (before_none p xs (none_later p x xs h))

pub after_none : {X : Type 0} (p : X → Bool) (xs : List X) → list_any p xs ≡ false → after_first p xs ≡ []
after_none p [] h = refl
after_none p (x ∷ xs) h = after_later p x xs (any_here p x xs h) ∙ after_none p xs (none_later p x xs h)

-- the first that passes is y
pub before_at : {X : Type 0} (p : X → Bool) (xs : List X) (y : X) (ys : List X) → list_any p xs ≡ false → p y ≡ true → before_first p (xs ++ y ∷ ys) ≡ xs
before_at p [] y ys h at = before_here p y ys at
before_at p (x ∷ xs) y ys h at =
    before_later p x (xs ++ y ∷ ys) (any_here p x xs h) ∙ ap (λ zs. x ∷ zs) (before_at p xs y ys (none_later p x xs h) at)

pub after_at : {X : Type 0} (p : X → Bool) (xs : List X) (y : X) (ys : List X) → list_any p xs ≡ false → p y ≡ true → after_first p (xs ++ y ∷ ys) ≡ ys
after_at p [] y ys h at = after_here p y ys at
after_at p (x ∷ xs) y ys h at = after_later p x (xs ++ y ∷ ys) (any_here p x xs h) ∙ after_at p xs y ys (none_later p x xs h) at

pub any_at : {X : Type 0} (p : X → Bool) (xs : List X) (y : X) (ys : List X) → p y ≡ true → list_any p (xs ++ y ∷ ys) ≡ true
any_at p [] y ys at = ap (λ b. b || list_any p ys) at
any_at p (x ∷ xs) y ys at = ap (λ b. p x || b) (any_at p xs y ys at) ∙ or_true (p x)
  where
    or_true : (b : Bool) → (b || true) ≡ true
    or_true true = refl
    or_true false = refl

-- where one passes, the list is put together from what stands before the first, that one, and what follows
pub put_together : {X : Type 0} (p : X → Bool) (xs : List X) → list_any p xs ≡ true → (y : X) × (p y ≡ true) × (xs ≡ before_first p xs ++ y ∷ after_first p xs)
put_together p [] h = absurd (impossible h)
  where
    impossible : false ≡ true → ⊥
    impossible e = cc
put_together p (x ∷ xs) h = elim (cases_Bool (p x)) [
  | inl e ↦ (x, e, sym (ap (λ ys. ys ++ x ∷ after_first p (x ∷ xs)) (before_here p x xs e) ∙ ap (λ ys. x ∷ ys) (after_here p x xs e)))
  | inr e ↦ (let (y, passes, is) = put_together p xs (sym (any_later p x xs e) ∙ h) in
      (y, passes, ap (λ ys. x ∷ ys) is ∙ sym (ap (λ ys. ys ++ y ∷ after_first p (x ∷ xs)) (before_later p x xs e) ∙ ap (λ ys. x ∷ before_first p xs ++ y ∷ ys) (after_later p x xs e))))
]
