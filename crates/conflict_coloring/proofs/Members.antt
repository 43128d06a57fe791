-- Tests on lists by an element.
use Rattle.std.proofs.Common.{◌≡◌, ◌⊎◌, inl, inr, ⊎_elim, ℕ, List, [], ◌∷◌, Bool, true, false, ◌||◌, ◌==◌, refl, ◌∙◌, ap, subst}
use Rattle.std.specs.Prelude.{All}
use Rattle.std.specs.List.{list_any}
use Rattle.std.proofs.lemmas.Bool.{eqb-true, eq-eqb, or_cases}
use Rattle.std.proofs.lemmas.List.Elements.{All-head, All-tail}
use Rattle.conflict_coloring.specs.Conflict.{has}

pub or_left : (a b : Bool) → a ≡ true → (a || b) ≡ true
or_left a b h = rw h refl

pub or_right : (a b : Bool) → b ≡ true → (a || b) ≡ true
or_right true b h = refl
or_right false b h = h

pub false_or_true : (b : Bool) → b ≡ false → b ≡ true → ⊥
false_or_true b f t = cc

pub bool_cases : (b : Bool) → (b ≡ true) ⊎ (b ≡ false)
bool_cases true = inl refl
bool_cases false = inr refl

pub any_from : (p : ℕ → Bool) (xs : List ℕ) (x : ℕ) → has xs x ≡ true → p x ≡ true → list_any p xs ≡ true
any_from p [] x h t = absurd (cc)
any_from p (y ∷ ys) x h t =
    ⊎_elim (λ e. or_left (p y) (list_any p ys) (ap p (eqb-true y x e) ∙ t)) (λ r. or_right (p y) (list_any p ys) (any_from p ys x r t)) (or_cases (y == x) (has ys x) h)

pub any_split : (p : ℕ → Bool) (xs : List ℕ) → list_any p xs ≡ true → (x : ℕ) × (has xs x ≡ true) × (p x ≡ true)
any_split p [] h = absurd (cc)
any_split p (y ∷ ys) h =
    ⊎_elim (λ e. (y, or_left (y == y) (has ys y) (eq-eqb y y refl), e))
    (λ r. let found = any_split p ys r in (found.0, or_right (y == found.0) (has ys found.0) found.1, found.2)) (or_cases (p y) (list_any p ys) h)

pub has_all : (P : ℕ → Type 0) (xs : List ℕ) (x : ℕ) → All P xs → has xs x ≡ true → P x
has_all P [] x a h = absurd (cc)
has_all P (y ∷ ys) x a h =
    ⊎_elim (λ e. subst P (eqb-true y x e) (All-head P y ys a)) (λ r. has_all P ys x (All-tail P y ys a) r) (or_cases (y == x) (has ys x) h)
