-- Acts that give back all slots that a seat has, and then take a list of them.
use Rattle.std.proofs.Common.{◌≡◌, ℕ, zero, suc, ◌<◌, List, [], ◌∷◌, map, length, set, sym, refl, ap, ◌∙◌, subst, length-set}
use mathlib.Core.Option.{Option, some, none, some-injective, some-ne-none}
use lib.ListN.{get_elem?}
use Rattle.atomic_table.specs.Table.{Act, keeps, takes, gives, chain, Valid, carried_after, homes_after}
use Rattle.atomic_table.proofs.Lists.{set_here, set_else, at_map}
use Rattle.colored_copier.specs.Plans.{In, IsApart}
use Rattle.colored_copier.specs.Rule.{place}

pub in_tail : {A : Type 0} (a x : A) (xs : List A) → In a xs → In a (x ∷ xs)
in_tail a x xs h = (suc h.0, h.1)

pub not_in_nil : {A : Type 0} (a : A) → In a [] → ⊥
not_in_nil a h = some-ne-none a (sym h.1)

module _ {S : Type 0} where
  -- the later ones first, so that the seat carries them in the list's order
  abbrev pub takes_all : List (ℕ × S) → Act S
  takes_all [] = keeps
  takes_all (x ∷ xs) = chain (takes_all xs) (takes x.0 x.1)

  abbrev pub gives_all : List (ℕ × S) → Act S
  gives_all [] = keeps
  gives_all (x ∷ xs) = chain gives (gives_all xs)

  abbrev pub emptied : List (Option S) → List (ℕ × S) → List (Option S)
  emptied hs [] = hs
  emptied hs (x ∷ xs) = set (emptied hs xs) x.0 none

  abbrev pub filled : List (Option S) → List (ℕ × S) → List (Option S)
  filled hs [] = hs
  filled hs (x ∷ xs) = filled (set hs x.0 (some x.1)) xs

  pub carried_takes : (xs : List (ℕ × S)) → carried_after [] (takes_all xs) ≡ xs
  carried_takes [] = refl
  carried_takes (x ∷ xs) = ap (λ l. x ∷ l) (carried_takes xs)

  pub homes_takes : (xs : List (ℕ × S)) (hs : List (Option S)) → homes_after hs [] (takes_all xs) ≡ emptied hs xs
  homes_takes [] hs = refl
  homes_takes (x ∷ xs) hs = ap (λ l. set l x.0 none) (homes_takes xs hs)

  pub carried_gives : (xs : List (ℕ × S)) → carried_after xs (gives_all xs) ≡ []
  carried_gives [] = refl
  carried_gives (x ∷ xs) = carried_gives xs

  pub homes_gives : (xs : List (ℕ × S)) (hs : List (Option S)) → homes_after hs xs (gives_all xs) ≡ filled hs xs
  homes_gives [] hs = refl
  homes_gives (x ∷ xs) hs = homes_gives xs (set hs x.0 (some x.1))

  pub valid_gives : (xs : List (ℕ × S)) (hs : List (Option S)) → Valid hs xs (gives_all xs)
  valid_gives [] hs = tt
  valid_gives (x ∷ xs) hs = (tt, valid_gives xs (set hs x.0 (some x.1)))

  places_in : (l : List (ℕ × S)) (p : ℕ) (v : S) → In (p, v) l → In p (map place l)
  places_in l p v h = (h.0, at_map place l h.0 (p, v) h.1)

  -- a slot that is not named is as before
  pub filled_else : (xs : List (ℕ × S)) (hs : List (Option S)) (p : ℕ) → ((v : S) → In (p, v) xs → ⊥) → get_elem? (filled hs xs) p ≡ get_elem? hs p
  filled_else [] hs p not-in = refl
  filled_else (x ∷ xs) hs p not-in = filled_else xs (set hs x.0 (some x.1)) p (λ v h. not-in v (in_tail (p, v) x xs h)) ∙ set_else hs x.0 p (some x.1) (λ e. not-in x.1 (0, ap (λ (i : ℕ). some (i, x.1)) (sym e)))

  pub emptied_else : (xs : List (ℕ × S)) (hs : List (Option S)) (p : ℕ) → ((v : S) → In (p, v) xs → ⊥) → get_elem? (emptied hs xs) p ≡ get_elem? hs p
  emptied_else [] hs p not-in = refl
  emptied_else (x ∷ xs) hs p not-in = set_else (emptied hs xs) x.0 p none (λ e. not-in x.1 (0, ap (λ (i : ℕ). some (i, x.1)) (sym e))) ∙ emptied_else xs hs p (λ v h. not-in v (in_tail (p, v) x xs h))

  pub filled_length : (xs : List (ℕ × S)) (hs : List (Option S)) → length (filled hs xs) ≡ length hs
  filled_length [] hs = refl
  filled_length (x ∷ xs) hs = filled_length xs (set hs x.0 (some x.1)) ∙ length-set hs x.0 (some x.1)

  pub emptied_length : (xs : List (ℕ × S)) (hs : List (Option S)) → length (emptied hs xs) ≡ length hs
  emptied_length [] hs = refl
  emptied_length (x ∷ xs) hs = length-set (emptied hs xs) x.0 none ∙ emptied_length xs hs

  -- a slot that is given back has its value, if no two have one slot
  pub filled_at : (xs : List (ℕ × S)) (hs : List (Option S)) (p : ℕ) (v : S) (k : ℕ) → IsApart (map place xs) → get_elem? xs k ≡ some (p, v) → p < length hs → get_elem? (filled hs xs) p ≡ some (some v)
  filled_at [] hs p v k apart e lt = absurd (some-ne-none (p, v) (sym e))
  filled_at (x ∷ xs) hs p v zero apart e lt = let far = apart.0 in let same : x ≡ (p, v) = some-injective x (p, v) e in
      subst (λ (y : ℕ × S). get_elem? (filled (set hs y.0 (some y.1)) xs) p ≡ some (some v)) (sym same)
      (filled_else xs (set hs p (some v)) p (λ w h. far p (places_in xs p w h) (ap (λ (y : ℕ × S). y.0) (sym same))) ∙ set_here hs p (some v) lt)
  filled_at (x ∷ xs) hs p v (suc k) apart e lt = filled_at xs (set hs x.0 (some x.1)) p v k apart.1 e (subst (λ n. p < n) (sym (length-set hs x.0 (some x.1))) lt)

  -- distinct slots that are at home can be taken
  valid_takes : (xs : List (ℕ × S)) (hs : List (Option S)) → IsApart (map place xs) → ((p : ℕ) (v : S) → In (p, v) xs → get_elem? hs p ≡ some (some v)) → Valid hs [] (takes_all xs)
  valid_takes [] hs apart at = tt
  valid_takes (x ∷ xs) hs apart at = let far = apart.0 in (
    valid_takes xs hs apart.1 (λ p v h. at p v (in_tail (p, v) x xs h)),
    ap (λ l. get_elem? l x.0) (homes_takes xs hs) ∙ (emptied_else xs hs x.0 (λ v h. far x.0 (places_in xs x.0 v h) refl) ∙ at x.0 x.1 (0, refl)),
  )

  -- an act that gives back what the seat has and takes the others
  abbrev pub turns_over : List (ℕ × S) → List (ℕ × S) → Act S
  turns_over old new = chain (gives_all old) (takes_all new)

  pub carried_turns : (old new : List (ℕ × S)) → carried_after old (turns_over old new) ≡ new
  carried_turns old new = ap (λ c. carried_after c (takes_all new)) (carried_gives old) ∙ carried_takes new

  pub homes_turns : (old new : List (ℕ × S)) (hs : List (Option S)) → homes_after hs old (turns_over old new) ≡ emptied (filled hs old) new
  homes_turns old new hs = ap (λ c. homes_after (homes_after hs old (gives_all old)) c (takes_all new)) (carried_gives old) ∙ (ap (λ h. homes_after h [] (takes_all new)) (homes_gives old hs) ∙ homes_takes new (filled hs old))

  pub valid_turns : (old new : List (ℕ × S)) (hs : List (Option S)) → IsApart (map place new) → ((p : ℕ) (v : S) → In (p, v) new → get_elem? (filled hs old) p ≡ some (some v)) → Valid hs old (turns_over old new)
  valid_turns old new hs apart at = (
    valid_gives old hs,
    subst (λ c. Valid (homes_after hs old (gives_all old)) c (takes_all new)) (sym (carried_gives old)) (subst (λ h. Valid h [] (takes_all new)) (sym (homes_gives old hs)) (valid_takes new (filled hs old) apart at)),
  )
