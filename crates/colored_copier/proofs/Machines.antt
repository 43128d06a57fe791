-- A table that meets the rule shows the machine.
use Rattle.std.proofs.Common.{◌≡◌, ℕ, zero, suc, ◌+◌, ◌%◌, ◌^◌, ◌<◌, ◌≤◌, List, [], ◌∷◌, ◌++◌, map, get_or, set, sym, refl, ap, ◌∙◌, arith, get_or-set_same}
use Rattle.std.proofs.Math.Nat.{mod-eq_of_lt}
use mathlib.Core.Option.{some}
use mathlib.Core.Logic.{dite}
use native.Mathlib.Decide.{ℕ_discrete}
use lib.ListN.{get_elem?}
use Rattle.atomic_table.specs.Table.{State}
use Rattle.atomic_table.proofs.Lists.{at_map}
use Rattle.colored_copier.specs.declared.view.View.{View}
use Rattle.colored_copier.specs.declared.view.Phase.{Phase}
use Rattle.colored_copier.specs.declared.view.Phase.TheVariants.{Claimed}
use Rattle.colored_copier.specs.Phases.{claims}
use Rattle.colored_copier.specs.Machine.{IsExclusive}
use Rattle.colored_copier.specs.Plans.{In}
use Rattle.colored_copier.specs.Rule.{total, claiming, overs, parts, RoundRule}
use Rattle.colored_copier.specs.Shown.{phase_of, shown, StartsFresh, StatesAreExclusive, ClaimsAreEvents, SplitsAreEvents, JoinsAreEvents}
use Rattle.colored_copier.proofs.Claims.{is_same, at_map_back}
use Rattle.colored_copier.proofs.Totals.{term_le, terms_le, total_le}

map-set : {A B : Type 0} (f : A → B) (l : List A) (k : ℕ) (x : A) → map f (set l k x) ≡ set (map f l) k (f x)
map-set f [] k x = refl
map-set f (y ∷ ys) zero x = refl
map-set f (y ∷ ys) (suc k) x = ap (λ l. f y ∷ l) (map-set f ys k x)

set_same : {A : Type 0} (l : List A) (k : ℕ) (x : A) → get_elem? l k ≡ some x → set l k x ≡ l
set_same [] k x e = refl
set_same (y ∷ ys) zero x e = ap (λ z. z ∷ ys) (sym (mathlib.Core.Option.some-injective y x e))
set_same (y ∷ ys) (suc k) x e = ap (λ l. y ∷ l) (set_same ys k x e)

map-append : {A B : Type 0} (f : A → B) (l m : List A) → map f (l ++ m) ≡ map f l ++ map f m
map-append f [] m = refl
map-append f (x ∷ xs) m = ap (λ l. f x ∷ l) (map-append f xs m)

claimed_one : (n : ℕ) (p : Phase) → p ≡ Claimed n → claims n p ≡ 1
claimed_one n p e = ap (claims n) e ∙ is_same n

module _ {X S : Type 0} where
  -- the view that shows a phase
  shows : (s : State S (View X)) (p : ℕ) (ph : Phase) → get_elem? (shown s).phases p ≡ some ph → (v : View X) × (get_elem? s.views p ≡ some v) × (v.phase ≡ ph)
  shows s p ph e = at_map_back phase_of s.views p ph e

  module _ (seats items : ℕ) (start : List S) (plan : ℕ → List (ℕ × S)) (finish : ℕ → S → S) (s : State S (View X)) (o : RoundRule seats items start plan finish s) where
    exclusive : IsExclusive items (shown s)
    exclusive =
        record {
          within = λ p n e.
              let v = shows s p (Claimed n) e in
              let some-claim : 0 < total (claiming n) s.views = omega (arith, term_le (claiming n) s.views p v.0 v.1, claimed_one n v.0.phase v.2) in
              let w = o.counts.within n some-claim in
              (omega (arith, o.counts.few), omega (arith, o.counts.split));
          once = λ p q n e f. dite (ℕ_discrete q p) (λ same. sym same)
              (λ ne.
              let v = shows s p (Claimed n) e in let u = shows s q (Claimed n) f in
              absurd (omega (arith, terms_le (claiming n) s.views p q v.0 u.0 ne v.1 u.1, claimed_one n v.0.phase v.2, claimed_one n u.0.phase u.2, o.counts.once n)));
        }

    apart : (p q m n row : ℕ) (x y : S) → get_elem? (shown s).phases p ≡ some (Claimed m) → get_elem? (shown s).phases q ≡ some (Claimed n) → In (row, x) (plan m) → In (row, y) (plan n) → p ≡ q
    apart p q m n row x y e f hm hn =
        let same : m ≡ n = o.planned.once m n row x y (exclusive.within p m e).0 (exclusive.within q n f).0 hm hn in
        exclusive.once p q m e (f ∙ ap (λ (k : ℕ). some (Claimed k)) (sym same))

    small : items + seats + 1 < 2 ^ 64 → get_or s.words 0 0 + 1 < 2 ^ 64
    small few =
        let k = o.counts in
        let some-over : total overs s.views ≤ total parts s.views = total_le overs parts s.views (λ j x e. (k.each j x e).0) in
        omega (arith, k.few, k.split, some-over, k.all_parts)

pub starts_fresh : {X S : Type 0} → StartsFresh X S
starts_fresh start v e = ap (λ (p : Phase). record { next = 0; phases = p ∷ [] }) e

pub states : {X S : Type 0} → StatesAreExclusive X S
states seats items start plan finish s o = (exclusive seats items start plan finish s o, apart seats items start plan finish s o)

pub claims_shown : {X S : Type 0} → ClaimsAreEvents X S
claims_shown seats items start plan finish s id me after act few o at event =
    record {
      before = me.0.phase;
      after = after.phase;
      mine = at_map phase_of s.views id me.0 at;
      event = event;
      next = get_or-set_same s.words 0 ((get_or s.words 0 0 + 1) % 2 ^ 64) 0 (omega (arith, o.wide)) ∙ mod-eq_of_lt (small seats items start plan finish s o few);
      phases = map-set phase_of s.views id after;
    }

pub splits_shown : {X S : Type 0} → SplitsAreEvents X S
splits_shown s id v left right at event =
    let mine = at_map phase_of s.views id v at in
    record {
      before = v.phase;
      mine = mine;
      next = refl;
      phases = map-append phase_of (set s.views id left) (right ∷ [])
          ∙ (ap (λ l. l ++ right.phase ∷ []) (map-set phase_of s.views id left ∙ (ap (set (map phase_of s.views) id) event.0 ∙ set_same (map phase_of s.views) id v.phase mine))
          ∙ ap (λ (p : Phase). map phase_of s.views ++ p ∷ []) event.1);
    }

pub joins_shown : {X S : Type 0} → JoinsAreEvents X S
joins_shown s id other v w both spent at differ at-other event is-spent =
    let mine = at_map phase_of s.views id v at in
    record {
      before = v.phase;
      other = w.phase;
      apart = differ;
      mine = mine;
      its = at_map phase_of s.views other w at-other;
      free = (event.0, event.1);
      next = refl;
      phases = map-set phase_of (set s.views id both) other spent
          ∙ (ap (λ l. set l other spent.phase) (map-set phase_of s.views id both ∙ (ap (set (map phase_of s.views) id) event.2 ∙ set_same (map phase_of s.views) id v.phase mine))
          ∙ ap (set (map phase_of s.views) other) is-spent);
    }
