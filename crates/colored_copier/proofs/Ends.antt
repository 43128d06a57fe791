-- The start, splits, joins and the end.
use Rattle.std.proofs.Common.{◌≡◌, ℕ, zero, suc, ◌+◌, ◌-◌, ◌<◌, ◌≤◌, List, [], ◌∷◌, ◌++◌, set, sym, refl, ap, ◌∙◌, subst, ⊎_elim, arith}
use Rattle.std.proofs.lemmas.List.{length-map}
use mathlib.Core.Option.{some, some-injective, some-ne-none}
use mathlib.Core.Logic.{dite}
use native.Mathlib.Decide.{ℕ_discrete}
use lib.ListN.{get_elem?}
use Rattle.atomic_table.specs.Table.{State, Splits, Joins, opening, Final, Seen}
use Rattle.atomic_table.proofs.Lists.{at_set, at_snoc, at_map}
use Rattle.colored_copier.specs.declared.view.View.{View}
use Rattle.colored_copier.specs.declared.view.Phase.{Phase}
use Rattle.colored_copier.specs.declared.view.Phase.TheVariants.{Fresh, Claimed, Over}
use Rattle.colored_copier.specs.Keyed.{dealing, dealt, joined, spent_view}
use Rattle.colored_copier.specs.Rule.{total, claiming, overs, parts, Planned, RoundRule, Ended}
use Rattle.colored_copier.specs.Phases.{claims, Free}
use Rattle.colored_copier.proofs.Totals.{total-set, total-append, total-zero, term_le, terms_le}

pub free_claims : (n : ℕ) (ph : Phase) → Free ph → claims n ph ≡ 0
free_claims n Fresh h = refl
free_claims n (Claimed m) h = absurd h
free_claims n (Over m) h = refl

dealt_sum : (t m a b o : ℕ) → t ≡ m + (b + 0) → m + a ≡ o + (a - b) → b ≤ a → t ≡ o
dealt_sum t m a b o p q h = omega arith

kept_sum : (t m a o : ℕ) → t ≡ m + 0 → m + a ≡ o + a → t ≡ o
kept_sum t m a o p q = omega arith

joined_sum : (t m a b o : ℕ) → m + a ≡ o + (a + b) → t + b ≡ m + 0 → t ≡ o
joined_sum t m a b o p q = omega arith

joined_none : (t m a b o : ℕ) → m + a ≡ o + a → t + b ≡ m + 0 → b ≡ 0 → t ≡ o
joined_none t m a b o p q z = omega arith

no_part : (a b t n : ℕ) → a + b ≤ t → t ≡ n → a ≡ n → b ≡ 0
no_part a b t n h e f = omega arith

single : {A : Type 0} (a v : A) (p : ℕ) → get_elem? (a ∷ []) p ≡ some v → a ≡ v
single a v zero e = some-injective a v e
single a v (suc p) e = absurd (some-ne-none v (sym e))

module _ {X S : Type 0} (seats items : ℕ) (start : List S) (plan : ℕ → List (ℕ × S)) (finish : ℕ → S → S) where
  -- the rule with other views that claim as much
  kept : (s : State S (View X)) (views : List (View X)) (o : RoundRule seats items start plan finish s) → total parts views ≡ seats → total overs views ≡ total overs s.views → ((n : ℕ) → total (claiming n) views ≡ total (claiming n) s.views)
      → ((p : ℕ) (v : View X) → get_elem? views p ≡ some v → (v.overs ≤ v.parts) × (v.parts ≡ 0 → Free v.phase)) → RoundRule seats items start plan finish record { words = s.words; homes = s.homes; views = views }
  kept s views o all-parts same-overs same each =
      let k = o.counts in
      record {
        d = o.d;
        wide = o.wide;
        slots = o.slots;
        planned = o.planned;
        counts = record {
          all_parts = all-parts;
          few = k.few;
          split = k.split ∙ ap (λ (t : ℕ). o.d + t) (sym same-overs);
          all = λ h. same-overs ∙ k.all h;
          once = λ n. omega (arith, same n, k.once n);
          within = λ n h. k.within n (omega (arith, same n));
          each = each;
        };
        homes = record {
          done = λ n p x lt h z. o.homes.done n p x lt h (sym (same n) ∙ z);
          rest = o.homes.rest;
        };
      }

  pub deals : (id : ℕ) (v : View X) → v.phase ≡ Fresh → v.overs ≡ 0 → 0 < v.parts → Splits (RoundRule seats items start plan finish) id v (dealing v) (dealt v)
  deals id v fresh none-over part s o at =
      let l : List (View X) = set s.views id (dealing v) in
      kept s (l ++ dealt v ∷ []) o
      (dealt_sum _ _ _ 1 _ (total-append parts l (dealt v ∷ [])) (total-set parts s.views id v (dealing v) at) part ∙ o.counts.all_parts)
      (kept_sum _ _ _ _ (total-append overs l (dealt v ∷ [])) (total-set overs s.views id v (dealing v) at))
      (λ n. kept_sum _ _ _ _ (total-append (claiming n) l (dealt v ∷ [])) (total-set (claiming n) s.views id v (dealing v) at))
      (λ q x here. ⊎_elim
      (λ (in-l : get_elem? l q ≡ some x). ⊎_elim (λ t. subst (λ (y : View X). (y.overs ≤ y.parts) × (y.parts ≡ 0 → Free y.phase)) t.1 (omega arith, λ z. subst Free (sym fresh) tt)) (λ t. o.counts.each q x t.1) (at_set s.views id q (dealing v) x in-l))
      (λ same. subst (λ (y : View X). (y.overs ≤ y.parts) × (y.parts ≡ 0 → Free y.phase)) same (omega arith, λ z. tt))
      (at_snoc l (dealt v) x q here))

  pub joins : (id other : ℕ) (v w : View X) → Free v.phase → Free w.phase → v.overs ≤ v.parts → w.overs ≤ w.parts → Joins (RoundRule seats items start plan finish) id v other w (joined v w) spent_view
  joins id other v w free-v free-w few-v few-w s o at apart at-w =
      let l : List (View X) = set s.views id (joined v w) in
      kept s (set l other spent_view) o
      (joined_sum _ _ _ _ _ (total-set parts s.views id v (joined v w) at) (total-set parts l other w spent_view at-w) ∙ o.counts.all_parts)
      (joined_sum _ _ _ _ _ (total-set overs s.views id v (joined v w) at) (total-set overs l other w spent_view at-w))
      (λ n. joined_none _ _ _ _ _ (total-set (claiming n) s.views id v (joined v w) at) (total-set (claiming n) l other w spent_view at-w) (free_claims n w.phase free-w))
      (λ q x here. ⊎_elim
      (λ t. subst (λ (y : View X). (y.overs ≤ y.parts) × (y.parts ≡ 0 → Free y.phase)) t.1 (omega arith, λ z. tt))
      (λ t. ⊎_elim (λ u. subst (λ (y : View X). (y.overs ≤ y.parts) × (y.parts ≡ 0 → Free y.phase)) u.1 (omega (arith, few-v, few-w), λ z. free-v)) (λ u. o.counts.each q x u.1) (at_set s.views id q (joined v w) x t.1))
      (at_set l other q spent_view x here))

  pub starts : (v : View X) → v.parts ≡ seats → v.overs ≡ 0 → v.phase ≡ Fresh → Planned items start plan → RoundRule seats items start plan finish (opening (0 ∷ []) start v)
  starts v all-parts none-over fresh planned =
      record {
        d = 0;
        wide = refl;
        slots = length-map start (λ (x : S). some x);
        planned = planned;
        counts = record {
          all_parts = omega (arith, all-parts);
          few = omega arith;
          split = omega (arith, none-over);
          all = λ h. omega (arith, none-over);
          once = λ n. omega (arith, ap (claims n) fresh);
          within = λ n h. absurd (omega (arith, ap (claims n) fresh));
          each = λ p x e. let same = single v x p e in subst (λ (y : View X). (y.overs ≤ y.parts) × (y.parts ≡ 0 → Free y.phase)) same (omega (arith, none-over), λ z. subst Free (sym fresh) tt);
        };
        homes = record {
          done = λ n p x lt h z. absurd (omega arith);
          rest = λ p x e free. at_map (λ (y : S). some y) start p x e;
        };
      }

  -- where one view has all parts, no item, and an over number
  pub ends : (id : ℕ) (v : View X) (ws : List ℕ) (xs : List S) → v.parts ≡ seats → 0 < v.overs → Free v.phase → Final (Seen (RoundRule seats items start plan finish) id v) ws xs → Ended items start plan finish xs
  ends id v ws xs all over free f =
      let s = f.0 in let o = f.1.0 in let at = f.1.1 in
      let k = o.counts in
      let some-over : 0 < total overs s.views = omega (arith, term_le overs s.views id v at) in
      let full : o.d ≡ items = is_full o.d k.few (λ h. omega (arith, k.all h)) in
      let none-claimed : (n : ℕ) → total (claiming n) s.views ≡ 0 = λ n. total-zero (claiming n) s.views (λ q u e. dite (ℕ_discrete q id)
      (λ same. let e' : some v ≡ some u = sym at ∙ (ap (get_elem? s.views) (sym same) ∙ e) in ap (claiming n) (sym (some-injective v u e')) ∙ free_claims n v.phase free)
      (λ ne. free_claims n u.phase ((k.each q u e).1 (no_part _ _ _ _ (terms_le parts s.views id q v u ne at e) k.all_parts all)))) in record {
        as_many = sym f.3 ∙ o.slots;
        done = λ n p x lt h. f.4 p (finish n x) (o.homes.done n p x (omega (arith, full)) h (none-claimed n));
        rest = λ p x e free-row. f.4 p x (o.homes.rest p x e (λ n y lt h. free-row n y (omega (arith, full)) h));
      }
    where
      is_full : (d : ℕ) → d ≤ items → (d < items → ⊥) → d ≡ items
      is_full d le h = omega arith
