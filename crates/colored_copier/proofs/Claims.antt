-- A claim keeps the rule.
use Rattle.std.proofs.Common.{◌≡◌, ◌≢◌, ℕ, zero, suc, ◌+◌, ◌%◌, ◌^◌, ◌<◌, ◌≤◌, List, [], ◌∷◌, map, length, get_or, set, cond, sym, refl, ap, ◌∙◌, subst, ⊎_elim, arith, eq-eqb, ne_eqb, length-set, get_or-set_same}
use Rattle.std.proofs.Math.Nat.{mod-eq_of_lt}
use mathlib.Core.Option.{Option, some, some-injective, some-ne-none}
use mathlib.Core.Logic.{dite}
use native.Mathlib.Decide.{ℕ_discrete, dec_le}
use lib.ListN.{get_elem?}
use Rattle.atomic_table.specs.Table.{State, Me, Step, step, Act, keeps, Valid, stepped, carried_after, Allows}
use Rattle.atomic_table.proofs.Lists.{at_set, at_map}
use Rattle.colored_copier.specs.declared.view.View.{View}
use Rattle.colored_copier.specs.declared.view.Phase.{Phase}
use Rattle.colored_copier.specs.declared.view.Phase.TheVariants.{Fresh, Claimed, Over}
use Rattle.colored_copier.specs.Plans.{In, IsApart}
use Rattle.colored_copier.specs.Rule.{total, view, claiming, overs, parts, Counts, place, Planned, Homes, RoundRule, steps, carried}
use Rattle.colored_copier.specs.Phases.{is, claims, Free, Rises}
use Rattle.colored_copier.proofs.Chains.{turns_over, carried_turns, homes_turns, valid_turns, filled, emptied, filled_else, emptied_else, filled_at, filled_length, emptied_length, not_in_nil}
use Rattle.colored_copier.proofs.Totals.{total-set, term_le, total_le}

pub is_same : (n : ℕ) → is n n ≡ 1
is_same n = ap (λ b. cond b 1 0) (eq-eqb n n refl)

pub is_other : (m n : ℕ) → m ≢ n → is n m ≡ 0
is_other m n ne = ap (λ b. cond b 1 0) (ne_eqb m n ne)

pub same_sum : (t t' a b : ℕ) → t' + a ≡ t + b → a ≡ b → t' ≡ t
same_sum t t' a b e f = omega arith

pub at_lt : {A : Type 0} (l : List A) (k : ℕ) (a : A) → get_elem? l k ≡ some a → k < length l
at_lt [] k a e = absurd (some-ne-none a (sym e))
at_lt (x ∷ xs) zero a e = omega arith
at_lt (x ∷ xs) (suc k) a e = omega (arith, at_lt xs k a e)

pub at_map_back : {A B : Type 0} (f : A → B) (l : List A) (k : ℕ) (b : B) → get_elem? (map f l) k ≡ some b → (a : A) × (get_elem? l k ≡ some a) × (f a ≡ b)
at_map_back f [] k b e = absurd (some-ne-none b (sym e))
at_map_back f (x ∷ xs) zero b e = (x, refl, some-injective (f x) b e)
at_map_back f (x ∷ xs) (suc k) b e = at_map_back f xs k b e

not_within : (t : ℕ) → (0 < t → ⊥) → t ≡ 0
not_within t h = omega arith

claim_le : (n : ℕ) (ph : Phase) → claims n ph ≤ 1
claim_le n Fresh = omega arith
claim_le n (Claimed m) = dite (ℕ_discrete m n) (λ e. omega (arith, ap (is n) e, is_same n)) (λ ne. omega (arith, is_other m n ne))
claim_le n (Over m) = omega arith

is_full : (d items next overs : ℕ) → d ≤ items → next ≡ d + overs → (d < items → overs ≡ 0) → items ≤ next → d ≡ items
is_full d items next overs a b f h = dite (dec_le items d) (λ le. omega arith) (λ no. let z = f (omega arith) in omega arith)

module _ {X : Type 0} (seats items : ℕ) where
  -- a number below the last item
  pub claim_counts : (next d id : ℕ) (views : List (View X)) (v : View X) → Counts seats items next d views → get_elem? views id ≡ some v → 0 < v.parts → next < items
      → Counts seats items (next + 1) (d + 1) (set views id (view v.parts v.overs v.number (Claimed next) v.key))
  claim_counts next d id views v o at part lt =
      let u = view v.parts v.overs v.number (Claimed next) v.key in
      let views' = set views id u in
      let none-over : total overs views ≡ 0 = o.all (omega (arith, o.split)) in
      let is-d : next ≡ d = omega (arith, o.split) in
      let moved : (n : ℕ) → total (claiming n) views' + claims n v.phase ≡ total (claiming n) views + is n next = λ n. total-set (claiming n) views id v u at in
      let mine = o.each id v at in
      let same-overs : total overs views' ≡ total overs views = same_sum _ _ _ _ (total-set overs views id v u at) refl in
      record {
        all_parts = same_sum _ _ _ _ (total-set parts views id v u at) refl ∙ o.all_parts;
        few = omega arith;
        split = omega (arith, o.split, same-overs);
        all = λ h. omega (arith, none-over, same-overs);
        once = λ n. dite (ℕ_discrete next n)
            (λ e. let zero-yet : total (claiming n) views ≡ 0 = not_within _ (λ h. let w = o.within n h in omega arith) in omega (arith, moved n, zero-yet, ap (is n) e, is_same n))
            (λ ne. omega (arith, moved n, is_other next n ne, o.once n));
        within = λ n h. dite (ℕ_discrete next n) (λ e. omega arith) (λ ne. let w = o.within n (omega (arith, moved n, is_other next n ne)) in omega arith);
        each = λ p x e. ⊎_elim
            (λ t. subst (λ (y : View X). (y.overs ≤ y.parts) × (y.parts ≡ 0 → Free y.phase)) t.1 (mine.0, λ z. absurd (omega arith)))
            (λ t. o.each p x t.1)
            (at_set views id p u x e);
      }

  -- a number past the last item
  pub over_counts : (next d id : ℕ) (views : List (View X)) (v : View X) → Counts seats items next d views → get_elem? views id ≡ some v → v.overs < v.parts → items ≤ next
      → Counts seats items (next + 1) d (set views id (view v.parts (v.overs + 1) v.number (Over next) v.key))
  over_counts next d id views v o at room past =
      let u = view v.parts (v.overs + 1) v.number (Over next) v.key in
      let views' = set views id u in
      let moved : (n : ℕ) → total (claiming n) views' + claims n v.phase ≡ total (claiming n) views + 0 = λ n. total-set (claiming n) views id v u at in
      let full : d ≡ items = is_full _ _ _ _ o.few o.split o.all past in
      record {
        all_parts = same_sum _ _ _ _ (total-set parts views id v u at) refl ∙ o.all_parts;
        few = o.few;
        split = omega (arith, o.split, total-set overs views id v u at);
        all = λ h. absurd (omega arith);
        once = λ n. omega (arith, moved n, o.once n);
        within = λ n h. o.within n (omega (arith, moved n));
        each = λ p x e. ⊎_elim
            (λ t. subst (λ (y : View X). (y.overs ≤ y.parts) × (y.parts ≡ 0 → Free y.phase)) t.1 (omega arith, λ z. tt))
            (λ t. o.each p x t.1)
            (at_set views id p u x e);
      }

module _ {S : Type 0} (items : ℕ) (start : List S) (plan : ℕ → List (ℕ × S)) (finish : ℕ → S → S) (planned : Planned items start plan) where
  in_steps : (n p : ℕ) (y : S) → In (p, y) (steps plan finish n) → (x : S) × In (p, x) (plan n)
  in_steps n p y h = let b = at_map_back (λ (x : ℕ × S). (x.0, finish n x.1)) (plan n) h.0 (p, y) h.1 in (b.0.1, (h.0, b.1 ∙ ap (λ (z : ℕ × S). some (z.0, b.0.1)) b.2))

  steps_places : (n : ℕ) (l : List (ℕ × S)) → map place (map (λ (x : ℕ × S). (x.0, finish n x.1)) l) ≡ map place l
  steps_places n [] = refl
  steps_places n (x ∷ xs) = ap (λ l. x.0 ∷ l) (steps_places n xs)

  -- once the carried rows are back, each claimed item that no other pass has is done
  back_done : (hs : List (Option S)) (d : ℕ) (ph : Phase) → d ≤ items → length hs ≡ length start → ((m : ℕ) → 0 < claims m ph → m < d)
      → (n p : ℕ) (x : S) → n < d → In (p, x) (plan n) → (claims n ph ≡ 0 → get_elem? hs p ≡ some (some (finish n x))) → get_elem? (filled hs (carried plan finish ph)) p ≡ some (some (finish n x))
  back_done hs d Fresh le long below n p x lt at home = home refl
  back_done hs d (Over m) le long below n p x lt at home = home refl
  back_done hs d (Claimed m) le long below n p x lt at home = dite (ℕ_discrete m n)
      (λ e. let in-hs : p < length hs = omega (arith, long, at_lt start p x (planned.at n p x (omega arith) at)) in
      subst (λ (k : ℕ). get_elem? (filled hs (steps plan finish k)) p ≡ some (some (finish n x))) (sym e)
      (filled_at (steps plan finish n) hs p (finish n x) at.0 (subst IsApart (sym (steps_places n (plan n))) (planned.apart n (omega arith))) (at_map (λ (y : ℕ × S). (y.0, finish n y.1)) (plan n) at.0 (p, x) at.1) in-hs))
      (λ ne. filled_else (steps plan finish m) hs p (λ y h. let z = in_steps m p y h in let w = below m (omega (arith, ap (λ (b : ℕ). b) (is_same m))) in ne (planned.once m n p z.0 x (omega arith) (omega arith) z.1 at)) ∙ home (is_other m n ne))

  -- and a row that no claimed item names is as before
  back_rest : (hs : List (Option S)) (d : ℕ) (ph : Phase) → ((m : ℕ) → 0 < claims m ph → m < d) → (p : ℕ) → ((n : ℕ) (y : S) → n < d → In (p, y) (plan n) → ⊥) → get_elem? (filled hs (carried plan finish ph)) p ≡ get_elem? hs p
  back_rest hs d Fresh below p free = refl
  back_rest hs d (Over m) below p free = refl
  back_rest hs d (Claimed m) below p free = filled_else (steps plan finish m) hs p (λ y h. let z = in_steps m p y h in free m z.0 (below m (omega (arith, is_same m))) z.1)

  module _ {X : Type 0} where
    -- all that the pass had is back
    back : (d id : ℕ) (hs : List (Option S)) (views : List (View X)) (v u : View X) → d ≤ items → length hs ≡ length start → Homes start plan finish d hs views → get_elem? views id ≡ some v → ((n : ℕ) → 0 < total (claiming n) views → n < d)
        → ((n : ℕ) → n < d → claims n u.phase ≡ 0) → Homes start plan finish d (filled hs (carried plan finish v.phase)) (set views id u)
    back d id hs views v u le long o at within apart =
        let below : (m : ℕ) → 0 < claims m v.phase → m < d = λ m h. within m (omega (arith, term_le (claiming m) views id v at)) in
        record {
          done = λ n p x lt in-plan z. back_done hs d v.phase le long below n p x lt in-plan (λ f. o.done n p x lt in-plan (omega (arith, total-set (claiming n) views id v u at, apart n lt)));
          rest = λ p x first free. back_rest hs d v.phase below p free ∙ o.rest p x first free;
        }

    -- the rows of the next item are taken
    taken : (d : ℕ) (hs : List (Option S)) (views : List (View X)) → d < items → 0 < total (claiming d) views → Homes start plan finish d hs views → Homes start plan finish (d + 1) (emptied hs (plan d)) views
    taken d hs views lt mine o =
        record {
          done = λ n p x below in-plan z. dite (ℕ_discrete n d)
              (λ e. let t : total (claiming d) views ≡ 0 = subst (λ (k : ℕ). total (claiming k) views ≡ 0) e z in absurd (omega arith))
              (λ ne. emptied_else (plan d) hs p (λ y h. ne (planned.once n d p x y (omega arith) lt in-plan h)) ∙ o.done n p x (omega arith) in-plan z);
          rest = λ p x first free. emptied_else (plan d) hs p (λ y h. free d y (omega arith) h) ∙ o.rest p x first (λ n y below h. free n y (omega arith) h);
        }

    -- they lie there as at first
    lie : (d : ℕ) (hs : List (Option S)) (views : List (View X)) → d < items → Homes start plan finish d hs views → (p : ℕ) (x : S) → In (p, x) (plan d) → get_elem? hs p ≡ some (some x)
    lie d hs views lt o p x h = o.rest p x (planned.at d p x lt h) (λ n y below g. let e : n ≡ d = planned.once n d p y x (omega arith) lt g h in absurd (omega arith))

rises : (ph : Phase) (r : ℕ) → ((m : ℕ) → 0 < claims m ph → m < r) → Rises r ph
rises Fresh r h = tt
rises (Claimed m) r h = h m (omega (arith, is_same m))
rises (Over m) r h = tt

module _ {X S : Type 0} (seats items : ℕ) (start : List S) (plan : ℕ → List (ℕ × S)) (finish : ℕ → S → S) where
  abbrev pub Found : Me S (View X) → ℕ → Me S (View X) → Type 0
  Found m r t = (r < items → (t ≡ (view m.0.parts m.0.overs m.0.number (Claimed r) m.0.key, plan r)) × Rises r m.0.phase)
      × (items ≤ r → t ≡ (view m.0.parts (m.0.overs + 1) m.0.number (Over r) m.0.key, []))

  -- the table after the step, once its parts are known
  made : (s : State S (View X)) (id d next : ℕ) (new : List (ℕ × S)) (ph : Phase) (u : View X) → RoundRule seats items start plan finish s → get_or s.words 0 0 ≡ next → next + 1 < 2 ^ 64
      → Counts seats items (next + 1) d (set s.views id u) → Homes start plan finish d (emptied (filled s.homes (carried plan finish ph)) new) (set s.views id u)
      → RoundRule seats items start plan finish (stepped s 0 ((next + 1) % 2 ^ 64) id (carried plan finish ph) u (turns_over (carried plan finish ph) new))
  made s id d next new ph u o e small counts homes =
      let old = carried plan finish ph in
      let hs : homes_of (turns_over old new) ≡ emptied (filled s.homes old) new = homes_turns old new s.homes in
      record {
        d = d;
        wide = length-set s.words 0 ((next + 1) % 2 ^ 64) ∙ o.wide;
        slots = ap length hs ∙ (emptied_length new (filled s.homes old) ∙ (filled_length old s.homes ∙ o.slots));
        planned = o.planned;
        counts = subst (λ x. Counts seats items x d (set s.views id u)) (sym (get_or-set_same s.words 0 ((next + 1) % 2 ^ 64) 0 (omega (arith, o.wide)) ∙ mod-eq_of_lt small)) counts;
        homes = subst (λ l. Homes start plan finish d l (set s.views id u)) (sym hs) homes;
      }
    where
      homes_of : Act S → List (Option S)
      homes_of a = Rattle.atomic_table.specs.Table.homes_after s.homes (carried plan finish ph) a

  abbrev Goes : State S (View X) → ℕ → View X → List (ℕ × S) → Type 0
  Goes s id v old = (w : View X) × (a : Act S) × Valid s.homes old a × RoundRule seats items start plan finish (stepped s 0 ((get_or s.words 0 0 + 1) % 2 ^ 64) id old w a) × Found (v, old) (get_or s.words 0 0) (w, carried_after old a)

  goes_on : (s : State S (View X)) (o : RoundRule seats items start plan finish s) (id : ℕ) (v : View X) → items + seats + 1 < 2 ^ 64 → get_elem? s.views id ≡ some v → v.overs < v.parts → get_or s.words 0 0 + 1 < 2 ^ 64 → get_or s.words 0 0 < items
      → Goes s id v (carried plan finish v.phase)
  goes_on s o id v few at room small lt =
      let next : ℕ = get_or s.words 0 0 in
      let k = o.counts in
      let old = carried plan finish v.phase in
      let u = view v.parts v.overs v.number (Claimed next) v.key in
      let none-over : total overs s.views ≡ 0 = k.all (omega (arith, k.split)) in
      let is-d : next ≡ o.d = omega (arith, k.split) in
      let counts : Counts seats items (next + 1) (o.d + 1) (set s.views id u) = claim_counts seats items next o.d id s.views v k at (omega arith) lt in
      let h0 : Homes start plan finish o.d (filled s.homes old) (set s.views id u) = back items start plan finish o.planned o.d id s.homes s.views v u k.few o.slots o.homes at k.within (λ n below. is_other next n (λ e. omega arith)) in
      let has-d : 0 < total (claiming o.d) (set s.views id u) = omega (arith, total-set (claiming o.d) s.views id v u at, ap (is o.d) is-d, is_same o.d, zero_at o.d (λ h. let w = k.within o.d h in omega arith), term_le (claiming o.d) s.views id v at) in
      let h1 : Homes start plan finish (o.d + 1) (emptied (filled s.homes old) (plan o.d)) (set s.views id u) = taken items start plan finish o.planned o.d (filled s.homes old) (set s.views id u) (omega arith) has-d h0 in (
        u,
        turns_over old (plan next),
        valid_turns old (plan next) s.homes (o.planned.apart next lt) (λ p x h. lie items start plan finish o.planned o.d (filled s.homes old) (set s.views id u) (omega arith) h0 p x (subst (λ n. In (p, x) (plan n)) is-d h)),
        made s id (o.d + 1) next (plan next) v.phase u o refl small counts (subst (λ n. Homes start plan finish (o.d + 1) (emptied (filled s.homes old) (plan n)) (set s.views id u)) (sym is-d) h1),
        ((λ _. (ap (λ l. (u, l)) (carried_turns old (plan next)), rises v.phase next (λ m h. let w = k.within m (omega (arith, term_le (claiming m) s.views id v at)) in omega arith))), λ h. absurd (omega arith)),
      )
    where
      zero_at : (n : ℕ) → (0 < total (claiming n) s.views → ⊥) → total (claiming n) s.views ≡ 0
      zero_at n h = omega arith

  goes_over : (s : State S (View X)) (o : RoundRule seats items start plan finish s) (id : ℕ) (v : View X) → get_elem? s.views id ≡ some v → v.overs < v.parts → get_or s.words 0 0 + 1 < 2 ^ 64 → items ≤ get_or s.words 0 0
      → Goes s id v (carried plan finish v.phase)
  goes_over s o id v at room small past =
      let next : ℕ = get_or s.words 0 0 in
      let k = o.counts in
      let old = carried plan finish v.phase in
      let u = view v.parts (v.overs + 1) v.number (Over next) v.key in (
        u,
        turns_over old [],
        valid_turns old [] s.homes tt (λ p x h. absurd (not_in_nil (p, x) h)),
        made s id o.d next [] v.phase u o refl small (over_counts seats items next o.d id s.views v k at room past)
            (back items start plan finish o.planned o.d id s.homes s.views v u k.few o.slots o.homes at k.within (λ n below. refl)),
        ((λ h. absurd (omega arith)), λ _. ap (λ l. (u, l)) (carried_turns old [])),
      )

  -- one fetch_add gives the last item's rows back and claims the next item
  pub claims_next : (slots id : ℕ) (m : Me S (View X)) → items + seats + 1 < 2 ^ 64 → m.0.overs < m.0.parts → m.1 ≡ carried plan finish m.0.phase
      → Allows (RoundRule seats items start plan finish) slots id m 0 (λ n. (n + 1) % 2 ^ 64) (Found m)
  claims_next slots id m few room carries s o wide at _ =
      let k = o.counts in
      let some-over : total overs s.views ≤ total parts s.views = total_le overs parts s.views (λ j x e. (k.each j x e).0) in
      let small : get_or s.words 0 0 + 1 < 2 ^ 64 = omega (arith, k.few, k.split, some-over, k.all_parts) in
      subst (Goes s id m.0) (sym carries) (dite (dec_le items (get_or s.words 0 0))
      (λ past. goes_over s o id m.0 at room small past)
      (λ lt. goes_on s o id m.0 few at room small (omega arith)))
