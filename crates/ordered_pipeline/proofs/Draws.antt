-- A draw keeps the rule.
use Rattle.std.proofs.Common.{◌≡◌, ℕ, zero, suc, ◌+◌, ◌%◌, ◌^◌, ◌<◌, ◌≤◌, List, [], ◌∷◌, get_or, set, sym, refl, ap, ◌∙◌, subst, ⊎_elim, arith, length-set, get_or-set_same, get_or-set_other, ◌*◌}
use Rattle.std.proofs.Math.Nat.{mod-eq_of_lt}
use mathlib.Core.Option.{Option, some, none, some-injective}
use mathlib.Core.Logic.{dite}
use native.Mathlib.Decide.{ℕ_discrete, dec_le}
use lib.ListN.{get_elem?}
use Rattle.atomic_table.specs.Table.{Me, keeps, stepped, Allows}
use Rattle.atomic_table.proofs.Lists.{at_set, set_else}
use Rattle.ordered_pipeline.specs.declared.view.View.{View}
use Rattle.ordered_pipeline.specs.declared.view.Cargo.{Cargo}
use Rattle.ordered_pipeline.specs.declared.view.Phase.TheVariants.{Idle, Drawn}
use Rattle.scratch_pool.specs.Counts.{total}
use Rattle.ordered_pipeline.specs.Rule.{is, has, works, having, working, batons, holders, IsReady, StaysAt, Counts, Words, Homes, Ring}
use Rattle.ordered_pipeline.specs.Machine.{view}
use Rattle.scratch_pool.proofs.Sums.{total-set, total_le}
use Rattle.ordered_pipeline.proofs.Phases.{is_same, is_other, same_sum, words_same, homes_same}

-- a list read at a place that is there
pub here_of : {A : Type 0} (l : List A) (i : ℕ) (v a : A) → get_elem? l i ≡ some v → get_elem? (set l i a) i ≡ some a
here_of [] i v a e = absurd (mathlib.Core.Option.some-ne-none v (sym e))
here_of (x ∷ xs) zero v a e = refl
here_of (x ∷ xs) (suc i) v a e = here_of xs i v a e

added : (t t' a : ℕ) → t' + 0 ≡ t + a → t' ≡ t + a
added t t' a e = omega arith

module _ {X : Type 0} (seats items queue : ℕ) where
  pub draw_counts : (next c d id : ℕ) (views : List (View X)) (v : View X) → Counts seats items queue next c d views → get_elem? views id ≡ some v → v.phase ≡ Idle → 0 < v.parts → next < items
      → Counts seats items queue (next + 1) c (d + 1) (set views id (view v.parts v.overs v.number (Drawn next) v.seen (next + 1) v.looks v.key))
  draw_counts next c d id views v o at idle part lt =
      let u = view v.parts v.overs v.number (Drawn next) v.seen (next + 1) v.looks v.key in
      let views' = set views id u in
      let none-over : total (λ (x : View X). x.overs) views ≡ 0 = o.all (omega (arith, o.split)) in
      let same : next ≡ d = omega (arith, o.split) in
      let having' : (n : ℕ) → total (having n) views' ≡ total (having n) views + is n next = λ n. added _ _ _ (ap (λ (x : ℕ). total (having n) views' + x) (sym (ap (has n) idle)) ∙ total-set (having n) views id v u at) in
      let working' : (n : ℕ) → total (working n) views' ≡ total (working n) views = λ n. same_sum _ _ _ _ (total-set (working n) views id v u at) (ap (works n) idle) in
      let mine = o.each id v at in
      record {
        parts = same_sum _ _ _ _ (total-set (λ (x : View X). x.parts) views id v u at) refl ∙ o.parts;
        some = omega arith;
        split = omega (arith, o.split, total-set (λ (x : View X). x.overs) views id v u at);
        all = λ h. omega (arith, none-over, total-set (λ (x : View X). x.overs) views id v u at);
        ordered = omega (arith, o.ordered);
        once = λ n. dite (ℕ_discrete next n)
            (λ e. let zero-yet : total (having n) views ≡ 0 = not_within _ (λ h. let w = o.within n h in omega arith) in omega (arith, having' n, zero-yet, ap (is n) e, is_same n))
            (λ ne. omega (arith, having' n, is_other next n ne, o.once n));
        within = λ n h. dite (ℕ_discrete next n) (λ e. omega (arith, o.ordered)) (λ ne. let w = o.within n (omega (arith, having' n, is_other next n ne)) in omega arith);
        near = λ n h. o.near n (omega (arith, working' n));
        ready_near = λ n le lt' z. dite (ℕ_discrete next n)
            (λ e. absurd (omega (arith, having' n, ap (is n) e, is_same n)))
            (λ ne. o.ready_near n le (omega arith) (omega (arith, having' n)));
        one_baton = omega (arith, same_sum _ _ _ _ (total-set batons views id v u at) (ap Rattle.ordered_pipeline.specs.Rule.baton idle), o.one_baton);
        each = λ p x e. ⊎_elim
            (λ t. subst (λ (y : View X). StaysAt c y.phase × (y.seen ≤ c) × (y.drawn ≤ d + 1) × (y.overs ≤ y.parts) × (y.parts ≡ 0 → (y.phase ≡ Idle) × (y.drawn ≡ 0))) t.1 (tt, mine.1, omega arith, mine.3, (λ z. absurd (omega arith))))
            (λ t. let old = o.each p x t.1 in (old.0, old.1, omega (arith, old.2), old.3, old.4))
            (at_set views id p u x e);
        last = (id, u, here_of views id v u at, omega arith);
      }
    where
      not_within : (t : ℕ) → (0 < t → ⊥) → t ≡ 0
      not_within t h = omega arith

  -- a draw past the last item
  pub over_counts : (next c d id : ℕ) (views : List (View X)) (v : View X) (k : X) → Counts seats items queue next c d views → get_elem? views id ≡ some v → v.overs < v.parts → items ≤ next
      → Counts seats items queue (next + 1) c d (set views id (view v.parts (v.overs + 1) v.number v.phase v.seen v.drawn v.looks k))
  over_counts next c d id views v k o at room past =
      let u = view v.parts (v.overs + 1) v.number v.phase v.seen v.drawn v.looks k in
      let views' = set views id u in
      let having' : (n : ℕ) → total (having n) views' ≡ total (having n) views = λ n. same_sum _ _ _ _ (total-set (having n) views id v u at) refl in
      let working' : (n : ℕ) → total (working n) views' ≡ total (working n) views = λ n. same_sum _ _ _ _ (total-set (working n) views id v u at) refl in
      let mine = o.each id v at in
      let full : d ≡ items = is_full _ _ _ _ o.some o.split o.all past in
      record {
        parts = same_sum _ _ _ _ (total-set (λ (x : View X). x.parts) views id v u at) refl ∙ o.parts;
        some = o.some;
        split = omega (arith, o.split, total-set (λ (x : View X). x.overs) views id v u at);
        all = λ h. absurd (omega arith);
        ordered = o.ordered;
        once = λ n. omega (arith, having' n, o.once n);
        within = λ n h. o.within n (omega (arith, having' n));
        near = λ n h. o.near n (omega (arith, working' n));
        ready_near = λ n le lt z. o.ready_near n le lt (sym (having' n) ∙ z);
        one_baton = omega (arith, same_sum _ _ _ _ (total-set batons views id v u at) refl, o.one_baton);
        each = λ p x e. ⊎_elim
            (λ t. subst (λ (y : View X). StaysAt c y.phase × (y.seen ≤ c) × (y.drawn ≤ d) × (y.overs ≤ y.parts) × (y.parts ≡ 0 → (y.phase ≡ Idle) × (y.drawn ≡ 0))) t.1 (mine.0, mine.1, mine.2, omega arith, mine.4))
            (λ t. o.each p x t.1)
            (at_set views id p u x e);
        last = dite (ℕ_discrete o.last.0 id)
            (λ e. (id, u, here_of views id v u at, ap (λ (y : View X). y.drawn) (some-injective _ _ (sym at ∙ (ap (get_elem? views) (sym e) ∙ o.last.2))) ∙ o.last.3))
            (λ ne. (o.last.0, o.last.1, set_else views id o.last.0 u ne ∙ o.last.2, o.last.3));
      }
    where
      is_full : (d items next overs : ℕ) → d ≤ items → next ≡ d + overs → (d < items → overs ≡ 0) → items ≤ next → d ≡ items
      is_full d items next overs a b f h = dite (dec_le items d) (λ le. omega arith) (λ no. let z = f (omega arith) in omega arith)

module _ {X C S : Type 0} (seats items queue : ℕ) (room : C → Type 0) (stands : ℕ → C → Type 0) (fold : ℕ → S) where
  pub draws : (slots id i : ℕ) (m : Me (Cargo C S) (View X)) (past : ℕ → X) → i ≡ items → items + seats + 1 < 2 ^ 64 → m.0.phase ≡ Idle → m.0.overs < m.0.parts
      → Allows (Ring seats items queue room stands fold) slots id m 0 (λ n. (n + 1) % 2 ^ 64)
      (λ r n. (r < i → (m.0.drawn ≤ r) × (n ≡ (view m.0.parts m.0.overs m.0.number (Drawn r) m.0.seen (r + 1) m.0.looks m.0.key, m.1))) × (i ≤ r → n ≡ (view m.0.parts (m.0.overs + 1) m.0.number m.0.phase m.0.seen m.0.drawn m.0.looks (past r), m.1)))
  draws slots id i m past same-items few idle part s o wide at _ =
      let v = m.0 in
      let next : ℕ = get_or s.words 0 0 in
      let c : ℕ = get_or s.words 8 0 in
      let k = o.counts in
      let overs : total (λ (x : View X). x.overs) s.views ≤ total (λ (x : View X). x.parts) s.views = total_le (λ (x : View X). x.overs) (λ (x : View X). x.parts) s.views (λ j x e. (k.each j x e).3) in
      let small : next + 1 < 2 ^ 64 = omega (arith, k.some, k.split, overs, k.parts) in
      let words' = set s.words 0 ((next + 1) % 2 ^ 64) in
      let w0 : get_or words' 0 0 ≡ next + 1 = get_or-set_same s.words 0 ((next + 1) % 2 ^ 64) 0 (omega (arith, o.wide)) ∙ mod-eq_of_lt small in
      let w1 : get_or words' 8 0 ≡ c = get_or-set_other s.words 0 8 ((next + 1) % 2 ^ 64) 0 (λ e. omega arith) in
      let ring : (p : ℕ) → get_or words' (8 * p + 16) 0 ≡ get_or s.words (8 * p + 16) 0 = λ p. get_or-set_other s.words 0 (8 * p + 16) ((next + 1) % 2 ^ 64) 0 (λ e. omega arith) in
      let made : (d : ℕ) (u : View X) → Counts seats items queue (next + 1) c d (set s.views id u) → Words queue c d (λ p. get_or words' (8 * p + 16) 0) (set s.views id u) → Homes room stands fold queue c d s.homes (set s.views id u)
      → Ring seats items queue room stands fold (stepped s 0 ((next + 1) % 2 ^ 64) id m.1 u keeps) =
      λ d u a b h. record {
        d = d;
        wide = length-set s.words 0 ((next + 1) % 2 ^ 64) ∙ o.wide;
        slots = o.slots;
        counts = subst (λ x. Counts seats items queue x (get_or words' 8 0) d (set s.views id u)) (sym w0) (subst (λ x. Counts seats items queue (next + 1) x d (set s.views id u)) (sym w1) a);
        words = subst (λ x. Words queue x d (λ p. get_or words' (8 * p + 16) 0) (set s.views id u)) (sym w1) b;
        homes = subst (λ x. Homes room stands fold queue x d s.homes (set s.views id u)) (sym w1) h;
      } in
      dite (dec_le items next)
      (λ beyond. let u = view v.parts (v.overs + 1) v.number v.phase v.seen v.drawn v.looks (past next) in
      let same : (g : View X → ℕ) → g v ≡ g u → total g (set s.views id u) ≡ total g s.views = λ g e. same_sum _ _ _ _ (total-set g s.views id v u at) e in (
        u,
        keeps,
        tt,
        made o.d u (over_counts seats items queue next c o.d id s.views v (past next) k at part beyond)
            (words_same queue c o.d o.d _ _ s.views (set s.views id u) o.words (λ n r. (r.0, sym (same (having n) refl) ∙ r.1)) (λ n r. (r.0, same (having n) refl ∙ r.1)) (same batons refl) (same holders refl) ring)
            (homes_same room stands fold queue c o.d o.d s.homes s.views (set s.views id u) o.homes (λ n r. (r.0, sym (same (having n) refl) ∙ r.1)) (same batons refl) (λ n. same (working n) refl)),
        ((λ h. absurd (omega arith)), λ _. refl),
      ))
      (λ lt. let u = view v.parts v.overs v.number (Drawn next) v.seen (next + 1) v.looks v.key in
      let below : next < items = omega arith in
      let none-over : total (λ (x : View X). x.overs) s.views ≡ 0 = k.all (omega (arith, k.split)) in
      let is-d : next ≡ o.d = omega (arith, k.split) in
      let same : (g : View X → ℕ) → g v ≡ g u → total g (set s.views id u) ≡ total g s.views = λ g e. same_sum _ _ _ _ (total-set g s.views id v u at) e in
      let having' : (n : ℕ) → total (having n) (set s.views id u) ≡ total (having n) s.views + is n next = λ n. added _ _ _ (ap (λ (x : ℕ). total (having n) (set s.views id u) + x) (sym (ap (has n) idle)) ∙ total-set (having n) s.views id v u at) in
      let back : (n : ℕ) → IsReady (o.d + 1) (set s.views id u) n → IsReady o.d s.views n = λ n r. dite (ℕ_discrete next n) (λ e. absurd (omega (arith, r.1, having' n, ap (is n) e, is_same n))) (λ ne. (omega (arith, r.0), omega (arith, r.1, having' n))) in
      let on : (n : ℕ) → IsReady o.d s.views n → IsReady (o.d + 1) (set s.views id u) n = λ n r. (omega (arith, r.0), omega (arith, r.1, having' n, is_other next n (λ e. omega (arith, r.0)))) in (
        u,
        keeps,
        tt,
        made (o.d + 1) u (draw_counts seats items queue next c o.d id s.views v k at idle (omega arith) below)
            (words_same queue c o.d (o.d + 1) _ _ s.views (set s.views id u) o.words back on (same batons (ap Rattle.ordered_pipeline.specs.Rule.baton idle)) (same holders (ap Rattle.ordered_pipeline.specs.Rule.holder idle)) ring)
            (homes_same room stands fold queue c o.d (o.d + 1) s.homes s.views (set s.views id u) o.homes back (same batons (ap Rattle.ordered_pipeline.specs.Rule.baton idle)) (λ n. same (working n) (ap (works n) idle))),
        ((λ _. (omega (arith, is-d, (k.each id v at).2), refl)), λ h. absurd (omega arith)),
      ))
