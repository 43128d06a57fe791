-- Each step on the ring keeps the counts, the words and the homes.
use Rattle.std.proofs.Common.{◌≡◌, ◌≢◌, ℕ, ◌+◌, ◌%◌, ◌<◌, ◌≤◌, List, set, sym, ap, ◌∙◌, subst, ⊎_elim, arith}
use mathlib.Core.Option.{some, some-injective}
use mathlib.Core.Logic.{dite}
use native.Mathlib.Decide.{ℕ_discrete, dec_le}
use lib.ListN.{get_elem?}
use Rattle.atomic_table.proofs.Lists.{at_set, set_else, one_turn}
use Rattle.ordered_pipeline.specs.declared.view.View.{View}
use Rattle.ordered_pipeline.specs.declared.view.Phase.{Phase}
use Rattle.ordered_pipeline.specs.declared.view.Phase.TheVariants.{Idle, Drawn, Started, Baton, Advanced}
use Rattle.scratch_pool.specs.Counts.{total}
use Rattle.ordered_pipeline.specs.Rule.{is, has, works, baton, holder, having, working, batons, holders, StaysAt, Counts}
use Rattle.scratch_pool.proofs.Sums.{total-set, terms_le, some_term}
use Rattle.ordered_pipeline.proofs.Phases.{is_same, same_sum}
use Rattle.ordered_pipeline.proofs.Draws.{here_of}

-- two numbers of one window have two places
pub apart : (c q m n : ℕ) → c ≤ m → m < c + q → c ≤ n → n < c + q → m ≢ n → m % q ≢ n % q
apart c q m n lm um ln un ne e = dite (dec_le m n) (λ le. ne (one_turn m n q le (omega arith) e)) (λ no. ne (sym (one_turn n m q (omega arith) (omega arith) (sym e))))

pub works_has : (n : ℕ) (p : Phase) → works n p ≤ has n p
works_has n Idle = omega arith
works_has n (Drawn m) = omega arith
works_has n (Started m) = omega arith
works_has n (Baton m) = omega arith
works_has n (Advanced m) = omega arith

pub holder_baton : (p : Phase) → holder p ≤ baton p
holder_baton Idle = omega arith
holder_baton (Drawn m) = omega arith
holder_baton (Started m) = omega arith
holder_baton (Baton m) = omega arith
holder_baton (Advanced m) = omega arith

-- who holds the baton has its number
pub holder_has : (c : ℕ) (p : Phase) → StaysAt c p → 0 < holder p → has c p ≡ 1
holder_has c Idle s h = absurd (omega arith)
holder_has c (Drawn m) s h = absurd (omega arith)
holder_has c (Started m) s h = absurd (omega arith)
holder_has c (Baton m) s h = ap (is c) s ∙ is_same c
holder_has c (Advanced m) s h = absurd (omega arith)

pub stays_free : (c c' : ℕ) (p : Phase) → baton p ≡ 0 → StaysAt c' p
stays_free c c' Idle h = tt
stays_free c c' (Drawn m) h = tt
stays_free c c' (Started m) h = tt
stays_free c c' (Baton m) h = absurd (omega arith)
stays_free c c' (Advanced m) h = absurd (omega arith)

module _ {X : Type 0} where
  -- no other view has a number that this view has
  pub not_working : (views : List (View X)) (id n : ℕ) (v : View X) → get_elem? views id ≡ some v → total (having n) views ≤ 1 → having n v ≡ 1 → working n v ≡ 0 → total (working n) views ≡ 0
  not_working views id n v at one mine none-yet = dite (ℕ_discrete (total (working n) views) 0) (λ e. e) (λ ne.
      let t = some_term (working n) views (omega arith) in
      absurd (dite (ℕ_discrete t.0 id)
      (λ e. let same : v ≡ t.1 = some-injective v t.1 (sym at ∙ (ap (get_elem? views) (sym e) ∙ t.2)) in let z : works n t.1.phase ≡ 0 = ap (λ (y : View X). working n y) (sym same) ∙ none-yet in omega (arith, t.3))
      (λ ne'. omega (arith, terms_le (having n) views id t.0 v t.1 ne' at t.2, works_has n t.1.phase, t.3))))

  pub no_holder : (views : List (View X)) (c id : ℕ) (v : View X) → get_elem? views id ≡ some v → ((p : ℕ) (x : View X) → get_elem? views p ≡ some x → StaysAt c x.phase) → total (having c) views ≤ 1 → having c v ≡ 1 → holders v ≡ 0 → 0 < total holders views → ⊥
  no_holder views c id v at stays one mine none-yet some-hold =
      let t = some_term holders views some-hold in
      dite (ℕ_discrete t.0 id)
      (λ e. let same : v ≡ t.1 = some-injective v t.1 (sym at ∙ (ap (get_elem? views) (sym e) ∙ t.2)) in let z : holder t.1.phase ≡ 0 = ap (λ (y : View X). holders y) (sym same) ∙ none-yet in omega (arith, t.3))
      (λ ne. let h = holder_has c t.1.phase (stays t.0 t.1 t.2) t.3 in omega (arith, terms_le (having c) views id t.0 v t.1 ne at t.2, h))

  pub no_holder_beside : (views : List (View X)) (id : ℕ) (v : View X) → get_elem? views id ≡ some v → total batons views ≤ 1 → batons v ≡ 1 → holders v ≡ 0 → 0 < total holders views → ⊥
  no_holder_beside views id v at one mine none-yet some-hold =
      let t = some_term holders views some-hold in
      dite (ℕ_discrete t.0 id)
      (λ e. let same : v ≡ t.1 = some-injective v t.1 (sym at ∙ (ap (get_elem? views) (sym e) ∙ t.2)) in let z : holder t.1.phase ≡ 0 = ap (λ (y : View X). holders y) (sym same) ∙ none-yet in omega (arith, t.3))
      (λ ne. omega (arith, terms_le batons views id t.0 v t.1 ne at t.2, holder_baton t.1.phase, t.3))

  -- a view goes from v to u with the same parts and draws
  pub counts_kept : (seats items queue next c c' d id : ℕ) (views : List (View X)) (v u : View X) → Counts seats items queue next c d views → get_elem? views id ≡ some v
      → u.parts ≡ v.parts → u.overs ≡ v.overs → u.drawn ≡ v.drawn → u.key ≡ v.key → c ≤ c' → c' ≤ d
      → ((n : ℕ) → total (having n) (set views id u) ≤ 1)
      → ((n : ℕ) → 0 < total (having n) (set views id u) → (c' ≤ n) × (n < d))
      → ((n : ℕ) → 0 < total (working n) (set views id u) → n < c' + queue)
      → ((n : ℕ) → c' ≤ n → n < d → total (having n) (set views id u) ≡ 0 → n < c' + queue)
      → total batons (set views id u) ≤ 1 → StaysAt c' u.phase → u.seen ≤ c' → (u.parts ≡ 0 → u.phase ≡ Idle)
      → ((p : ℕ) (x : View X) → p ≢ id → get_elem? views p ≡ some x → StaysAt c x.phase → StaysAt c' x.phase)
      → Counts seats items queue next c' d (set views id u)
  counts_kept seats items queue next c c' d id views v u o at parts overs drawn keyed up le once within near ready-near one stays seen zero-idle others =
      let mine = o.each id v at in
      let overs' : total (λ (x : View X). x.overs) (set views id u) ≡ total (λ (x : View X). x.overs) views = same_sum _ _ _ _ (total-set (λ (x : View X). x.overs) views id v u at) (sym overs) in
      record {
        parts = same_sum _ _ _ _ (total-set (λ (x : View X). x.parts) views id v u at) (sym parts) ∙ o.parts;
        some = o.some;
        split = omega (arith, o.split, overs');
        all = λ h. overs' ∙ o.all h;
        ordered = le;
        once = once;
        within = within;
        near = near;
        ready_near = ready-near;
        one_baton = one;
        each = λ p x e. ⊎_elim
            (λ t. subst (λ (y : View X). StaysAt c' y.phase × (y.seen ≤ c') × (y.drawn ≤ d) × (y.overs ≤ y.parts) × (y.parts ≡ 0 → (y.phase ≡ Idle) × (y.drawn ≡ 0))) t.1
            (stays, seen, omega (arith, mine.2), omega (arith, mine.3), (λ z. (zero-idle z, drawn ∙ (mine.4 (sym parts ∙ z)).1))))
            (λ t. let ne = t.0 in let old = o.each p x t.1 in (others p x ne t.1 old.0, omega (arith, old.1), old.2, old.3, old.4))
            (at_set views id p u x e);
        last = dite (ℕ_discrete o.last.0 id)
            (λ e. (id, u, here_of views id v u at, drawn ∙ (ap (λ (y : View X). y.drawn) (some-injective _ _ (sym at ∙ (ap (get_elem? views) (sym e) ∙ o.last.2))) ∙ o.last.3)))
            (λ ne. (o.last.0, o.last.1, set_else views id o.last.0 u ne ∙ o.last.2, o.last.3));
      }
