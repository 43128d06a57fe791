-- The first view, how views are cut and joined, and what is left at the end.
use Rattle.std.proofs.Common.{◌≡◌, ℕ, zero, suc, ◌+◌, ◌-◌, ◌*◌, ◌/◌, ◌%◌, ◌<◌, ◌≤◌, ◌⊎◌, max, List, [], ◌∷◌, ◌++◌, map, length, get_or, set, sym, refl, ap, ◌∙◌, subst, inl, inr, ⊎_elim, arith}
use Rattle.std.proofs.Math.Nat.{add-mul-mod_self_right, mod-eq_of_lt, div-add-mod}
use Rattle.std.proofs.lemmas.List.{length-map}
use mathlib.Core.Option.{some, some-injective, some-ne-none}
use mathlib.Core.Logic.{dite}
use native.Mathlib.Decide.{ℕ_discrete, dec_le}
use lib.ListN.{get_elem?}
use Rattle.atomic_table.specs.Table.{Splits, Joins, opening, Final, Seen}
use Rattle.atomic_table.proofs.Lists.{at_set, at_snoc, at_longer, at_map, set_else}
use Rattle.ordered_pipeline.specs.declared.view.View.{View}
use Rattle.ordered_pipeline.specs.declared.view.Cargo.{Cargo}
use Rattle.ordered_pipeline.specs.declared.view.Cargo.TheVariants as cargo
use Rattle.ordered_pipeline.specs.declared.view.Phase.{Phase}
use Rattle.ordered_pipeline.specs.declared.view.Phase.TheVariants.{Idle}
use Rattle.scratch_pool.specs.Counts.{total}
use Rattle.ordered_pipeline.specs.Rule.{has, works, baton, holder, having, working, batons, holders, StaysAt, Counts, Words, Homes, Ring}
use Rattle.ordered_pipeline.specs.Machine.{READY, TURN, view}
use Rattle.scratch_pool.proofs.Sums.{total-append, total-set, total-zero, term_le, terms_le}
use Rattle.ordered_pipeline.proofs.Phases.{words_same, homes_same}
use Rattle.ordered_pipeline.proofs.Draws.{here_of}

no_part : (a b t n : ℕ) → a + b ≤ t → t ≡ n → a ≡ n → b ≡ 0
no_part a b t n h e f = omega arith

-- each place of the ring has a number of the window
number_at : (c q k : ℕ) → k < q → (n : ℕ) × (c ≤ n) × (n < c + q) × (n % q ≡ k)
number_at c q k lt =
    let r : ℕ = c % q in let small : r < q = omega arith in let whole = div-add-mod c q in
    dite (dec_le r k)
    (λ le. (c + (k - r), omega arith, omega arith, ap (λ (i : ℕ). i % q) (first c q (c / q) r k whole le) ∙ (add-mul-mod_self_right k (c / q) q ∙ mod-eq_of_lt lt)))
    (λ no. (c + (k + q - r), omega arith, omega arith, ap (λ (i : ℕ). i % q) (second c q (c / q) r k whole small (omega arith)) ∙ (add-mul-mod_self_right k (c / q + 1) q ∙ mod-eq_of_lt lt)))
  where
    first : (c q t r k : ℕ) → q * t + r ≡ c → r ≤ k → c + (k - r) ≡ k + t * q
    first c q t r k e le = omega arith

    second : (c q t r k : ℕ) → q * t + r ≡ c → r < q → k < r → c + (k + q - r) ≡ k + (t + 1) * q
    second c q t r k e lt le = omega arith

pub single : {A : Type 0} (a v : A) (p : ℕ) → get_elem? (a ∷ []) p ≡ some v → a ≡ v
single a v zero e = some-injective a v e
single a v (suc p) e = absurd (some-ne-none v (sym e))

pub zero_odd : (n : ℕ) → 0 ≡ READY n → ⊥
zero_odd n e = omega arith

two_odd : (n : ℕ) → 2 ≡ READY n → ⊥
two_odd n e = omega arith

pub zero_turn : (n : ℕ) → 0 ≡ TURN n → ⊥
zero_turn n e = omega arith

two_turn : (n : ℕ) → 2 ≡ TURN n → n ≡ 0
two_turn n e = omega arith

small : (n q : ℕ) → n < 0 + q → n < q
small n q h = omega arith

module _ {X C S : Type 0} (seats items queue : ℕ) (room : C → Type 0) (stands : ℕ → C → Type 0) (fold : ℕ → S) (some-queue : 0 < queue) where
  -- what is left where one view has all parts and is idle
  pub record Ended (v : View X) (words : List ℕ) (xs : List (Cargo C S)) : Type 0 where
    pub copied : get_or words 8 0 ≡ v.drawn
    pub state : get_elem? xs queue ≡ some (cargo.State (fold v.drawn))
    pub copies : (k : ℕ) → k < queue → (x : C) × (get_elem? xs k ≡ some (cargo.Copy x)) × room x
    pub over : 0 < v.overs → v.drawn ≡ items

  pub ends : (id : ℕ) (v : View X) (ws : List ℕ) (xs : List (Cargo C S)) → v.parts ≡ seats → v.phase ≡ Idle → Final (Seen (Ring seats items queue room stands fold) id v) ws xs → Ended v ws xs
  ends id v ws xs all idle f =
      let s = f.0 in let o = f.1.0 in let at = f.1.1 in let k = o.counts in let mine = k.each id v at in
      let c : ℕ = get_or s.words 8 0 in
      let others : (p : ℕ) (u : View X) → get_elem? s.views p ≡ some u → (u.phase ≡ Idle) × (u.drawn ≤ v.drawn) = λ p u e. dite (ℕ_discrete p id)
      (λ same. let is-v : v ≡ u = some-injective v u (sym at ∙ (ap (get_elem? s.views) (sym same) ∙ e)) in (ap (λ (y : View X). y.phase) (sym is-v) ∙ idle, omega (arith, ap (λ (y : View X). y.drawn) is-v)))
      (λ ne. let z = (k.each p u e).4 (no_part _ _ _ _ (terms_le (λ (y : View X). y.parts) s.views id p v u ne at e) k.parts all) in (z.0, omega (arith, z.1))) in
      let none-of : (g : Phase → ℕ) → g Idle ≡ 0 → total (λ (y : View X). g y.phase) s.views ≡ 0 = λ g z. total-zero (λ (y : View X). g y.phase) s.views (λ p u e. ap g (others p u e).0 ∙ z) in
      let rest = o.words.rests (none-of baton refl) in
      let no = rest.1 in
      let whole : c ≡ o.d = dite (dec_le o.d c) (λ le. omega (arith, k.ordered)) (λ lt. absurd (no (omega arith, none-of (has c) refl))) in
      let last-drawn : v.drawn ≡ o.d = omega (arith, mine.2, k.last.3, (others k.last.0 k.last.1 k.last.2).1) in
      let c-drawn : c ≡ v.drawn = whole ∙ sym last-drawn in
      record {
        copied = ap (λ (l : List ℕ). get_or l 8 0) (sym f.2) ∙ c-drawn;
        state = f.4 queue (cargo.State (fold v.drawn)) (o.homes.state (none-of baton refl) ∙ ap (λ (i : ℕ). some (some (cargo.State (fold i)))) c-drawn);
        copies = λ j lt. let n = number_at c queue j lt in let h = o.homes.copies n.0 n.1 n.2 (none-of (works n.0) refl) in (h.0, f.4 j (cargo.Copy h.0) (ap (get_elem? s.homes) (sym n.3) ∙ h.1), h.2);
        over = λ some-over. last-drawn ∙ full_of o.d items _ k.some k.all (omega (arith, term_le (λ (y : View X). y.overs) s.views id v at));
      }
    where
      full_of : (d items overs : ℕ) → d ≤ items → (d < items → overs ≡ 0) → 0 < overs → d ≡ items
      full_of d items overs le f pos = dite (dec_le items d) (λ h. omega arith) (λ no. let z = f (omega arith) in omega arith)

  abbrev pub splitting : View X → View X
  splitting v = view (v.parts - 1) v.overs (v.number + 1) v.phase v.seen v.drawn v.looks v.key

  abbrev pub splitted : View X → View X
  splitted v = view 1 0 v.number Idle 0 0 0 v.key

  pub splits : (id : ℕ) (v : View X) → v.phase ≡ Idle → v.overs < v.parts → v.drawn ≡ 0 → Splits (Ring seats items queue room stands fold) id v (splitting v) (splitted v)
  splits id v idle over none-drawn s o at =
      let k = o.counts in let mine = k.each id v at in
      let c : ℕ = get_or s.words 8 0 in
      let u = splitting v in let w = splitted v in
      let l = set s.views id u in let vs = l ++ w ∷ [] in
      let same : (g : View X → ℕ) → g v ≡ g u → g w ≡ 0 → total g vs ≡ total g s.views = λ g e z. both_sum _ _ _ _ _ _ (total-append g l (w ∷ [])) (total-set g s.views id v u at) e z in
      record {
        d = o.d;
        wide = o.wide;
        slots = o.slots;
        counts = record {
          parts = cut_sum _ _ _ _ (total-append (λ (y : View X). y.parts) l (w ∷ [])) (total-set (λ (y : View X). y.parts) s.views id v u at) (omega arith) ∙ k.parts;
          some = k.some;
          split = omega (arith, k.split, same (λ (y : View X). y.overs) refl refl);
          all = λ h. same (λ (y : View X). y.overs) refl refl ∙ k.all h;
          ordered = k.ordered;
          once = λ n. omega (arith, same (having n) refl refl, k.once n);
          within = λ n h. k.within n (omega (arith, same (having n) refl refl));
          near = λ n h. k.near n (omega (arith, same (working n) refl refl));
          ready_near = λ n le lt z. k.ready_near n le lt (sym (same (having n) refl refl) ∙ z);
          one_baton = omega (arith, same batons refl refl, k.one_baton);
          each = λ p x e. ⊎_elim
              (λ in-l. ⊎_elim
              (λ t. subst (λ (y : View X). StaysAt c y.phase × (y.seen ≤ c) × (y.drawn ≤ o.d) × (y.overs ≤ y.parts) × (y.parts ≡ 0 → (y.phase ≡ Idle) × (y.drawn ≡ 0))) t.1
              (mine.0, mine.1, mine.2, omega arith, (λ z. (idle, none-drawn))))
              (λ t. k.each p x t.1)
              (at_set s.views id p u x in-l))
              (λ is-w. subst (λ (y : View X). StaysAt c y.phase × (y.seen ≤ c) × (y.drawn ≤ o.d) × (y.overs ≤ y.parts) × (y.parts ≡ 0 → (y.phase ≡ Idle) × (y.drawn ≡ 0))) is-w (tt, omega arith, omega arith, omega arith, (λ z. absurd (omega arith))))
              (at_snoc l w x p e);
          last = dite (ℕ_discrete k.last.0 id)
              (λ e. (id, u, at_longer l (w ∷ []) id u (here_of s.views id v u at), ap (λ (y : View X). y.drawn) (some-injective _ _ (sym at ∙ (ap (get_elem? s.views) (sym e) ∙ k.last.2))) ∙ k.last.3))
              (λ ne. (k.last.0, k.last.1, at_longer l (w ∷ []) k.last.0 k.last.1 (set_else s.views id k.last.0 u ne ∙ k.last.2), k.last.3));
        };
        words = words_same queue c o.d o.d _ _ s.views vs o.words (λ n r. (r.0, sym (same (having n) refl refl) ∙ r.1)) (λ n r. (r.0, same (having n) refl refl ∙ r.1)) (same batons refl refl) (same holders refl refl) (λ p. refl);
        homes = homes_same room stands fold queue c o.d o.d s.homes s.views vs o.homes (λ n r. (r.0, sym (same (having n) refl refl) ∙ r.1)) (same batons refl refl) (λ n. same (working n) refl refl);
      }
    where
      both_sum : (t m o a a' b : ℕ) → t ≡ m + (b + 0) → m + a ≡ o + a' → a ≡ a' → b ≡ 0 → t ≡ o
      both_sum t m o a a' b p q e z = omega arith

      cut_sum : (t m o a : ℕ) → t ≡ m + (1 + 0) → m + a ≡ o + (a - 1) → 0 < a → t ≡ o
      cut_sum t m o a p q h = omega arith

  abbrev pub joined : View X → View X → View X
  joined v w = view (v.parts + w.parts) (v.overs + w.overs) v.number v.phase (max v.seen w.seen) (max v.drawn w.drawn) v.looks v.key

  abbrev pub spent_view : X → View X
  spent_view x = view 0 0 0 Idle 0 0 0 x

  pub joins : (id other : ℕ) (v w : View X) (x : X) → v.phase ≡ Idle → w.phase ≡ Idle → Joins (Ring seats items queue room stands fold) id v other w (joined v w) (spent_view x)
  joins id other v w x idle-v idle-w s o at apart at-w =
      let k = o.counts in let mine = k.each id v at in
      let c : ℕ = get_or s.words 8 0 in
      let b = joined v w in let z = spent_view x in
      let l = set s.views id b in let vs = set l other z in
      let w-there : get_elem? s.views other ≡ some w = sym (set_else s.views id other b apart) ∙ at-w in
      let theirs = k.each other w w-there in
      let idle-b : b.phase ≡ Idle = idle-v in
      let same : (g : Phase → ℕ) → g Idle ≡ 0 → total (λ (y : View X). g y.phase) vs ≡ total (λ (y : View X). g y.phase) s.views = λ g e.
      two_steps _ _ _ _ _ _ (total-set (λ (y : View X). g y.phase) s.views id v b at) (total-set (λ (y : View X). g y.phase) l other w z at-w) (ap g idle-w ∙ e) e in
      let sum-overs : total (λ (y : View X). y.overs) vs ≡ total (λ (y : View X). y.overs) s.views = moved_sum _ _ _ _ _ (total-set (λ (y : View X). y.overs) s.views id v b at) (total-set (λ (y : View X). y.overs) l other w z at-w) in
      let at-b : get_elem? vs id ≡ some b = set_else l other id z (λ e. apart (sym e)) ∙ here_of s.views id v b at in
      record {
        d = o.d;
        wide = o.wide;
        slots = o.slots;
        counts = record {
          parts = moved_sum _ _ _ _ _ (total-set (λ (y : View X). y.parts) s.views id v b at) (total-set (λ (y : View X). y.parts) l other w z at-w) ∙ k.parts;
          some = k.some;
          split = omega (arith, k.split, sum-overs);
          all = λ h. sum-overs ∙ k.all h;
          ordered = k.ordered;
          once = λ n. omega (arith, same (has n) refl, k.once n);
          within = λ n h. k.within n (omega (arith, same (has n) refl));
          near = λ n h. k.near n (omega (arith, same (works n) refl));
          ready_near = λ n le lt e. k.ready_near n le lt (sym (same (has n) refl) ∙ e);
          one_baton = omega (arith, same baton refl, k.one_baton);
          each = λ p y e. ⊎_elim
              (λ t. subst (λ (y : View X). StaysAt c y.phase × (y.seen ≤ c) × (y.drawn ≤ o.d) × (y.overs ≤ y.parts) × (y.parts ≡ 0 → (y.phase ≡ Idle) × (y.drawn ≡ 0))) t.1 (tt, omega arith, omega arith, omega arith, (λ _. (refl, refl))))
              (λ t. ⊎_elim
              (λ u. subst (λ (y : View X). StaysAt c y.phase × (y.seen ≤ c) × (y.drawn ≤ o.d) × (y.overs ≤ y.parts) × (y.parts ≡ 0 → (y.phase ≡ Idle) × (y.drawn ≡ 0))) u.1
              (mine.0, omega (arith, mine.1, theirs.1), omega (arith, mine.2, theirs.2), omega (arith, mine.3, theirs.3), (λ e. (idle-v, omega (arith, (mine.4 (omega arith)).1, (theirs.4 (omega arith)).1)))))
              (λ u. k.each p y u.1)
              (at_set s.views id p b y t.1))
              (at_set l other p z y e);
          last = dite (ℕ_discrete k.last.0 id)
              (λ e. (id, b, at-b, omega (arith, mine.2, theirs.2, k.last.3, ap (λ (y : View X). y.drawn) (some-injective _ _ (sym at ∙ (ap (get_elem? s.views) (sym e) ∙ k.last.2))))))
              (λ ne. dite (ℕ_discrete k.last.0 other)
              (λ e. (id, b, at-b, omega (arith, mine.2, theirs.2, k.last.3, ap (λ (y : View X). y.drawn) (some-injective _ _ (sym w-there ∙ (ap (get_elem? s.views) (sym e) ∙ k.last.2))))))
              (λ ne'. (k.last.0, k.last.1, set_else l other k.last.0 z ne' ∙ (set_else s.views id k.last.0 b ne ∙ k.last.2), k.last.3)));
        };
        words = words_same queue c o.d o.d _ _ s.views vs o.words (λ n r. (r.0, sym (same (has n) refl) ∙ r.1)) (λ n r. (r.0, same (has n) refl ∙ r.1)) (same baton refl) (same holder refl) (λ p. refl);
        homes = homes_same room stands fold queue c o.d o.d s.homes s.views vs o.homes (λ n r. (r.0, sym (same (has n) refl) ∙ r.1)) (same baton refl) (λ n. same (works n) refl);
      }
    where
      two_steps : (t m o a b y : ℕ) → m + a ≡ o + a → t + b ≡ m + y → b ≡ 0 → y ≡ 0 → t ≡ o
      two_steps t m o a b y p q e z = omega arith

      moved_sum : (t m o a b : ℕ) → m + a ≡ o + (a + b) → t + b ≡ m + 0 → t ≡ o
      moved_sum t m o a b p q = omega arith

  -- the table at the start
  pub starts : (key : X) (ws : List ℕ) (xs : List (Cargo C S)) → length ws ≡ 8 * queue + 16 → get_or ws 0 0 ≡ 0 → get_or ws 8 0 ≡ 0 → get_or ws 16 0 ≡ 2 → ((p : ℕ) → 0 < p → get_or ws (8 * p + 16) 0 ≡ 0)
      → length xs ≡ queue + 1 → ((k : ℕ) → k < queue → (x : C) × (get_elem? xs k ≡ some (cargo.Copy x)) × room x) → get_elem? xs queue ≡ some (cargo.State (fold 0))
      → Ring seats items queue room stands fold (opening ws xs (view seats 0 0 Idle 0 0 0 key))
  starts key ws xs long w0 w1 w2 empty many copies state =
      let v : View X = view seats 0 0 Idle 0 0 0 key in
      let ring : (p : ℕ) → (get_or ws (8 * p + 16) 0 ≡ 0) ⊎ ((p ≡ 0) × (get_or ws (8 * p + 16) 0 ≡ 2)) = λ p. dite (ℕ_discrete p 0) (λ e. inr (e, ap (λ (i : ℕ). get_or ws (8 * i + 16) 0) e ∙ w2)) (λ ne. inl (empty p (omega arith))) in
      let first : 0 % queue ≡ 0 = mod-eq_of_lt some-queue in
      record {
        d = 0;
        wide = long;
        slots = length-map xs (λ (y : Cargo C S). some y) ∙ many;
        counts = subst (λ n. Counts seats items queue n (get_or ws 8 0) 0 (v ∷ [])) (sym w0) (subst (λ n. Counts seats items queue 0 n 0 (v ∷ [])) (sym w1) record {
          parts = omega arith;
          some = omega arith;
          split = omega arith;
          all = λ h. refl;
          ordered = omega arith;
          once = λ n. omega arith;
          within = λ n h. absurd (omega arith);
          near = λ n h. absurd (omega arith);
          ready_near = λ n le lt z. absurd (omega arith);
          one_baton = omega arith;
          each = λ p y e. subst (λ (u : View X). StaysAt 0 u.phase × (u.seen ≤ 0) × (u.drawn ≤ 0) × (u.overs ≤ u.parts) × (u.parts ≡ 0 → (u.phase ≡ Idle) × (u.drawn ≡ 0))) (single v y p e) (tt, omega arith, omega arith, omega arith, (λ z. (refl, refl)));
          last = (0, v, refl, refl);
        });
        words = subst (λ n. Words queue n 0 (λ p. get_or ws (8 * p + 16) 0) (v ∷ [])) (sym w1) record {
          ready = λ n le lt r. absurd (omega (arith, r.0));
          only_ready = λ n le lt e. absurd (⊎_elim (λ z. zero_odd n (sym z ∙ e)) (λ t. two_odd n (sym t.1 ∙ e)) (ring (n % queue)));
          only_turn = λ n le lt e. (⊎_elim (λ z. absurd (zero_turn n (sym z ∙ e))) (λ t. two_turn n (sym t.1 ∙ e)) (ring (n % queue)), inl refl);
          rests = λ z. (ap (λ (i : ℕ). get_or ws (8 * i + 16) 0) first ∙ w2, λ r. absurd (omega (arith, r.0)));
          below = λ p lt. ⊎_elim (λ z. omega arith) (λ t. omega (arith, t.1)) (ring p);
        };
        homes = subst (λ n. Homes room stands fold queue n 0 (map (λ (y : Cargo C S). some y) xs) (v ∷ [])) (sym w1) record {
          copies = λ n le lt z. let h = copies n (omega arith) in
              (h.0, ap (get_elem? (map (λ (y : Cargo C S). some y) xs)) (mod-eq_of_lt (small n queue lt)) ∙ at_map (λ (y : Cargo C S). some y) xs n (cargo.Copy h.0) h.1, h.2, λ r. absurd (omega (arith, r.0)));
          state = λ z. at_map (λ (y : Cargo C S). some y) xs queue (cargo.State (fold 0)) state;
        };
      }
