-- Each step of a pass may be taken, whatever the table is.
use Rattle.std.proofs.Common.{◌≡◌, ◌≢◌, ℕ, ◌+◌, ◌%◌, ◌<◌, ◌≤◌, List, [], ◌∷◌, length, get_or, set, sym, refl, ap, ◌∙◌, subst, ⊎_elim, arith, length-set, get_or-set_same, get_or-set_other, ◌*◌}
use Rattle.std.proofs.lemmas.List.{set-get_or}
use mathlib.Core.Option.{Option, some, none}
use mathlib.Core.Logic.{dite}
use native.Mathlib.Decide.{ℕ_discrete, dec_le}
use lib.ListN.{get_elem?}
use Rattle.atomic_table.specs.Table.{State, Me, Step, step, Act, keeps, takes, gives, Valid, stepped, carried_after, Allows, rest}
use Rattle.ordered_pipeline.specs.declared.view.View.{View}
use Rattle.ordered_pipeline.specs.declared.view.Cargo.{Cargo}
use Rattle.ordered_pipeline.specs.declared.view.Cargo.TheVariants as cargo
use Rattle.ordered_pipeline.specs.declared.view.Phase.{Phase}
use Rattle.ordered_pipeline.specs.declared.view.Phase.TheVariants.{Idle, Drawn, Started, Baton, Advanced}
use Rattle.scratch_pool.specs.Counts.{total, raised}
use Rattle.ordered_pipeline.specs.Rule.{is, has, works, baton, holder, having, working, batons, holders, IsReady, StaysAt, Counts, Words, Homes, Ring}
use Rattle.ordered_pipeline.specs.Machine.{READY, TURN, view}
use Rattle.scratch_pool.proofs.Sums.{total-set, term_le, terms_le, total_le}
use Rattle.ordered_pipeline.proofs.Phases.{is_same, is_other, same_sum, words_same, homes_same}
use Rattle.ordered_pipeline.proofs.Keeps.{counts_kept, not_working, no_holder, no_holder_beside, stays_free, works_has}
use Rattle.ordered_pipeline.proofs.Rings.{words_taken, words_left, words_advanced, words_passed, words_rest, homes_started, homes_left, homes_taken, homes_rest, homes_advanced}

plus : (t t' a b x : ℕ) → t' + a ≡ t + b → a ≡ 0 → b ≡ x → t' ≡ t + x
plus t t' a b x e p q = omega arith

gone : (t t' a b : ℕ) → t' + a ≡ t + b → a ≡ 1 → b ≡ 0 → t ≤ 1 → t' ≡ 0
gone t t' a b e p q h = omega arith

has_part : (parts drawn : ℕ) (p : Phase) (n : ℕ) → (parts ≡ 0 → (p ≡ Idle) × (drawn ≡ 0)) → p ≡ Drawn n → 0 < parts
has_part parts drawn p n f e = dite (ℕ_discrete parts 0) (λ z. absurd (let i : Drawn n ≡ Idle = sym e ∙ (f z).0 in cc)) (λ nz. omega arith)

started_part : (parts drawn : ℕ) (p : Phase) (n : ℕ) → (parts ≡ 0 → (p ≡ Idle) × (drawn ≡ 0)) → p ≡ Started n → 0 < parts
started_part parts drawn p n f e = dite (ℕ_discrete parts 0) (λ z. absurd (let i : Started n ≡ Idle = sym e ∙ (f z).0 in cc)) (λ nz. omega arith)

baton_part : (parts drawn : ℕ) (p : Phase) (n : ℕ) → (parts ≡ 0 → (p ≡ Idle) × (drawn ≡ 0)) → p ≡ Baton n → 0 < parts
baton_part parts drawn p n f e = dite (ℕ_discrete parts 0) (λ z. absurd (let i : Baton n ≡ Idle = sym e ∙ (f z).0 in cc)) (λ nz. omega arith)

advanced_part : (parts drawn : ℕ) (p : Phase) (n : ℕ) → (parts ≡ 0 → (p ≡ Idle) × (drawn ≡ 0)) → p ≡ Advanced n → 0 < parts
advanced_part parts drawn p n f e = dite (ℕ_discrete parts 0) (λ z. absurd (let i : Advanced n ≡ Idle = sym e ∙ (f z).0 in cc)) (λ nz. omega arith)

advanced_here : (c n : ℕ) (p : Phase) → p ≡ Advanced n → StaysAt c p → n + 1 ≡ c
advanced_here c n p e h = subst (StaysAt c) e h

stays_here : (c n : ℕ) (p : Phase) → p ≡ Baton n → StaysAt c p → n ≡ c
stays_here c n p e h = subst (StaysAt c) e h

above : (c j n : ℕ) → c ≤ j → n ≡ c → j ≢ n → c + 1 ≤ j
above c j n le e ne = omega arith

module _ {X C S : Type 0} (seats items queue : ℕ) (room : C → Type 0) (stands : ℕ → C → Type 0) (fold : ℕ → S) (some-queue : 0 < queue) where
  abbrev Rule : State (Cargo C S) (View X) → Type 0
  Rule = Ring seats items queue room stands fold

  abbrev Goes : List ℕ → State (Cargo C S) (View X) → ℕ → Me (Cargo C S) (View X) → (Me (Cargo C S) (View X) → Type 0) → Type 0
  Goes ws s id m then = (w : View X) × (a : Act (Cargo C S)) × Valid s.homes m.1 a × Rule record { words = ws; homes = Rattle.atomic_table.specs.Table.homes_after s.homes m.1 a; views = set s.views id w } × then (w, carried_after m.1 a)

  abbrev pub Looked : ℕ → ℕ → Me (Cargo C S) (View X) → ℕ → Me (Cargo C S) (View X) → Type 0
  Looked n q m r t =
      (m.0.seen ≤ r)
      × (n < r + q → (x : C) × room x × (t ≡ (view m.0.parts m.0.overs m.0.number (Started n) r m.0.drawn m.0.looks m.0.key, (n % q, cargo.Copy x) ∷ [])))
      × (r + q ≤ n → t ≡ (view m.0.parts m.0.overs m.0.number (Drawn n) r m.0.drawn (raised m.0.looks) m.0.key, []))

  -- an item that is not too far ahead starts, with a copy object that has room
  pub looks : (slots id n q : ℕ) (m : Me (Cargo C S) (View X)) → q ≡ queue → m.0.phase ≡ Drawn n → m.1 ≡ []
      → Allows Rule slots id m 8 (λ w. w)
      (Looked n q m)
  looks slots id n q m same-queue ph empty s o wide at _ =
      let v = m.0 in
      let c : ℕ = get_or s.words 8 0 in
      let k = o.counts in
      let mine = k.each id v at in
      let has-n : having n v ≡ 1 = ap (has n) ph ∙ is_same n in
      let in-range = k.within n (omega (arith, term_le (having n) s.views id v at)) in
      let still : set s.words 8 c ≡ s.words = set-get_or s.words 8 0 in
      let same : (u : View X) (g : View X → ℕ) → g v ≡ g u → total g (set s.views id u) ≡ total g s.views = λ u g e. same_sum _ _ _ _ (total-set g s.views id v u at) e in
      let kept : (u : View X) → u.parts ≡ v.parts → u.overs ≡ v.overs → u.drawn ≡ v.drawn → u.key ≡ v.key → u.seen ≡ c → baton u.phase ≡ 0 → ((j : ℕ) → has j u.phase ≡ is j n) → (0 < v.parts) → ((j : ℕ) → 0 < total (working j) (set s.views id u) → j < c + queue)
      → Counts seats items queue (get_or s.words 0 0) c o.d (set s.views id u) =
      λ u a b d e f no-baton same-has pos near.
      let having' : (j : ℕ) → total (having j) (set s.views id u) ≡ total (having j) s.views = λ j. same u (having j) (ap (has j) ph ∙ sym (same-has j)) in
      counts_kept seats items queue (get_or s.words 0 0) c c o.d id s.views v u k at a b d e (omega arith) k.ordered
      (λ j. omega (arith, having' j, k.once j)) (λ j h. k.within j (omega (arith, having' j))) near (λ j le lt z. k.ready_near j le lt (sym (having' j) ∙ z))
      (omega (arith, same u batons (ap baton ph ∙ sym no-baton), k.one_baton)) (stays_free c c u.phase no-baton) (omega arith) (λ z. absurd (omega arith)) (λ p x ne e h. h) in
      let part : 0 < v.parts = has_part v.parts v.drawn v.phase n mine.4 ph in
      subst (λ ws. Goes ws s id m (Looked n q m c))
      (sym still)
      (dite (dec_le (c + q) n)
      (λ far.
      let u = view v.parts v.overs v.number (Drawn n) c v.drawn (raised v.looks) v.key in
      let sameph : (g : Phase → ℕ) → total (λ (y : View X). g y.phase) (set s.views id u) ≡ total (λ (y : View X). g y.phase) s.views = λ g. same u (λ (y : View X). g y.phase) (ap g ph) in (
        u,
        keeps,
        tt,
        record {
          d = o.d;
          wide = o.wide;
          slots = o.slots;
          counts = kept u refl refl refl refl refl refl (λ j. refl) part (λ j h. k.near j (omega (arith, sameph (works j))));
          words = words_same queue c o.d o.d _ _ s.views (set s.views id u) o.words (λ j r. (r.0, sym (sameph (has j)) ∙ r.1)) (λ j r. (r.0, sameph (has j) ∙ r.1)) (sameph baton) (sameph holder) (λ p. refl);
          homes = homes_same room stands fold queue c o.d o.d s.homes s.views (set s.views id u) o.homes (λ j r. (r.0, sym (sameph (has j)) ∙ r.1)) (sameph baton) (λ j. sameph (works j));
        },
        (mine.1, (λ h. absurd (omega arith)), λ _. ap (λ l. (u, l)) empty),
      ))
      (λ close.
      let u = view v.parts v.overs v.number (Started n) c v.drawn v.looks v.key in
      let near : n < c + queue = omega arith in
      let same-has : (j : ℕ) → total (having j) (set s.views id u) ≡ total (having j) s.views = λ j. same u (having j) (ap (has j) ph) in
      let no-work : total (working n) s.views ≡ 0 = not_working s.views id n v at (k.once n) has-n (ap (works n) ph) in
      let h = o.homes.copies n in-range.0 near no-work in
      let working' : (j : ℕ) → total (working j) (set s.views id u) ≡ total (working j) s.views + is j n = λ j. plus _ _ _ _ _ (total-set (working j) s.views id v u at) (ap (works j) ph) refl in (
        u,
        takes (n % q) (cargo.Copy h.0),
        ap (λ (i : ℕ). get_elem? s.homes (n % i)) same-queue ∙ h.1,
        record {
          d = o.d;
          wide = o.wide;
          slots = length-set s.homes (n % q) none ∙ o.slots;
          counts = kept u refl refl refl refl refl refl (λ j. refl) part (λ j w. dite (ℕ_discrete n j) (λ e. omega arith) (λ ne. k.near j (omega (arith, working' j, is_other n j ne))));
          words = words_same queue c o.d o.d _ _ s.views (set s.views id u) o.words (λ j r. (r.0, sym (same-has j) ∙ r.1)) (λ j r. (r.0, same-has j ∙ r.1)) (same u batons (ap baton ph)) (same u holders (ap holder ph)) (λ p. refl);
          homes = subst (λ (i : ℕ). Homes room stands fold queue c o.d (set s.homes (n % i) none) (set s.views id u)) (sym same-queue)
              (homes_started room stands fold queue c o.d s.homes s.views (set s.views id u) o.homes n in-range.0 near some-queue
              (λ j ne. omega (arith, working' j, is_other n j (λ e. ne (sym e)))) (omega (arith, working' n, is_same n)) (λ j r ne. (r.0, sym (same-has j) ∙ r.1)) (same u batons (ap baton ph)));
        },
        (mine.1, (λ _. (h.0, h.2, ap (λ l. (u, (n % q, cargo.Copy h.0) ∷ l)) empty)), λ le. absurd (omega arith)),
      )))

  -- the view with another phase
  abbrev pub phased : View X → Phase → View X
  phased v p = view v.parts v.overs v.number p v.seen v.drawn v.looks v.key

  -- the rule after a write of a ring's word
  ringed : (s : State (Cargo C S) (View X)) (o : Rule s) (p x : ℕ) (hs : List (Option (Cargo C S))) (vs : List (View X)) → length hs ≡ length s.homes
      → Counts seats items queue (get_or s.words 0 0) (get_or s.words 8 0) o.d vs → Words queue (get_or s.words 8 0) o.d (λ i. get_or (set s.words (8 * p + 16) x) (8 * i + 16) 0) vs → Homes room stands fold queue (get_or s.words 8 0) o.d hs vs
      → Rule record { words = set s.words (8 * p + 16) x; homes = hs; views = vs }
  ringed s o p x hs vs long a b h =
      let w0 : get_or (set s.words (8 * p + 16) x) 0 0 ≡ get_or s.words 0 0 = get_or-set_other s.words (8 * p + 16) 0 x 0 (λ e. omega arith) in
      let w1 : get_or (set s.words (8 * p + 16) x) 8 0 ≡ get_or s.words 8 0 = get_or-set_other s.words (8 * p + 16) 8 x 0 (λ e. omega arith) in
      record {
        d = o.d;
        wide = length-set s.words (8 * p + 16) x ∙ o.wide;
        slots = long ∙ o.slots;
        counts = subst (λ y. Counts seats items queue y (get_or (set s.words (8 * p + 16) x) 8 0) o.d vs) (sym w0) (subst (λ y. Counts seats items queue (get_or s.words 0 0) y o.d vs) (sym w1) a);
        words = subst (λ y. Words queue y o.d (λ i. get_or (set s.words (8 * p + 16) x) (8 * i + 16) 0) vs) (sym w1) b;
        homes = subst (λ y. Homes room stands fold queue y o.d hs vs) (sym w1) h;
      }

  abbrev pub Finished : ℕ → C → Me (Cargo C S) (View X) → ℕ → Me (Cargo C S) (View X) → Type 0
  Finished n x m r t =
      (r ≡ TURN n → (st : S) × (st ≡ fold n) × (t ≡ (phased m.0 (Baton n), (queue, cargo.State st) ∷ (n % queue, cargo.Copy x) ∷ [])))
      × (r ≢ TURN n → t ≡ (phased m.0 Idle, []))

  -- a finished item is left ready, or its pass takes the baton and the state
  pub finishes : (slots id n : ℕ) (m : Me (Cargo C S) (View X)) (x : C) → m.0.phase ≡ Started n → m.1 ≡ (n % queue, cargo.Copy x) ∷ [] → room x → stands n x → Allows Rule slots id m (8 * (n % queue) + 16) (λ _. READY n) (Finished n x m)
  finishes slots id n m x ph carries has-room means s o wide at _ =
      let v = m.0 in
      let c : ℕ = get_or s.words 8 0 in
      let k = o.counts in
      let mine = k.each id v at in
      let ring : ℕ → ℕ = λ p. get_or s.words (8 * p + 16) 0 in
      let place : n % queue < queue = omega arith in
      let words' = set s.words (8 * (n % queue) + 16) (READY n) in
      let here : get_or words' (8 * (n % queue) + 16) 0 ≡ READY n = get_or-set_same s.words (8 * (n % queue) + 16) (READY n) 0 (omega (arith, o.wide)) in
      let else : (p : ℕ) → p ≢ n % queue → get_or words' (8 * p + 16) 0 ≡ ring p = λ p ne. get_or-set_other s.words (8 * (n % queue) + 16) (8 * p + 16) (READY n) 0 (λ e. ne (omega arith)) in
      let has-n : having n v ≡ 1 = ap (has n) ph ∙ is_same n in
      let works-n : working n v ≡ 1 = ap (works n) ph ∙ is_same n in
      let one : total (having n) s.views ≡ 1 = omega (arith, term_le (having n) s.views id v at, k.once n) in
      let in-range = k.within n (omega arith) in
      let near : n < c + queue = k.near n (omega (arith, term_le (working n) s.views id v at)) in
      let part : 0 < v.parts = started_part v.parts v.drawn v.phase n mine.4 ph in
      subst (λ l. Goes words' s id (v, l) (Finished n x m (ring (n % queue)))) (sym carries)
      (dite (ℕ_discrete (ring (n % queue)) (TURN n))
      (λ found.
      let u = phased v (Baton n) in
      let vs = set s.views id u in
      let t = o.words.only_turn n in-range.0 near found in
      let rests : total batons s.views ≡ 0 = ⊎_elim (λ z. z) (λ h. absurd (no_holder s.views c id v at (λ p y e. (k.each p y e).0) (k.once c) (ap (λ (i : ℕ). having i v) (sym t.0) ∙ has-n) (ap holder ph) h)) t.1 in
      let same-has : (j : ℕ) → total (having j) vs ≡ total (having j) s.views = λ j. same_sum _ _ _ _ (total-set (having j) s.views id v u at) (ap (has j) ph) in
      let same-works : (j : ℕ) → total (working j) vs ≡ total (working j) s.views = λ j. same_sum _ _ _ _ (total-set (working j) s.views id v u at) (ap (works j) ph) in
      let baton-one : total batons vs ≡ total batons s.views + 1 = plus _ _ _ _ _ (total-set batons s.views id v u at) (ap baton ph) refl in
      let holder-one : total holders vs ≡ total holders s.views + 1 = plus _ _ _ _ _ (total-set holders s.views id v u at) (ap holder ph) refl in (
        u,
        takes queue (cargo.State (fold c)),
        o.homes.state rests,
        ringed s o (n % queue) (READY n) (set s.homes queue none) vs (length-set s.homes queue none)
            (counts_kept seats items queue (get_or s.words 0 0) c c o.d id s.views v u k at refl refl refl refl (omega arith) k.ordered
            (λ j. omega (arith, same-has j, k.once j)) (λ j h. k.within j (omega (arith, same-has j))) (λ j h. k.near j (omega (arith, same-works j))) (λ j le lt z. k.ready_near j le lt (sym (same-has j) ∙ z))
            (omega arith) t.0 (omega (arith, mine.1)) (λ z. absurd (omega arith)) (λ p y ne e h. h))
            (words_taken queue c o.d ring (λ p. get_or words' (8 * p + 16) 0) s.views vs o.words n t.0 some-queue here else same-has one (omega arith) (omega arith))
            (homes_taken room stands fold queue c o.d s.homes s.views vs o.homes some-queue same-works (λ j r. (r.0, sym (same-has j) ∙ r.1)) (omega arith)),
        ((λ _. (fold c, ap fold (sym t.0), refl)), λ no. absurd (no found)),
      ))
      (λ not-turn.
      let u = phased v Idle in
      let vs = set s.views id u in
      let no-has : total (having n) vs ≡ 0 = gone _ _ _ _ (total-set (having n) s.views id v u at) has-n refl (k.once n) in
      let other-has : (j : ℕ) → j ≢ n → total (having j) vs ≡ total (having j) s.views = λ j ne. same_sum _ _ _ _ (total-set (having j) s.views id v u at) (ap (has j) ph ∙ is_other n j (λ e. ne (sym e))) in
      let other-works : (j : ℕ) → j ≢ n → total (working j) vs ≡ total (working j) s.views = λ j ne. same_sum _ _ _ _ (total-set (working j) s.views id v u at) (ap (works j) ph ∙ is_other n j (λ e. ne (sym e))) in
      let same-batons : total batons vs ≡ total batons s.views = same_sum _ _ _ _ (total-set batons s.views id v u at) (ap baton ph) in
      let same-holders : total holders vs ≡ total holders s.views = same_sum _ _ _ _ (total-set holders s.views id v u at) (ap holder ph) in
      let fewer : (j : ℕ) → total (having j) vs ≤ total (having j) s.views = λ j. dite (ℕ_discrete j n) (λ e. subst (λ (i : ℕ). total (having i) vs ≤ total (having i) s.views) (sym e) (omega arith)) (λ ne. omega (arith, other-has j ne)) in (
        u,
        gives,
        tt,
        ringed s o (n % queue) (READY n) (set s.homes (n % queue) (some (cargo.Copy x))) vs (length-set s.homes (n % queue) (some (cargo.Copy x)))
            (counts_kept seats items queue (get_or s.words 0 0) c c o.d id s.views v u k at refl refl refl refl (omega arith) k.ordered
            (λ j. omega (arith, fewer j, k.once j)) (λ j h. k.within j (omega (arith, fewer j)))
            (λ j h. dite (ℕ_discrete j n) (λ e. omega arith) (λ ne. k.near j (omega (arith, other-works j ne))))
            (λ j le lt z. dite (ℕ_discrete j n) (λ e. omega arith) (λ ne. k.ready_near j le lt (sym (other-has j ne) ∙ z)))
            (omega (arith, k.one_baton)) tt mine.1 (λ z. absurd (omega arith)) (λ p y ne e h. h))
            (words_left queue c o.d ring (λ p. get_or words' (8 * p + 16) 0) s.views vs o.words n in-range.0 near in-range.1 not-turn here else other-has no-has same-batons same-holders)
            (homes_left room stands fold queue c o.d s.homes s.views vs o.homes n x in-range.0 near some-queue (omega (arith, o.slots)) has-room means other-works (λ j r ne. (r.0, sym (other-has j ne) ∙ r.1)) same-batons),
        ((λ yes. absurd (not-turn yes)), λ _. refl),
      )))

  -- the copied item's object goes home, and the count rises
  pub advances : (slots id n : ℕ) (m : Me (Cargo C S) (View X)) (x : C) (st : Cargo C S) → m.0.phase ≡ Baton n → m.1 ≡ (n % queue, cargo.Copy x) ∷ (queue, st) ∷ [] → room x
      → Allows Rule slots id m 8 (λ _. n + 1) (λ _ t. t ≡ (phased m.0 (Advanced n), (queue, st) ∷ []))
  advances slots id n m x st ph carries has-room s o wide at _ =
      let v = m.0 in
      let c : ℕ = get_or s.words 8 0 in
      let k = o.counts in
      let mine = k.each id v at in
      let at-c : n ≡ c = stays_here c n v.phase ph mine.0 in
      let words' = set s.words 8 (n + 1) in
      let u = phased v (Advanced n) in
      let vs = set s.views id u in
      let has-n : having n v ≡ 1 = ap (has n) ph ∙ is_same n in
      let one : total (having n) s.views ≡ 1 = omega (arith, term_le (having n) s.views id v at, k.once n) in
      let in-range = k.within n (omega arith) in
      let no-has : total (having n) vs ≡ 0 = gone _ _ _ _ (total-set (having n) s.views id v u at) has-n refl (k.once n) in
      let other-has : (j : ℕ) → j ≢ n → total (having j) vs ≡ total (having j) s.views = λ j ne. same_sum _ _ _ _ (total-set (having j) s.views id v u at) (ap (has j) ph ∙ is_other n j (λ e. ne (sym e))) in
      let other-works : (j : ℕ) → j ≢ n → total (working j) vs ≡ total (working j) s.views = λ j ne. same_sum _ _ _ _ (total-set (working j) s.views id v u at) (ap (works j) ph ∙ is_other n j (λ e. ne (sym e))) in
      let no-works : total (working n) vs ≤ total (working n) s.views = omega (arith, total-set (working n) s.views id v u at) in
      let same-batons : total batons vs ≡ total batons s.views = same_sum _ _ _ _ (total-set batons s.views id v u at) (ap baton ph) in
      let my-baton : batons v ≡ 1 = ap baton ph in
      let has-baton : 0 < total batons vs = omega (arith, term_le batons s.views id v at) in
      let part : 0 < v.parts = baton_part v.parts v.drawn v.phase n mine.4 ph in
      let w0 : get_or words' 0 0 ≡ get_or s.words 0 0 = get_or-set_other s.words 8 0 (n + 1) 0 (λ e. omega arith) in
      let w1 : get_or words' 8 0 ≡ c + 1 = get_or-set_same s.words 8 (n + 1) 0 (omega (arith, o.wide)) ∙ ap (λ (i : ℕ). i + 1) at-c in
      let ring : (p : ℕ) → get_or words' (8 * p + 16) 0 ≡ get_or s.words (8 * p + 16) 0 = λ p. get_or-set_other s.words 8 (8 * p + 16) (n + 1) 0 (λ e. omega arith) in
      let place : n % queue ≡ c % queue = ap (λ (i : ℕ). i % queue) at-c in
      let counts : Counts seats items queue (get_or s.words 0 0) (c + 1) o.d vs =
      counts_kept seats items queue (get_or s.words 0 0) c (c + 1) o.d id s.views v u k at refl refl refl refl (omega arith) (omega arith)
      (λ j. dite (ℕ_discrete j n) (λ e. omega (arith, no-has, ap (λ (i : ℕ). total (having i) vs) e)) (λ ne. omega (arith, other-has j ne, k.once j)))
      (λ j h. dite (ℕ_discrete j n) (λ e. absurd (omega (arith, no-has, ap (λ (i : ℕ). total (having i) vs) e))) (λ ne. let w = k.within j (omega (arith, other-has j ne)) in (above c j n w.0 at-c ne, w.1)))
      (λ j h. dite (ℕ_discrete j n) (λ e. omega arith) (λ ne. let w = k.near j (omega (arith, other-works j ne)) in omega arith))
      (λ j le lt z. let ne : j ≢ n = λ e. omega arith in let w = k.ready_near j (omega arith) lt (sym (other-has j ne) ∙ z) in omega arith)
      (omega (arith, k.one_baton)) (omega arith) (omega (arith, mine.1)) (λ z. absurd (omega arith))
      (λ p y ne e h. stays_free c (c + 1) y.phase (omega (arith, terms_le batons s.views id p v y ne at e, k.one_baton))) in
      subst (λ l. Goes words' s id (v, l) (λ t. t ≡ (phased v (Advanced n), (queue, st) ∷ []))) (sym carries) (
        u,
        gives,
        tt,
        record {
          d = o.d;
          wide = length-set s.words 8 (n + 1) ∙ o.wide;
          slots = length-set s.homes (n % queue) (some (cargo.Copy x)) ∙ o.slots;
          counts = subst (λ y. Counts seats items queue y (get_or words' 8 0) o.d vs) (sym w0) (subst (λ y. Counts seats items queue (get_or s.words 0 0) y o.d vs) (sym w1) counts);
          words = subst (λ y. Words queue y o.d (λ p. get_or words' (8 * p + 16) 0) vs) (sym w1)
              (words_advanced queue c o.d (λ p. get_or s.words (8 * p + 16) 0) (λ p. get_or words' (8 * p + 16) 0) s.views vs o.words some-queue ring (λ j le. other-has j (λ e. omega arith)) k.ready_near has-baton);
          homes = subst (λ y. Homes room stands fold queue y o.d (set s.homes (n % queue) (some (cargo.Copy x))) vs) (sym w1) (subst (λ (i : ℕ). Homes room stands fold queue (c + 1) o.d (set s.homes i (some (cargo.Copy x))) vs) (sym place)
              (homes_advanced room stands fold queue c o.d s.homes s.views vs o.homes x some-queue (omega (arith, o.slots)) has-room (λ j ne. other-works j (λ e. ne (e ∙ at-c))) (λ j r ne. (r.0, sym (other-has j (λ e. ne (e ∙ at-c))) ∙ r.1)) k.ready_near has-baton));
        },
        refl,
      )

  abbrev pub Passed : ℕ → Cargo C S → Me (Cargo C S) (View X) → ℕ → Me (Cargo C S) (View X) → Type 0
  Passed n st m r t =
      (r ≡ READY n → (y : C) × room y × stands n y × (n < items) × (t ≡ (phased m.0 (Baton n), (n % queue, cargo.Copy y) ∷ (queue, st) ∷ [])))
      × (r ≢ READY n → t ≡ (phased m.0 Idle, []))

  -- the baton goes on to the next item, which was ready, or it rests there
  pub passes_on : (slots id before n : ℕ) (m : Me (Cargo C S) (View X)) (st : S) → n ≡ before + 1 → m.0.phase ≡ Advanced before → m.1 ≡ (queue, cargo.State st) ∷ [] → st ≡ fold n → Allows Rule slots id m (8 * (n % queue) + 16) (λ _. TURN n) (Passed n (cargo.State st) m)
  passes_on slots id before n m st next ph carries is-fold s o wide at _ =
      let v = m.0 in
      let c : ℕ = get_or s.words 8 0 in
      let k = o.counts in
      let mine = k.each id v at in
      let at-c : n ≡ c = next ∙ advanced_here c before v.phase ph mine.0 in
      let ring : ℕ → ℕ = λ p. get_or s.words (8 * p + 16) 0 in
      let words' = set s.words (8 * (n % queue) + 16) (TURN n) in
      let place : n % queue ≡ c % queue = ap (λ (i : ℕ). i % queue) at-c in
      let here : get_or words' (8 * (c % queue) + 16) 0 ≡ TURN c = ap (λ (i : ℕ). get_or words' (8 * i + 16) 0) (sym place) ∙ (get_or-set_same s.words (8 * (n % queue) + 16) (TURN n) 0 (omega (arith, o.wide)) ∙ ap TURN at-c) in
      let else : (p : ℕ) → p ≢ c % queue → get_or words' (8 * p + 16) 0 ≡ ring p = λ p ne. get_or-set_other s.words (8 * (n % queue) + 16) (8 * p + 16) (TURN n) 0 (λ e. ne (omega arith)) in
      let has-zero : (j : ℕ) → having j v ≡ 0 = λ j. ap (has j) ph in
      let works-zero : (j : ℕ) → working j v ≡ 0 = λ j. ap (works j) ph in
      let my-baton : batons v ≡ 1 = ap baton ph in
      let one-baton : total batons s.views ≡ 1 = omega (arith, term_le batons s.views id v at, k.one_baton) in
      let part : 0 < v.parts = advanced_part v.parts v.drawn v.phase before mine.4 ph in
      subst (λ l. Goes words' s id (v, l) (Passed n (cargo.State st) m (ring (n % queue)))) (sym carries)
      (dite (ℕ_discrete (ring (n % queue)) (READY n))
      (λ found.
      let u = phased v (Baton n) in
      let vs = set s.views id u in
      let found-c : ring (c % queue) ≡ READY c = ap ring (sym place) ∙ (found ∙ ap READY at-c) in
      let is-ready : IsReady o.d s.views c = ⊎_elim (λ r. r) (λ t. absurd (no_holder_beside s.views id v at k.one_baton my-baton (ap holder ph) t.1)) (o.words.only_ready c (omega arith) (omega arith) found-c) in
      let has' : (j : ℕ) → total (having j) vs ≡ total (having j) s.views + is j n = λ j. plus _ _ _ _ _ (total-set (having j) s.views id v u at) (has-zero j) refl in
      let works' : (j : ℕ) → total (working j) vs ≡ total (working j) s.views + is j n = λ j. plus _ _ _ _ _ (total-set (working j) s.views id v u at) (works-zero j) refl in
      let other-has : (j : ℕ) → j ≢ c → total (having j) vs ≡ total (having j) s.views = λ j ne. omega (arith, has' j, is_other n j (λ e. ne (sym e ∙ at-c))) in
      let other-works : (j : ℕ) → j ≢ c → total (working j) vs ≡ total (working j) s.views = λ j ne. omega (arith, works' j, is_other n j (λ e. ne (sym e ∙ at-c))) in
      let one-c : is c n ≡ 1 = ap (is c) at-c ∙ is_same c in
      let has-c : total (having c) vs ≡ 1 = omega (arith, has' c, one-c, is-ready.1) in
      let no-work : total (working c) s.views ≡ 0 = omega (arith, total_le (working c) (having c) s.views (λ j y e. works_has c y.phase), is-ready.1) in
      let works-c : 0 < total (working c) vs = omega (arith, works' c, one-c) in
      let same-batons : total batons vs ≡ total batons s.views = same_sum _ _ _ _ (total-set batons s.views id v u at) my-baton in
      let holder-one : total holders vs ≡ total holders s.views + 1 = plus _ _ _ _ _ (total-set holders s.views id v u at) (ap holder ph) refl in
      let h = o.homes.copies c (omega arith) (omega arith) no-work in
      let sure = h.3 in (
        u,
        takes (n % queue) (cargo.Copy h.0),
        ap (get_elem? s.homes) place ∙ h.1,
        ringed s o (n % queue) (TURN n) (set s.homes (n % queue) none) vs (length-set s.homes (n % queue) none)
            (counts_kept seats items queue (get_or s.words 0 0) c c o.d id s.views v u k at refl refl refl refl (omega arith) k.ordered
            (λ j. dite (ℕ_discrete j c) (λ e. omega (arith, ap (λ (i : ℕ). total (having i) vs) e)) (λ ne. omega (arith, other-has j ne, k.once j)))
            (λ j h. dite (ℕ_discrete j c) (λ e. omega (arith, is-ready.0)) (λ ne. k.within j (omega (arith, other-has j ne))))
            (λ j h. dite (ℕ_discrete j c) (λ e. omega arith) (λ ne. k.near j (omega (arith, other-works j ne))))
            (λ j le lt z. dite (ℕ_discrete j c) (λ e. omega arith) (λ ne. k.ready_near j le lt (sym (other-has j ne) ∙ z)))
            (omega arith) at-c (omega (arith, mine.1)) (λ z. absurd (omega arith)) (λ p y ne e h. h))
            (words_passed queue c o.d ring (λ p. get_or words' (8 * p + 16) 0) s.views vs o.words some-queue here else other-has (omega arith) (omega arith) (omega arith))
            (subst (λ (i : ℕ). Homes room stands fold queue c o.d (set s.homes i none) vs) (sym place)
            (homes_started room stands fold queue c o.d s.homes s.views vs o.homes c (omega arith) (omega arith) some-queue other-works works-c (λ j r ne. (r.0, sym (other-has j ne) ∙ r.1)) same-batons)),
        ((λ _. (h.0, h.2, subst (λ (i : ℕ). stands i h.0) (sym at-c) (sure is-ready), omega (arith, is-ready.0, k.some), refl)), λ no. absurd (no found)),
      ))
      (λ not-ready.
      let u = phased v Idle in
      let vs = set s.views id u in
      let same-has : (j : ℕ) → total (having j) vs ≡ total (having j) s.views = λ j. same_sum _ _ _ _ (total-set (having j) s.views id v u at) (has-zero j) in
      let same-works : (j : ℕ) → total (working j) vs ≡ total (working j) s.views = λ j. same_sum _ _ _ _ (total-set (working j) s.views id v u at) (works-zero j) in
      let no-batons : total batons vs ≡ 0 = gone _ _ _ _ (total-set batons s.views id v u at) my-baton refl k.one_baton in (
        u,
        gives,
        tt,
        ringed s o (n % queue) (TURN n) (set s.homes queue (some (cargo.State st))) vs (length-set s.homes queue (some (cargo.State st)))
            (counts_kept seats items queue (get_or s.words 0 0) c c o.d id s.views v u k at refl refl refl refl (omega arith) k.ordered
            (λ j. omega (arith, same-has j, k.once j)) (λ j h. k.within j (omega (arith, same-has j))) (λ j h. k.near j (omega (arith, same-works j))) (λ j le lt z. k.ready_near j le lt (sym (same-has j) ∙ z))
            (omega arith) tt (omega (arith, mine.1)) (λ z. absurd (omega arith)) (λ p y ne e h. h))
            (words_rest queue c o.d ring (λ p. get_or words' (8 * p + 16) 0) s.views vs o.words some-queue (λ e. not-ready (ap ring place ∙ (e ∙ ap READY (sym at-c)))) here else same-has no-batons)
            (homes_rest room stands fold queue c o.d s.homes s.views vs o.homes st (is-fold ∙ ap fold at-c) some-queue (omega (arith, o.slots)) same-works (λ j r. (r.0, sym (same-has j) ∙ r.1))),
        ((λ yes. absurd (not-ready yes)), λ _. refl),
      )))
