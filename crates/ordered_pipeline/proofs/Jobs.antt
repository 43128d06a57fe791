-- The steps under the rule of a job.
use Rattle.std.proofs.Common.{◌≡◌, ◌≢◌, ℕ, suc, ◌+◌, ◌%◌, ◌^◌, ◌<◌, List, [], ◌∷◌, ◌++◌, get_or, sym, refl, ap, ◌∙◌, subst, arith, Some, ◌*◌}
use Rattle.atomic_table.specs.Table.{State, Me, Step, step, Allows, rest, carried_after}
use Rattle.ordered_pipeline.specs.declared.view.View.{View}
use Rattle.ordered_pipeline.specs.declared.view.Known.{Known}
use Rattle.ordered_pipeline.specs.declared.view.Cargo.{Cargo}
use Rattle.ordered_pipeline.specs.declared.view.Cargo.TheVariants as cargo
use Rattle.ordered_pipeline.specs.declared.view.Phase.TheVariants.{Idle, Drawn, Started, Baton, Advanced}
use Rattle.ordered_pipeline.specs.declared.rule.Key.{Key}
use Rattle.ordered_pipeline.specs.Machine.{READY, TURN, phased}
use Rattle.ordered_pipeline.specs.Rule.{Kept}
use Rattle.ordered_pipeline.specs.Plays.{Holder, DrewAt, drew, LookedAt, looked, FinishedAt, finished, advanced, PassedAt, passed, Carries}
use Rattle.ordered_pipeline.specs.Fold.{fold}
use Rattle.ordered_pipeline.proofs.Plays.{looks, finishes, advances, passes_on}
use Rattle.ordered_pipeline.proofs.Draws.{draws}

some_same : {A : Type 0} (a b : A) → Some a ≡ Some b → a ≡ b
some_same a b e = cc

-- what is told at one key and number is told at each that the view has
at_both : {A : Type 0} (P : A → ℕ → Type 0) (a b : A) (i j : ℕ) → a ≡ b → i ≡ j → P a i → P b j
at_both P a b i j e f h = subst (λ x. P x j) e (subst (P a) f h)

drawn_same : (a b : ℕ) → Drawn a ≡ Drawn b → a ≡ b
drawn_same a b e = cc

started_same : (a b : ℕ) → Started a ≡ Started b → a ≡ b
started_same a b e = cc

baton_same : (a b : ℕ) → Baton a ≡ Baton b → a ≡ b
baton_same a b e = cc

advanced_same : (a b : ℕ) → Advanced a ≡ Advanced b → a ≡ b
advanced_same a b e = cc

pub held_at : {A : Type 0} (l : List (ℕ × A)) (k k' : ℕ) (x : A) → l ≡ (k, x) ∷ [] → k ≡ k' → l ≡ (k', x) ∷ rest l
held_at l k k' x e same = e ∙ (ap (λ (i : ℕ). (i, x) ∷ []) same ∙ ap (λ m. (k', x) ∷ rest m) (sym e))

pub refilled : {A : Type 0} (l : List (ℕ × A)) (k : ℕ) (x y : A) → l ≡ (k, x) ∷ [] → (k, y) ∷ rest l ≡ (k, y) ∷ []
refilled l k x y e = ap (λ m. (k, y) ∷ rest m) e

pub turned_both : {A : Type 0} (l l1 l2 : List (ℕ × A)) (k q : ℕ) (x y z : A) → l ≡ (k, x) ∷ (q, y) ∷ [] → l1 ≡ (k, z) ∷ rest l → l2 ≡ Rattle.atomic_table.specs.Table.turned l1 → l2 ≡ (q, y) ∷ rest l2
turned_both l l1 l2 k q x y z e f t =
    let all : l2 ≡ (q, y) ∷ (k, z) ∷ [] = t ∙ (ap Rattle.atomic_table.specs.Table.turned f ∙ ap (λ m. rest m ++ (k, z) ∷ []) e) in
    all ∙ ap (λ m. (q, y) ∷ rest m) (sym all)

one_more : (n : ℕ) → n + 1 ≡ suc n
one_more n = omega arith

module _ {J S C : Type 0} (room : J → C → Type 0) (stands : J → ℕ → C → Type 0) (work : J → S → ℕ → S) where
  pub job_draws : (key : Key J S) (slots id : ℕ) (st : Step (Cargo C S)) (m : Holder J S C) → m.0.key.key ≡ Some key → key.items + key.seats + 1 < 2 ^ 64 → m.0.phase ≡ Idle → m.0.overs < m.0.parts
      → Allows (Kept room stands work key) slots id m 0 (λ n. (n + 1) % 2 ^ 64) (drew st m)
  job_draws key slots id st m is-key small ph part s h wide at fits =
      let r = draws key.seats key.items key.queue (room key.job.value) (stands key.job.value) (fold work key.job.value key.state.value) slots id key.items m (λ r. record { key = m.0.key.key; past = r }) refl small ph part s h wide at fits in
      (r.0, r.1, r.2, r.3, λ k f. subst (λ (x : Key J S). DrewAt x m (get_or s.words 0 0) (r.0, carried_after m.1 r.1)) (some_same key k (sym is-key ∙ f)) r.4)

  pub job_looks : (key : Key J S) (slots id n : ℕ) (st : Step (Cargo C S)) (m : Holder J S C) → m.0.key.key ≡ Some key → 0 < key.queue → m.0.phase ≡ Drawn n → m.1 ≡ [] → Allows (Kept room stands work key) slots id m 8 (λ w. w) (looked room st m)
  job_looks key slots id n st m is-key q ph empty s h wide at fits =
      let r = looks key.seats key.items key.queue (room key.job.value) (stands key.job.value) (fold work key.job.value key.state.value) q slots id n key.queue m refl ph empty s h wide at fits in
      (r.0, r.1, r.2, r.3, λ k f i e. at_both (λ x j. LookedAt room x j m (get_or s.words 8 0) (r.0, carried_after m.1 r.1)) key k n i (some_same key k (sym is-key ∙ f)) (drawn_same n i (sym ph ∙ e)) r.4)

  pub job_finishes : (key : Key J S) (slots id n : ℕ) (st : Step (Cargo C S)) (m : Holder J S C) (x : C) → m.0.key.key ≡ Some key → 0 < key.queue → m.0.phase ≡ Started n → m.1 ≡ (n % key.queue, cargo.Copy x) ∷ [] → room key.job.value x → stands key.job.value n x
      → Allows (Kept room stands work key) slots id m (8 * (n % key.queue) + 16) (λ _. READY n) (finished work st m)
  job_finishes key slots id n st m x is-key q ph carries has-room means s h wide at fits =
      let r = finishes key.seats key.items key.queue (room key.job.value) (stands key.job.value) (fold work key.job.value key.state.value) q slots id n m x ph carries has-room means s h wide at fits in (
        r.0,
        r.1,
        r.2,
        r.3,
        λ k f i e. at_both (λ a j. FinishedAt work a j m (get_or s.words (8 * (n % key.queue) + 16) 0) (r.0, carried_after m.1 r.1)) key k n i (some_same key k (sym is-key ∙ f)) (started_same n i (sym ph ∙ e))
            ((λ f. let t = r.4.0 f in (t.0, t.1, t.2 ∙ ap (λ (l : List (ℕ × Cargo C S)). (phased m.0 (Baton n), (key.queue, cargo.State t.0) ∷ l)) (sym carries))), r.4.1),
      )

  pub job_advances : (key : Key J S) (slots id n : ℕ) (st : Step (Cargo C S)) (m : Holder J S C) (x : C) (y : Cargo C S) → m.0.key.key ≡ Some key → 0 < key.queue → m.0.phase ≡ Baton n → m.1 ≡ (n % key.queue, cargo.Copy x) ∷ (key.queue, y) ∷ [] → room key.job.value x
      → Allows (Kept room stands work key) slots id m 8 (λ _. n + 1) (λ _. advanced st m (n + 1))
  job_advances key slots id n st m x y is-key q ph carries has-room s h wide at fits =
      let r = advances key.seats key.items key.queue (room key.job.value) (stands key.job.value) (fold work key.job.value key.state.value) q slots id n m x y ph carries has-room s h wide at fits in (
        r.0,
        r.1,
        r.2,
        r.3,
        λ i e. subst (λ (j : ℕ). ◌≡◌ {A = Holder J S C} (r.0, carried_after m.1 r.1) (phased m.0 (Advanced j), rest m.1)) (baton_same n i (sym ph ∙ e))
            (r.4 ∙ ap (λ (l : List (ℕ × Cargo C S)). (phased m.0 (Advanced n), rest l)) (sym carries)),
      )

  pub job_passes : (key : Key J S) (slots id n : ℕ) (st : Step (Cargo C S)) (m : Holder J S C) (y : S) → m.0.key.key ≡ Some key → 0 < key.queue → m.0.phase ≡ Advanced n → m.1 ≡ (key.queue, cargo.State y) ∷ [] → y ≡ fold work key.job.value key.state.value (n + 1)
      → Allows (Kept room stands work key) slots id m (8 * ((n + 1) % key.queue) + 16) (λ _. TURN (n + 1)) (passed room stands st m)
  job_passes key slots id n st m y is-key q ph carries is-fold s h wide at fits =
      let r = passes_on key.seats key.items key.queue (room key.job.value) (stands key.job.value) (fold work key.job.value key.state.value) q slots id n (n + 1) m y refl ph carries is-fold s h wide at fits in (
        r.0,
        r.1,
        r.2,
        r.3,
        λ k f i e. at_both (λ a j. PassedAt room stands a j m (get_or s.words (8 * ((n + 1) % key.queue) + 16) 0) (r.0, carried_after m.1 r.1)) key k n i (some_same key k (sym is-key ∙ f)) (advanced_same n i (sym ph ∙ e))
            ((λ f. let t = r.4.0 f in (t.0, t.1, t.2, t.3, t.4 ∙ ap (λ (l : List (ℕ × Cargo C S)). (phased m.0 (Baton (n + 1)), ((n + 1) % key.queue, cargo.Copy t.0) ∷ l)) (sym carries))), r.4.1),
      )

  -- with the copy object back in its slot
  pub finish_step : (key : Key J S) (slots id n q : ℕ) (st : Step (Cargo C S)) (old new : Holder J S C) (x : C) → old.0.phase ≡ Started n → old.0.key.key ≡ Some key → old.1 ≡ (n % q, cargo.Out) ∷ [] → key.queue ≡ q → 0 < q
      → new ≡ (old.0, (n % q, cargo.Copy x) ∷ rest old.1) → room key.job.value x → stands key.job.value n x → Allows (Kept room stands work key) slots id new (8 * (n % q) + 16) (λ _. READY n) (finished work st new)
  finish_step key slots id n q st old new x ph is-key carries same-queue some-queue now has-room means =
      subst (λ (i : ℕ). Allows (Kept room stands work key) slots id new (8 * (n % i) + 16) (λ _. READY n) (finished work st new)) same-queue
      (job_finishes key slots id n st new x (ap (λ m. m.0.key.key) now ∙ is-key) (omega arith) (ap (λ m. m.0.phase) now ∙ ph)
      (ap (λ m. m.1) now ∙ (refilled old.1 (n % q) cargo.Out (cargo.Copy x) carries ∙ ap (λ (i : ℕ). (n % i, cargo.Copy x) ∷ []) (sym same-queue))) has-room means)

  -- with the baton: the state is turned behind the copy object
  pub finish_found : (key : Key J S) (n q r : ℕ) (st : Step (Cargo C S)) (old new last turn : Holder J S C) (x : C) → old.0.phase ≡ Started n → old.0.key.key ≡ Some key → old.1 ≡ (n % q, cargo.Out) ∷ [] → key.queue ≡ q
      → new ≡ (old.0, (n % q, cargo.Copy x) ∷ rest old.1) → room key.job.value x → stands key.job.value n x → finished work st new r last → r ≡ TURN n → turn ≡ (last.0, Rattle.atomic_table.specs.Table.turned last.1) → Carries room stands work key n turn × (turn.0 ≡ phased old.0 (Baton n))
  finish_found key n q r st old new last turn x ph is-key carries same-queue now has-room means told e turn-is =
      let ph' : new.0.phase ≡ Started n = ap (λ m. m.0.phase) now ∙ ph in
      let key' : new.0.key.key ≡ Some key = ap (λ m. m.0.key.key) now ∙ is-key in
      let held : new.1 ≡ (n % q, cargo.Copy x) ∷ [] = ap (λ m. m.1) now ∙ refilled old.1 (n % q) cargo.Out (cargo.Copy x) carries in
      let t = (told key key' n ph').0 e in
      let all : turn ≡ (phased new.0 (Baton n), (n % q, cargo.Copy x) ∷ (key.queue, cargo.State t.0) ∷ []) =
      turn-is ∙ (ap (λ (m : Holder J S C). (m.0, Rattle.atomic_table.specs.Table.turned m.1)) t.2 ∙ ap (λ (l : List (ℕ × Cargo C S)). (phased new.0 (Baton n), l ++ (key.queue, cargo.State t.0) ∷ [])) held) in (
        (
          ap (λ m. m.0.phase) all,
          ap (λ m. m.0.key.key) all ∙ key',
          (
            x,
            has-room,
            means,
            ap (λ m. m.1) all ∙ (ap (λ (i : ℕ). (n % i, cargo.Copy x) ∷ (key.queue, cargo.State t.0) ∷ []) (sym same-queue)
                ∙ ap (λ (y : S). (n % key.queue, cargo.Copy x) ∷ (key.queue, cargo.State y) ∷ []) t.1),
          ),
        ),
        ap (λ m. m.0) all ∙ ap (λ (m : Holder J S C). phased m.0 (Baton n)) now,
      )

  pub carried_values : (key : Key J S) (n k q : ℕ) (m : Holder J S C) (a : C) (b : S) → Carries room stands work key n m → m.1 ≡ (k, cargo.Copy a) ∷ (q, cargo.State b) ∷ [] → room key.job.value a × stands key.job.value n a × (b ≡ fold work key.job.value key.state.value n)
  carried_values key n k q m a b h e =
      let both : (n % key.queue, cargo.Copy h.2.0) ∷ (key.queue, cargo.State (fold work key.job.value key.state.value n)) ∷ [] ≡ (k, cargo.Copy a) ∷ (q, cargo.State b) ∷ [] = sym h.2.3 ∙ e in
      let same-copy : h.2.0 ≡ a = copy_of _ _ _ _ _ _ _ _ both in
      (subst (room key.job.value) same-copy h.2.1, subst (stands key.job.value n) same-copy h.2.2, sym (state_of _ _ _ _ _ _ _ _ both))
    where
      copy_of : (k k' q q' : ℕ) (x x' : C) (y y' : S) → ◌≡◌ {A = List (ℕ × Cargo C S)} ((k, cargo.Copy x) ∷ (q, cargo.State y) ∷ []) ((k', cargo.Copy x') ∷ (q', cargo.State y') ∷ []) → x ≡ x'
      copy_of k k' q q' x x' y y' e = let pair : ◌≡◌ {A = ℕ × Cargo C S} (k, cargo.Copy x) (k', cargo.Copy x') = cc in let one : cargo.Copy x ≡ cargo.Copy x' = ap (λ (p : ℕ × Cargo C S). p.1) pair in cc

      state_of : (k k' q q' : ℕ) (x x' : C) (y y' : S) → ◌≡◌ {A = List (ℕ × Cargo C S)} ((k, cargo.Copy x) ∷ (q, cargo.State y) ∷ []) ((k', cargo.Copy x') ∷ (q', cargo.State y') ∷ []) → y ≡ y'
      state_of k k' q q' x x' y y' e = let pair : ◌≡◌ {A = ℕ × Cargo C S} (q, cargo.State y) (q', cargo.State y') = cc in let one : cargo.State y ≡ cargo.State y' = ap (λ (p : ℕ × Cargo C S). p.1) pair in cc

  pub advance_step : (key : Key J S) (slots id n q place : ℕ) (st : Step (Cargo C S)) (m0 m2 m3 : Holder J S C) (l : List (ℕ × Cargo C S)) (a : C) (b b' : S) → Carries room stands work key n m0 → m0.1 ≡ (place, cargo.Copy a) ∷ (q, cargo.State b) ∷ []
      → m2 ≡ (m0.0, l) → m3 ≡ (m2.0, (place, cargo.Copy a) ∷ (q, cargo.State b') ∷ []) → key.queue ≡ q → 0 < q → place ≡ n % q
      → Allows (Kept room stands work key) slots id m3 8 (λ _. n + 1) (λ _. advanced st m3 (n + 1))
  advance_step key slots id n q place st m0 m2 m3 l a b b' h e e2 e3 same-queue some-queue at =
      let whole : m3 ≡ (m0.0, (place, cargo.Copy a) ∷ (q, cargo.State b') ∷ []) = e3 ∙ ap (λ (m : Holder J S C). (m.0, (place, cargo.Copy a) ∷ (q, cargo.State b') ∷ [])) e2 in
      job_advances key slots id n st m3 a (cargo.State b') (ap (λ (m : Holder J S C). m.0.key.key) whole ∙ h.1) (omega arith) (ap (λ (m : Holder J S C). m.0.phase) whole ∙ h.0)
      (ap (λ (m : Holder J S C). m.1) whole ∙ (ap (λ (i : ℕ). (i, cargo.Copy a) ∷ (q, cargo.State b') ∷ []) at ∙ ap (λ (i : ℕ). (n % i, cargo.Copy a) ∷ (i, cargo.State b') ∷ []) (sym same-queue)))
      (carried_values key n place q m0 a b h e).0

  pub pass_step : (key : Key J S) (slots id n q place next : ℕ) (st st' : Step (Cargo C S)) (m0 m2 m3 m4 : Holder J S C) (l : List (ℕ × Cargo C S)) (a : C) (b b' : S) → Carries room stands work key n m0 → m0.1 ≡ (place, cargo.Copy a) ∷ (q, cargo.State b) ∷ []
      → m2 ≡ (m0.0, l) → m3 ≡ (m2.0, (place, cargo.Copy a) ∷ (q, cargo.State b') ∷ []) → key.queue ≡ q → 0 < q → b' ≡ work key.job.value b n → advanced st' m3 (n + 1) m4 → next ≡ (n + 1) % q
      → Allows (Kept room stands work key) slots id m4 (8 * next + 16) (λ _. TURN (n + 1)) (passed room stands st m4)
  pass_step key slots id n q place next st st' m0 m2 m3 m4 l a b b' h e e2 e3 same-queue some-queue stepped told at =
      let whole : m3 ≡ (m0.0, (place, cargo.Copy a) ∷ (q, cargo.State b') ∷ []) = e3 ∙ ap (λ (m : Holder J S C). (m.0, (place, cargo.Copy a) ∷ (q, cargo.State b') ∷ [])) e2 in
      let t = told n (ap (λ (m : Holder J S C). m.0.phase) whole ∙ h.0) in
      let is-fold : b' ≡ fold work key.job.value key.state.value (n + 1) = stepped ∙ (ap (λ (y : S). work key.job.value y n) (carried_values key n place q m0 a b h e).2 ∙ ap (fold work key.job.value key.state.value) (sym (one_more n))) in
      subst (λ (i : ℕ). Allows (Kept room stands work key) slots id m4 (8 * i + 16) (λ _. TURN (n + 1)) (passed room stands st m4)) (ap (λ (i : ℕ). (n + 1) % i) same-queue ∙ sym at)
      (job_passes key slots id n st m4 b' (ap (λ (m : Holder J S C). m.0.key.key) t ∙ (ap (λ (m : Holder J S C). m.0.key.key) whole ∙ h.1)) (omega arith) (ap (λ (m : Holder J S C). m.0.phase) t)
      (ap (λ (m : Holder J S C). m.1) t ∙ (ap (λ (m : Holder J S C). rest m.1) whole ∙ ap (λ (i : ℕ). (i, cargo.State b') ∷ []) (sym same-queue))) is-fold)

  -- with the baton of the next item, or without it
  pub copied_found : (key : Key J S) (n q r place : ℕ) (st st' : Step (Cargo C S)) (m0 m2 m3 m4 m5 : Holder J S C) (l : List (ℕ × Cargo C S)) (a : C) (b b' : S) → Carries room stands work key n m0 → m0.1 ≡ (place, cargo.Copy a) ∷ (q, cargo.State b) ∷ []
      → m2 ≡ (m0.0, l) → m3 ≡ (m2.0, (place, cargo.Copy a) ∷ (q, cargo.State b') ∷ []) → key.queue ≡ q → b' ≡ work key.job.value b n → advanced st' m3 (n + 1) m4 → passed room stands st m4 r m5
      → (r ≡ READY (n + 1) → Carries room stands work key (n + 1) m5 × (n + 1 < key.items) × (m5.0 ≡ phased m0.0 (Baton (n + 1)))) × (r ≢ READY (n + 1) → ◌≡◌ {A = Holder J S C} m5 (phased m0.0 Idle, []))
  copied_found key n q r place st st' m0 m2 m3 m4 m5 l a b b' h e e2 e3 same-queue stepped told told' =
      let whole : m3 ≡ (m0.0, (place, cargo.Copy a) ∷ (q, cargo.State b') ∷ []) = e3 ∙ ap (λ (m : Holder J S C). (m.0, (place, cargo.Copy a) ∷ (q, cargo.State b') ∷ [])) e2 in
      let t4 = told n (ap (λ (m : Holder J S C). m.0.phase) whole ∙ h.0) in
      let is-fold : b' ≡ fold work key.job.value key.state.value (n + 1) = stepped ∙ (ap (λ (y : S). work key.job.value y n) (carried_values key n place q m0 a b h e).2 ∙ ap (fold work key.job.value key.state.value) (sym (one_more n))) in
      let key4 : m4.0.key.key ≡ Some key = ap (λ (m : Holder J S C). m.0.key.key) t4 ∙ (ap (λ (m : Holder J S C). m.0.key.key) whole ∙ h.1) in
      let view4 : m4.0 ≡ phased m0.0 (Advanced n) = ap (λ (m : Holder J S C). m.0) t4 ∙ ap (λ (m : Holder J S C). phased m.0 (Advanced n)) whole in
      let list4 : m4.1 ≡ (key.queue, cargo.State (fold work key.job.value key.state.value (n + 1))) ∷ [] =
      ap (λ (m : Holder J S C). m.1) t4 ∙ (ap (λ (m : Holder J S C). rest m.1) whole ∙ (ap (λ (i : ℕ). (i, cargo.State b') ∷ []) (sym same-queue) ∙ ap (λ (y : S). (key.queue, cargo.State y) ∷ []) is-fold)) in
      let p = told' key key4 n (ap (λ (m : Holder J S C). m.0.phase) t4) in (
        (λ f. let t = p.0 f in (
          (ap (λ (m : Holder J S C). m.0.phase) t.4, ap (λ (m : Holder J S C). m.0.key.key) t.4 ∙ key4, (t.0, t.1, t.2, ap (λ (m : Holder J S C). m.1) t.4 ∙ ap (λ (i : List (ℕ × Cargo C S)). ((n + 1) % key.queue, cargo.Copy t.0) ∷ i) list4)),
          t.3,
          ap (λ (m : Holder J S C). m.0) t.4 ∙ ap (λ (v : View (Known (Key J S))). phased v (Baton (n + 1))) view4,
        )),
        λ f. p.1 f ∙ ap (λ (v : View (Known (Key J S))). (phased v Idle, [])) view4,
      )
