-- What each step on the ring does to the words and the homes.
use Rattle.std.proofs.Common.{◌≡◌, ◌≢◌, ℕ, ◌+◌, ◌*◌, ◌%◌, ◌<◌, ◌≤◌, List, length, set, sym, ap, ◌∙◌, subst, inl, inr, ⊎_elim, arith}
use Rattle.std.proofs.Math.Nat.{add-mul-mod_self_right}
use mathlib.Core.Option.{Option, some, none}
use mathlib.Core.Logic.{dite}
use native.Mathlib.Decide.{ℕ_discrete, dec_le}
use lib.ListN.{get_elem?}
use Rattle.atomic_table.proofs.Lists.{set_here, set_else}
use Rattle.ordered_pipeline.specs.declared.view.View.{View}
use Rattle.ordered_pipeline.specs.declared.view.Cargo.{Cargo}
use Rattle.ordered_pipeline.specs.declared.view.Cargo.TheVariants.{Copy, State}
use Rattle.scratch_pool.specs.Counts.{total}
use Rattle.ordered_pipeline.specs.Rule.{having, working, batons, holders, IsReady, Words, Homes}
use Rattle.ordered_pipeline.specs.Machine.{READY, TURN}
use Rattle.ordered_pipeline.proofs.Keeps.{apart}

times_one : (n : ℕ) → n ≡ 1 * n
times_one n = omega arith

ready_turn : (m n : ℕ) → READY m ≡ TURN n → ⊥
ready_turn m n e = omega arith

turn_ready : (m n : ℕ) → TURN m ≡ READY n → ⊥
turn_ready m n e = omega arith

module _ {X : Type 0} (queue c d : ℕ) (ring ring' : ℕ → ℕ) (views views' : List (View X)) (o : Words queue c d ring views) where
  -- the pass of n = c takes the baton that rests
  pub words_taken : (n : ℕ) → n ≡ c → 0 < queue → ring' (n % queue) ≡ READY n → ((p : ℕ) → p ≢ n % queue → ring' p ≡ ring p)
      → ((m : ℕ) → total (having m) views' ≡ total (having m) views) → total (having n) views ≡ 1 → 0 < total batons views' → 0 < total holders views' → Words queue c d ring' views'
  words_taken n at-c some-queue here else same mine has-baton has-holder =
      let far : (m : ℕ) → c ≤ m → m < c + queue → m ≢ n → ring' (m % queue) ≡ ring (m % queue) = λ m le lt ne. else (m % queue) (apart c queue m n le lt (omega arith) (omega arith) ne) in
      record {
        ready = λ m le lt r. dite (ℕ_discrete m n) (λ e. absurd (omega (arith, r.1, same m, mine, ap (λ (i : ℕ). total (having i) views) e))) (λ ne. far m le lt ne ∙ o.ready m le lt (r.0, sym (same m) ∙ r.1));
        only_ready = λ m le lt e. dite (ℕ_discrete m n) (λ is-n. inr (is-n ∙ at-c, has-holder)) (λ ne. ⊎_elim (λ r. inl (r.0, same m ∙ r.1)) (λ t. inr (t.0, has-holder)) (o.only_ready m le lt (sym (far m le lt ne) ∙ e)));
        only_turn = λ m le lt e. dite (ℕ_discrete m n)
            (λ is-n. absurd (ready_turn n m (sym here ∙ (ap (λ (i : ℕ). ring' (i % queue)) (sym is-n) ∙ e))))
            (λ ne. ((o.only_turn m le lt (sym (far m le lt ne) ∙ e)).0, inr has-holder));
        rests = λ z. absurd (omega arith);
        below = λ p lt. dite (ℕ_discrete p (n % queue)) (λ e. subst (λ x. x < READY (c + queue)) (sym (ap ring' e ∙ here)) (omega arith)) (λ ne. subst (λ x. x < READY (c + queue)) (sym (else p ne)) (o.below p lt));
      }

  -- the pass of n leaves it ready
  pub words_left : (n : ℕ) → c ≤ n → n < c + queue → n < d → ring (n % queue) ≢ TURN n → ring' (n % queue) ≡ READY n → ((p : ℕ) → p ≢ n % queue → ring' p ≡ ring p)
      → ((m : ℕ) → m ≢ n → total (having m) views' ≡ total (having m) views) → total (having n) views' ≡ 0 → total batons views' ≡ total batons views → total holders views' ≡ total holders views → Words queue c d ring' views'
  words_left n le-n lt-n drawn not-turn here else same none-left same-batons same-holders =
      let far : (m : ℕ) → c ≤ m → m < c + queue → m ≢ n → ring' (m % queue) ≡ ring (m % queue) = λ m le lt ne. else (m % queue) (apart c queue m n le lt le-n lt-n ne) in
      record {
        ready = λ m le lt r. dite (ℕ_discrete m n) (λ e. ap (λ (i : ℕ). ring' (i % queue)) e ∙ (here ∙ ap READY (sym e))) (λ ne. far m le lt ne ∙ o.ready m le lt (r.0, sym (same m ne) ∙ r.1));
        only_ready = λ m le lt e. dite (ℕ_discrete m n) (λ is-n. inl (omega arith, ap (λ (i : ℕ). total (having i) views') is-n ∙ none-left))
            (λ ne. ⊎_elim (λ r. inl (r.0, same m ne ∙ r.1)) (λ t. inr (t.0, subst (λ x. 0 < x) (sym same-holders) t.1)) (o.only_ready m le lt (sym (far m le lt ne) ∙ e)));
        only_turn = λ m le lt e. dite (ℕ_discrete m n)
            (λ is-n. absurd (ready_turn n m (sym here ∙ (ap (λ (i : ℕ). ring' (i % queue)) (sym is-n) ∙ e))))
            (λ ne. let t = o.only_turn m le lt (sym (far m le lt ne) ∙ e) in (t.0, ⊎_elim (λ z. inl (same-batons ∙ z)) (λ z. inr (subst (λ x. 0 < x) (sym same-holders) z)) t.1));
        rests = λ z. let t = o.rests (sym same-batons ∙ z) in let no = t.1 in
            dite (ℕ_discrete c n)
            (λ e. absurd (not-turn (ap (λ (i : ℕ). ring (i % queue)) (sym e) ∙ (t.0 ∙ ap TURN e))))
            (λ ne. (far c (omega arith) (omega arith) ne ∙ t.0, λ r. no (r.0, sym (same c ne) ∙ r.1)));
        below = λ p lt. dite (ℕ_discrete p (n % queue)) (λ e. subst (λ x. x < READY (c + queue)) (sym (ap ring' e ∙ here)) (omega arith)) (λ ne. subst (λ x. x < READY (c + queue)) (sym (else p ne)) (o.below p lt));
      }

  -- the count goes from c to c + 1
  pub words_advanced : 0 < queue → ((p : ℕ) → ring' p ≡ ring p) → ((m : ℕ) → c + 1 ≤ m → total (having m) views' ≡ total (having m) views) → ((m : ℕ) → c ≤ m → m < d → total (having m) views ≡ 0 → m < c + queue) → 0 < total batons views' → Words queue (c + 1) d ring' views'
  words_advanced some-queue same-ring same near has-baton = record {
    ready = λ m le lt r. let r' : IsReady d views m = (r.0, sym (same m le) ∙ r.1) in let in-old : m < c + queue = near m (omega arith) r.0 r'.1 in same-ring (m % queue) ∙ o.ready m (omega arith) in-old r';
    only_ready = λ m le lt e. dite (dec_le (c + queue) m)
        (λ high. absurd (too_high m high (sym (same-ring (m % queue)) ∙ e)))
        (λ low. ⊎_elim (λ r. inl (r.0, same m le ∙ r.1)) (λ t. absurd (omega (arith, t.0))) (o.only_ready m (omega arith) (omega arith) (sym (same-ring (m % queue)) ∙ e)));
    only_turn = λ m le lt e. dite (dec_le (c + queue) m)
        (λ high. absurd (turn_high m high (sym (same-ring (m % queue)) ∙ e)))
        (λ low. absurd (omega (arith, (o.only_turn m (omega arith) (omega arith) (sym (same-ring (m % queue)) ∙ e)).0)));
    rests = λ z. absurd (omega arith);
    below = λ p lt. let b = o.below p lt in subst (λ x. x < READY (c + 1 + queue)) (sym (same-ring p)) (omega arith);
  }
    where
      in_ring : (m : ℕ) → c + queue ≤ m → 0 < queue → ring (m % queue) < READY (c + queue)
      in_ring m high q = o.below (m % queue) (omega arith)

      too_high : (m : ℕ) → c + queue ≤ m → ring (m % queue) ≡ READY m → ⊥
      too_high m high e = omega (arith, in_ring m high some-queue)

      turn_high : (m : ℕ) → c + queue ≤ m → ring (m % queue) ≡ TURN m → ⊥
      turn_high m high e = omega (arith, in_ring m high some-queue)

  -- the baton goes to c, which was ready
  pub words_passed : 0 < queue → ring' (c % queue) ≡ TURN c → ((p : ℕ) → p ≢ c % queue → ring' p ≡ ring p) → ((m : ℕ) → m ≢ c → total (having m) views' ≡ total (having m) views) → 0 < total (having c) views' → 0 < total batons views' → 0 < total holders views' → Words queue c d ring' views'
  words_passed some-queue here else same mine has-baton has-holder =
      let far : (m : ℕ) → c ≤ m → m < c + queue → m ≢ c → ring' (m % queue) ≡ ring (m % queue) = λ m le lt ne. else (m % queue) (apart c queue m c le lt (omega arith) (omega arith) ne) in
      record {
        ready = λ m le lt r. dite (ℕ_discrete m c) (λ e. absurd (omega (arith, r.1, mine, ap (λ (i : ℕ). total (having i) views') e))) (λ ne. far m le lt ne ∙ o.ready m le lt (r.0, sym (same m ne) ∙ r.1));
        only_ready = λ m le lt e. dite (ℕ_discrete m c) (λ is-c. inr (is-c, has-holder)) (λ ne. ⊎_elim (λ r. inl (r.0, same m ne ∙ r.1)) (λ t. inr (t.0, has-holder)) (o.only_ready m le lt (sym (far m le lt ne) ∙ e)));
        only_turn = λ m le lt e. dite (ℕ_discrete m c) (λ is-c. (is-c, inr has-holder)) (λ ne. ((o.only_turn m le lt (sym (far m le lt ne) ∙ e)).0, inr has-holder));
        rests = λ z. absurd (omega arith);
        below = λ p lt. dite (ℕ_discrete p (c % queue)) (λ e. subst (λ x. x < READY (c + queue)) (sym (ap ring' e ∙ here)) (omega arith)) (λ ne. subst (λ x. x < READY (c + queue)) (sym (else p ne)) (o.below p lt));
      }

  -- the baton rests at c, which is not ready
  pub words_rest : 0 < queue → ring (c % queue) ≢ READY c → ring' (c % queue) ≡ TURN c → ((p : ℕ) → p ≢ c % queue → ring' p ≡ ring p) → ((m : ℕ) → total (having m) views' ≡ total (having m) views) → total batons views' ≡ 0 → Words queue c d ring' views'
  words_rest some-queue not-ready here else same no-baton =
      let far : (m : ℕ) → c ≤ m → m < c + queue → m ≢ c → ring' (m % queue) ≡ ring (m % queue) = λ m le lt ne. else (m % queue) (apart c queue m c le lt (omega arith) (omega arith) ne) in
      let never : IsReady d views' c → ⊥ = λ r. not-ready (o.ready c (omega arith) (omega arith) (r.0, sym (same c) ∙ r.1)) in
      record {
        ready = λ m le lt r. dite (ℕ_discrete m c) (λ e. absurd (never (subst (IsReady d views') e r))) (λ ne. far m le lt ne ∙ o.ready m le lt (r.0, sym (same m) ∙ r.1));
        only_ready = λ m le lt e. dite (ℕ_discrete m c) (λ is-c. absurd (turn_ready c m (sym here ∙ (ap (λ (i : ℕ). ring' (i % queue)) (sym is-c) ∙ e))))
            (λ ne. ⊎_elim (λ r. inl (r.0, same m ∙ r.1)) (λ t. absurd (ne t.0)) (o.only_ready m le lt (sym (far m le lt ne) ∙ e)));
        only_turn = λ m le lt e. dite (ℕ_discrete m c) (λ is-c. (is-c, inl no-baton)) (λ ne. ((o.only_turn m le lt (sym (far m le lt ne) ∙ e)).0, inl no-baton));
        rests = λ z. (here, never);
        below = λ p lt. dite (ℕ_discrete p (c % queue)) (λ e. subst (λ x. x < READY (c + queue)) (sym (ap ring' e ∙ here)) (omega arith)) (λ ne. subst (λ x. x < READY (c + queue)) (sym (else p ne)) (o.below p lt));
      }

module _ {X C S : Type 0} (room : C → Type 0) (stands : ℕ → C → Type 0) (fold : ℕ → S) (queue c d : ℕ) (homes : List (Option (Cargo C S))) (views views' : List (View X)) (o : Homes room stands fold queue c d homes views) where
  -- the copy object of n goes out
  pub homes_started : (n : ℕ) → c ≤ n → n < c + queue → 0 < queue → ((m : ℕ) → m ≢ n → total (working m) views' ≡ total (working m) views) → 0 < total (working n) views'
      → ((m : ℕ) → IsReady d views' m → m ≢ n → IsReady d views m) → total batons views' ≡ total batons views → Homes room stands fold queue c d (set homes (n % queue) none) views'
  homes_started n le-n lt-n some-queue same mine back same-batons = record {
    copies = λ m le lt z. dite (ℕ_discrete m n) (λ e. absurd (omega (arith, mine, z, ap (λ (i : ℕ). total (working i) views') e)))
        (λ ne. let h = o.copies m le lt (sym (same m ne) ∙ z) in let sure = h.3 in (h.0, set_else homes (n % queue) (m % queue) none (apart c queue m n le lt le-n lt-n ne) ∙ h.1, h.2, λ r. sure (back m r ne)));
    state = λ z. set_else homes (n % queue) queue none (λ e. omega arith) ∙ o.state (sym same-batons ∙ z);
  }

  -- the copy object of n comes home
  pub homes_left : (n : ℕ) (x : C) → c ≤ n → n < c + queue → 0 < queue → n % queue < length homes → room x → stands n x → ((m : ℕ) → m ≢ n → total (working m) views' ≡ total (working m) views)
      → ((m : ℕ) → IsReady d views' m → m ≢ n → IsReady d views m) → total batons views' ≡ total batons views → Homes room stands fold queue c d (set homes (n % queue) (some (Copy x))) views'
  homes_left n x le-n lt-n some-queue long has-room means same back same-batons = record {
    copies = λ m le lt z. dite (ℕ_discrete m n)
        (λ e. subst (λ (i : ℕ). (y : C) × (get_elem? (set homes (n % queue) (some (Copy x))) (i % queue) ≡ some (some (Copy y))) × room y × (IsReady d views' i → stands i y)) (sym e) (x, set_here homes (n % queue) (some (Copy x)) long, has-room, λ _. means))
        (λ ne. let h = o.copies m le lt (sym (same m ne) ∙ z) in let sure = h.3 in (h.0, set_else homes (n % queue) (m % queue) (some (Copy x)) (apart c queue m n le lt le-n lt-n ne) ∙ h.1, h.2, λ r. sure (back m r ne)));
    state = λ z. set_else homes (n % queue) queue (some (Copy x)) (λ e. omega arith) ∙ o.state (sym same-batons ∙ z);
  }

  -- the state goes out
  pub homes_taken : 0 < queue → ((m : ℕ) → total (working m) views' ≡ total (working m) views) → ((m : ℕ) → IsReady d views' m → IsReady d views m) → 0 < total batons views' → Homes room stands fold queue c d (set homes queue none) views'
  homes_taken some-queue same back has-baton = record {
    copies = λ m le lt z. let h = o.copies m le lt (sym (same m) ∙ z) in let sure = h.3 in (h.0, set_else homes queue (m % queue) none (λ e. omega arith) ∙ h.1, h.2, λ r. sure (back m r));
    state = λ z. absurd (omega arith);
  }

  -- the state comes home
  pub homes_rest : (st : S) → st ≡ fold c → 0 < queue → queue < length homes → ((m : ℕ) → total (working m) views' ≡ total (working m) views) → ((m : ℕ) → IsReady d views' m → IsReady d views m) → Homes room stands fold queue c d (set homes queue (some (State st))) views'
  homes_rest st is-fold some-queue long same back = record {
    copies = λ m le lt z. let h = o.copies m le lt (sym (same m) ∙ z) in let sure = h.3 in (h.0, set_else homes queue (m % queue) (some (State st)) (λ e. omega arith) ∙ h.1, h.2, λ r. sure (back m r));
    state = λ z. set_here homes queue (some (State st)) long ∙ ap (λ (y : S). some (some (State y))) is-fold;
  }

  -- the copy object of c comes home, and the count goes to c + 1
  pub homes_advanced : (x : C) → 0 < queue → c % queue < length homes → room x → ((m : ℕ) → m ≢ c → total (working m) views' ≡ total (working m) views)
      → ((m : ℕ) → IsReady d views' m → m ≢ c → IsReady d views m) → ((m : ℕ) → c ≤ m → m < d → total (having m) views ≡ 0 → m < c + queue) → 0 < total batons views'
      → Homes room stands fold queue (c + 1) d (set homes (c % queue) (some (Copy x))) views'
  homes_advanced x some-queue long has-room same back near has-baton = record {
    copies = λ m le lt z. dite (dec_le (c + queue) m)
        (λ high. let is-next : m ≡ c + queue = omega arith in let place : m % queue ≡ c % queue = ap (λ (i : ℕ). i % queue) is-next ∙ around in
        (x, ap (get_elem? (set homes (c % queue) (some (Copy x)))) place ∙ set_here homes (c % queue) (some (Copy x)) long, has-room, λ r. let r' = back m r (λ e. omega arith) in absurd (omega (arith, near m (omega arith) r'.0 r'.1))))
        (λ low. let ne : m ≢ c = λ e. omega arith in let h = o.copies m (omega arith) (omega arith) (sym (same m ne) ∙ z) in let sure = h.3 in
        (h.0, set_else homes (c % queue) (m % queue) (some (Copy x)) (apart c queue m c (omega arith) (omega arith) (omega arith) (omega arith) ne) ∙ h.1, h.2, λ r. sure (back m r ne)));
    state = λ z. absurd (omega arith);
  }
    where
      around : (c + queue) % queue ≡ c % queue
      around = ap (λ (i : ℕ). (c + i) % queue) (times_one queue) ∙ add-mul-mod_self_right c 1 queue
