-- Facts on one view that changes, and on what stays.
use Rattle.std.proofs.Common.{◌≡◌, ◌≢◌, ℕ, ◌+◌, ◌%◌, ◌<◌, List, cond, sym, refl, ap, ◌∙◌, subst, inl, inr, ⊎_elim, arith, eq-eqb, ne_eqb}
use mathlib.Core.Option.{Option}
use Rattle.ordered_pipeline.specs.declared.view.View.{View}
use Rattle.ordered_pipeline.specs.declared.view.Cargo.{Cargo}
use Rattle.scratch_pool.specs.Counts.{total}
use Rattle.ordered_pipeline.specs.Rule.{is, working, batons, holders, IsReady, Words, Homes}
use Rattle.ordered_pipeline.specs.Machine.{READY}

pub is_same : (n : ℕ) → is n n ≡ 1
is_same n = ap (λ b. cond b 1 0) (eq-eqb n n refl)

pub is_other : (m n : ℕ) → m ≢ n → is n m ≡ 0
is_other m n ne = ap (λ b. cond b 1 0) (ne_eqb m n ne)

pub same_sum : (t t' a b : ℕ) → t' + a ≡ t + b → a ≡ b → t' ≡ t
same_sum t t' a b e h = omega arith

module _ {X : Type 0} where
  -- the same numbers are ready, the baton is as it was, and so are the ring's words
  pub words_same : (queue c d d' : ℕ) (ring ring' : ℕ → ℕ) (views views' : List (View X)) → Words queue c d ring views
      → ((n : ℕ) → IsReady d' views' n → IsReady d views n) → ((n : ℕ) → IsReady d views n → IsReady d' views' n)
      → total batons views' ≡ total batons views → total holders views' ≡ total holders views → ((p : ℕ) → ring' p ≡ ring p) → Words queue c d' ring' views'
  words_same queue c d d' ring ring' views views' o back on same-batons same-holders same = record {
    ready = λ n le lt r. same (n % queue) ∙ o.ready n le lt (back n r);
    only_ready = λ n le lt e. ⊎_elim (λ r. inl (on n r)) (λ t. inr (t.0, subst (λ x. 0 < x) (sym same-holders) t.1)) (o.only_ready n le lt (sym (same (n % queue)) ∙ e));
    only_turn = λ n le lt e. let t = o.only_turn n le lt (sym (same (n % queue)) ∙ e) in (t.0, ⊎_elim (λ z. inl (same-batons ∙ z)) (λ z. inr (subst (λ x. 0 < x) (sym same-holders) z)) t.1);
    rests = λ z. let t = o.rests (sym same-batons ∙ z) in let no = t.1 in (same (c % queue) ∙ t.0, λ r. no (back c r));
    below = λ p lt. subst (λ x. x < READY (c + queue)) (sym (same p)) (o.below p lt);
  }

  pub homes_same : {C S : Type 0} (room : C → Type 0) (stands : ℕ → C → Type 0) (fold : ℕ → S) (queue c d d' : ℕ) (homes : List (Option (Cargo C S))) (views views' : List (View X)) → Homes room stands fold queue c d homes views
      → ((n : ℕ) → IsReady d' views' n → IsReady d views n) → total batons views' ≡ total batons views → ((n : ℕ) → total (working n) views' ≡ total (working n) views) → Homes room stands fold queue c d' homes views'
  homes_same room stands fold queue c d d' homes views views' o back same-batons same-works = record {
    copies = λ n le lt z. let h = o.copies n le lt (sym (same-works n) ∙ z) in let sure = h.3 in (h.0, h.1, h.2, λ r. sure (back n r));
    state = λ z. o.state (sym same-batons ∙ z);
  }
