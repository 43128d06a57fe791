-- A table that keeps the rule shows a state in which no object is with two passes.
use Rattle.std.proofs.Common.{◌≡◌, ◌≢◌, ℕ, ◌+◌, ◌<◌, ◌≤◌, [], ◌∷◌, length, get_or, sym, refl, ap, ◌∙◌, arith, Option, None, Some, inl, inr, ⊎_elim}
use Rattle.std.specs.Int.{bit_at}
use Rattle.std.proofs.lemmas.Nat.Bits.{bit_at_ones, bit_at-lt}
use mathlib.Core.Logic.{dite}
use native.Mathlib.Decide.{ℕ_discrete}
use lib.ListN.{get_elem?}
use Rattle.atomic_table.specs.Table.{State}
use Rattle.atomic_table.proofs.Lists.{at_set, at_snoc}
use Rattle.scratch_pool.specs.declared.view.View.{View}
use Rattle.scratch_pool.specs.Machine.{Machine, is_object, holding, HoldsAt, IsFree, IsTaken, IsExclusive, IsNew, dealer, dealing, dealt, splits, Happens}
use Rattle.scratch_pool.specs.Rule.{Pooled, machine}
use Rattle.scratch_pool.specs.Laws.{StatesAreExclusive, StartsNew}
use Rattle.scratch_pool.proofs.Sums.{term_le, terms_le, some_term}
use Rattle.scratch_pool.proofs.Moves.{same_object, other_object, single}

-- who counts as a holder of the object holds it
holder_of : (k : ℕ) (o : Option ℕ) → 0 < is_object k o → o ≡ Some k
holder_of k None h = absurd (omega arith)
holder_of k (Some j) h = dite (ℕ_discrete j k) (λ e. ap Some e) (λ ne. absurd (omega (arith, other_object j k ne)))

at_one : (n : ℕ) → n < 2 → n ≢ 1 → n ≡ 0
at_one n h ne = omega arith

module _ {T : Type 0} (seats : ℕ) (s : State (Option T) View) (o : Pooled seats s) where
  counts_one : (p k : ℕ) (h : HoldsAt k p (machine s)) → holding k h.0 ≡ 1
  counts_one p k h = ap (is_object k) h.2 ∙ same_object k

  lies_within : (p k : ℕ) → HoldsAt k p (machine s) → k < length s.homes
  lies_within p k h = (o.held p h.0 k h.1 h.2).0

  with_one : (p q k : ℕ) → HoldsAt k p (machine s) → HoldsAt k q (machine s) → p ≡ q
  with_one p q k a b = dite (ℕ_discrete q p) (λ e. sym e)
      (λ ne. absurd (omega (arith, terms_le (holding k) s.views p q a.0 b.0 ne a.1 b.1, counts_one p k a, counts_one q k b, o.once k (lies_within p k a))))

  at_home : (k : ℕ) → k < length s.homes → bit_at (get_or s.words 0 0) k ≡ 1 → IsFree k (machine s)
  at_home k lt is-set = (is-set, λ p h. omega (arith, term_le (holding k) s.views p h.0 h.1, counts_one p k h, o.once k lt))

  taken : (k : ℕ) → k < length s.homes → bit_at (get_or s.words 0 0) k ≡ 0 → IsTaken k (machine s)
  taken k lt is-clear =
      let t = some_term (holding k) s.views (omega (arith, o.once k lt)) in
      (is-clear, (t.0, (t.1, t.2, holder_of k t.1.holds t.3)))

  exclusive : IsExclusive (length s.homes) (machine s)
  exclusive = record {
    once = with_one;
    each = λ k lt. dite (ℕ_discrete (bit_at (get_or s.words 0 0) k) 1) (λ e. inl (at_home k lt e)) (λ ne. inr (taken k lt (at_one _ (bit_at-lt (get_or s.words 0 0) k) ne)));
    within = lies_within;
  }

split_new : (objects p : ℕ) (m m' : Machine) → IsNew objects m → Happens (splits p) m m' → IsNew objects m'
split_new objects p m m' o h = record {
  home = λ k lt. ap (λ (n : Machine). bit_at n.bits k) h.3 ∙ o.home k lt;
  idle = λ q v e. ⊎_elim
      (λ old. ⊎_elim (λ t. ap (λ (y : View). y.holds) (sym t.1) ∙ h.2) (λ t. o.idle q v t.1) (at_set m.passes p q (dealing h.0) v old))
      (λ last. ap (λ (y : View). y.holds) (sym last))
      (at_snoc (Rattle.std.proofs.Common.set m.passes p (dealing h.0)) (dealt h.0) v q (sym (ap (λ (n : Machine). get_elem? n.passes q) h.3) ∙ e));
}

module _ {T : Type 0} where
  pub states_are_exclusive : StatesAreExclusive T
  states_are_exclusive seats s o = (exclusive seats s o, o.home)

  pub starts_new : StartsNew T
  starts_new = (
    (λ objects seats slots le. record {
      home = λ k lt. bit_at_ones objects k lt;
      idle = λ p v e. ap (λ (y : View). y.holds) (sym (single (dealer seats) v p e));
    }),
    split_new,
  )
