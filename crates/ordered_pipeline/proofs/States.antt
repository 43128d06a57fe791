-- A table that keeps the rule shows a state in which no item, no copy object and no baton is with two passes.
use Rattle.std.proofs.Common.{◌≡◌, ℕ, ◌+◌, ◌*◌, ◌%◌, ◌<◌, ◌≤◌, ◌⊎◌, min, List, get_or, set, sym, refl, ap, ◌∙◌, inl, inr, ⊎_elim, arith, None, Some}
use mathlib.Core.Logic.{dite}
use mathlib.Core.Option.{some}
use native.Mathlib.Decide.{ℕ_discrete, dec_le}
use lib.ListN.{get_elem?}
use Rattle.atomic_table.specs.Table.{State}
use Rattle.atomic_table.proofs.Lists.{at_set, at_snoc}
use Rattle.ordered_pipeline.specs.declared.view.View.{View}
use Rattle.ordered_pipeline.specs.declared.view.Known.{Known}
use Rattle.ordered_pipeline.specs.declared.view.Cargo.{Cargo}
use Rattle.ordered_pipeline.specs.declared.view.Phase.{Phase}
use Rattle.ordered_pipeline.specs.declared.view.Phase.TheVariants.{Idle, Drawn, Started, Baton, Advanced}
use Rattle.ordered_pipeline.specs.declared.rule.Key.{Key}
use Rattle.scratch_pool.specs.Counts.{total}
use Rattle.scratch_pool.proofs.Sums.{term_le, terms_le, some_term}
use Rattle.ordered_pipeline.specs.Machine.{Machine, READY, item_of, copies_of, baton_of, Has, Waits, IsNear, IsOrdered, IsNew, dealing, dealt, splits, Happens}
use Rattle.ordered_pipeline.specs.Rule.{is, has, works, baton, having, working, batons, StaysAt, Kept, machine, first_view}
use Rattle.ordered_pipeline.specs.Laws.{StatesAreOrdered, StartsNew}
use Rattle.ordered_pipeline.proofs.Phases.{is_same, is_other}
use Rattle.ordered_pipeline.proofs.Keeps.{apart, works_has}
use Rattle.ordered_pipeline.proofs.Ends.{single, zero_odd, zero_turn}
use Rattle.ordered_pipeline.proofs.Slotted.{first_words, words_turn, words_else}

some_same : (a b : ℕ) → Some a ≡ Some b → a ≡ b
some_same a b e = cc

none_some : (n : ℕ) → None ≡ Some n → ⊥
none_some n e = cc

-- who has an item is counted for it, or has just copied it
counts_or_copied : (n c : ℕ) (p : Phase) → item_of p ≡ Some n → StaysAt c p → (has n p ≡ 1) ⊎ ((baton p ≡ 1) × (n + 1 ≡ c))
counts_or_copied n c Idle e s = absurd (none_some n e)
counts_or_copied n c (Drawn m) e s = inl (ap (is n) (some_same m n e) ∙ is_same n)
counts_or_copied n c (Started m) e s = inl (ap (is n) (some_same m n e) ∙ is_same n)
counts_or_copied n c (Baton m) e s = inl (ap (is n) (some_same m n e) ∙ is_same n)
counts_or_copied n c (Advanced m) e s = inr (refl, omega (arith, some_same m n e, s))

same_of : (m n : ℕ) → 0 < is n m → m ≡ n
same_of m n h = dite (ℕ_discrete m n) (λ e. e) (λ ne. absurd (omega (arith, is_other m n ne)))

has_item : (n : ℕ) (p : Phase) → 0 < has n p → item_of p ≡ Some n
has_item n Idle h = absurd (omega arith)
has_item n (Drawn m) h = ap Some (same_of m n h)
has_item n (Started m) h = ap Some (same_of m n h)
has_item n (Baton m) h = ap Some (same_of m n h)
has_item n (Advanced m) h = absurd (omega arith)

works_one : (n : ℕ) (p : Phase) → copies_of p ≡ Some n → works n p ≡ 1
works_one n Idle e = absurd (none_some n e)
works_one n (Drawn m) e = absurd (none_some n e)
works_one n (Started m) e = ap (is n) (some_same m n e) ∙ is_same n
works_one n (Baton m) e = ap (is n) (some_same m n e) ∙ is_same n
works_one n (Advanced m) e = absurd (none_some n e)

baton_one : (n : ℕ) (p : Phase) → baton_of p ≡ Some n → baton p ≡ 1
baton_one n Idle e = absurd (none_some n e)
baton_one n (Drawn m) e = absurd (none_some n e)
baton_one n (Started m) e = absurd (none_some n e)
baton_one n (Baton m) e = refl
baton_one n (Advanced m) e = refl

-- n is below a bound, and behind it nothing is drawn
drawn_all : (next items d overs n : ℕ) → next ≡ d + overs → d ≤ items → (d < items → overs ≡ 0) → n < min next items → n < d
drawn_all next items d overs n e le f lt = dite (dec_le items d) (λ h. omega arith) (λ no. let z = f (omega arith) in omega arith)

module _ {J S C : Type 0} (room : J → C → Type 0) (stands : J → ℕ → C → Type 0) (step : J → S → ℕ → S) (key : Key J S) (s : State (Cargo C S) (View (Known (Key J S)))) (o : Kept room stands step key s) where
  abbrev shown : Machine (Known (Key J S))
  shown = machine s

  counted : (p n : ℕ) (h : Has item_of n p shown) → (has n h.0.phase ≡ 1) ⊎ ((baton h.0.phase ≡ 1) × (n + 1 ≡ get_or s.words 8 0))
  counted p n h = counts_or_copied n (get_or s.words 8 0) h.0.phase h.2 (o.counts.each p h.0 h.1).0

  -- a number that is counted is not copied
  not_copied : (p n : ℕ) (v : View (Known (Key J S))) → get_elem? s.views p ≡ some v → has n v.phase ≡ 1 → get_or s.words 8 0 ≤ n
  not_copied p n v at one = (o.counts.within n (omega (arith, term_le (having n) s.views p v at))).0

  once : (p q n : ℕ) → Has item_of n p shown → Has item_of n q shown → p ≡ q
  once p q n a b = dite (ℕ_discrete q p) (λ e. sym e) (λ ne. absurd (⊎_elim
      (λ x. ⊎_elim
      (λ y. omega (arith, terms_le (having n) s.views p q a.0 b.0 ne a.1 b.1, o.counts.once n))
      (λ y. omega (arith, not_copied p n a.0 a.1 x, y.1))
      (counted q n b))
      (λ x. ⊎_elim
      (λ y. omega (arith, not_copied q n b.0 b.1 y, x.1))
      (λ y. omega (arith, terms_le batons s.views p q a.0 b.0 ne a.1 b.1, o.counts.one_baton, x.0, y.0))
      (counted q n b))
      (counted p n a)))

  bounded : (p n : ℕ) → Has copies_of n p shown → IsNear key.queue n shown
  bounded p n h =
      let one : works n h.0.phase ≡ 1 = works_one n h.0.phase h.2 in
      let some-work : 0 < total (working n) s.views = omega (arith, term_le (working n) s.views p h.0 h.1) in
      let some-has : 0 < total (having n) s.views = omega (arith, term_le (having n) s.views p h.0 h.1, works_has n h.0.phase) in
      ((o.counts.within n some-has).0, o.counts.near n some-work)

  none_has : (n : ℕ) → ((p : ℕ) → Has item_of n p shown → ⊥) → total (having n) s.views ≡ 0
  none_has n without = dite (ℕ_discrete (total (having n) s.views) 0) (λ e. e)
      (λ ne. let t = some_term (having n) s.views (omega arith) in absurd (without t.0 (t.1, t.2, has_item n t.1.phase t.3)))

  waiting : (n : ℕ) → Waits key.items n shown → IsNear key.queue n shown × (shown.ring (n % key.queue) ≡ READY n)
  waiting n h =
      let k = o.counts in
      let below : n < o.d = drawn_all (get_or s.words 0 0) key.items o.d _ n k.split k.some k.all h.1 in
      let none = none_has n h.2 in
      let near : n < get_or s.words 8 0 + key.queue = k.ready_near n h.0 below none in
      ((h.0, near), o.words.ready n h.0 near (below, none))

  apart_places : (p q n k : ℕ) → Has copies_of n p shown → Has copies_of k q shown → n % key.queue ≡ k % key.queue → p ≡ q
  apart_places p q n k a b same = dite (ℕ_discrete n k)
      (λ e. dite (ℕ_discrete q p) (λ e'. sym e') (λ ne. absurd (omega (
        arith,
        terms_le (having n) s.views p q a.0 b.0 ne a.1 b.1,
        o.counts.once n,
        works_has n a.0.phase,
        works_has n b.0.phase,
        works_one n a.0.phase a.2,
        works_one n b.0.phase (b.2 ∙ ap Some (sym e)),
      ))))
      (λ ne. let near = bounded p n a in let near' = bounded q k b in absurd (apart (get_or s.words 8 0) key.queue n k near.0 near.1 near'.0 near'.1 ne same))

  one_baton : (p q n k : ℕ) → Has baton_of n p shown → Has baton_of k q shown → p ≡ q
  one_baton p q n k a b = dite (ℕ_discrete q p) (λ e. sym e)
      (λ ne. absurd (omega (arith, terms_le batons s.views p q a.0 b.0 ne a.1 b.1, baton_one n a.0.phase a.2, baton_one k b.0.phase b.2, o.counts.one_baton)))

  ordered : IsOrdered key.items key.queue shown
  ordered = record {
    once = once;
    bounded = bounded;
    waiting = waiting;
    apart = apart_places;
    one_baton = one_baton;
    seen_below = λ p v at. (o.counts.each p v at).1;
  }

pub states_are_ordered : {J S C : Type 0} (room : J → C → Type 0) (stands : J → ℕ → C → Type 0) (step : J → S → ℕ → S) → StatesAreOrdered room stands step
states_are_ordered room stands step key s o = ordered room stands step key s o

pub starts_new : {J S C : Type 0} → StartsNew J S C
starts_new {J} {S} {C} = (new_table, split_new)
  where
    new_table : (key : Key J S) (slots : List (Cargo C S)) → 0 < key.queue → IsNew (machine (Rattle.atomic_table.specs.Table.opening (first_words key.queue) slots (first_view key)))
    new_table key slots some-queue = record {
      none_drawn = words_else key.queue 0 (λ e. omega arith);
      none_copied = words_else key.queue 8 (λ e. omega arith);
      baton = words_turn key.queue some-queue;
      words = λ j n lt. let zero-word = words_else key.queue (8 * j + 16) (λ e. omega arith) in ((λ e. zero_odd n (sym zero-word ∙ e)), (λ e. zero_turn n (sym zero-word ∙ e)));
      idle = λ p v e. ap (λ (y : View (Known (Key J S))). y.phase) (sym (single (first_view key) v p e));
    }

    split_new : (items queue p : ℕ) (m m' : Machine (Known (Key J S))) → IsNew m → Happens items queue (splits p) m m' → IsNew m'
    split_new items queue p m m' o h = record {
      none_drawn = ap (λ (n : Machine (Known (Key J S))). n.next) h.3 ∙ o.none_drawn;
      none_copied = ap (λ (n : Machine (Known (Key J S))). n.copied) h.3 ∙ o.none_copied;
      baton = ap (λ (n : Machine (Known (Key J S))). n.ring 0) h.3 ∙ o.baton;
      words = λ j n lt. let same = ap (λ (i : Machine (Known (Key J S))). i.ring j) h.3 in let was = o.words j n lt in ((λ e. was.0 (sym same ∙ e)), (λ e. was.1 (sym same ∙ e)));
      idle = λ q v e. ⊎_elim
          (λ old. ⊎_elim (λ t. ap (λ (y : View (Known (Key J S))). y.phase) (sym t.1) ∙ h.2.0) (λ t. o.idle q v t.1) (at_set m.passes p q (dealing h.0) v old))
          (λ last. ap (λ (y : View (Known (Key J S))). y.phase) (sym last))
          (at_snoc (set m.passes p (dealing h.0)) (dealt h.0) v q (sym (ap (λ (n : Machine (Known (Key J S))). get_elem? n.passes q) h.3) ∙ e));
    }
