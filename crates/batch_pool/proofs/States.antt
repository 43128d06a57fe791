-- A state of the rule is one of the machine in which each number has one place; and what a batch begins with.
use Rattle.std.proofs.Common.{◌≡◌, ℕ, suc, ◌+◌, ◌<◌, ◌≤◌, List, [], ◌∷◌, ◌++◌, map, set, sym, refl, ap, ◌∙◌, subst, arith, inl, inr}
use Rattle.std.specs.List.{range_with_len}
use Rattle.std.proofs.lemmas.List.FromFn.{map-range_with_len_more}
use mathlib.Core.Option.{some}
use mathlib.Core.Logic.{dite}
use native.Mathlib.Decide.{ℕ_discrete, dec_le}
use lib.ListN.{get_elem?}
use Rattle.batch_pool.specs.declared.view.View.{View}
use Rattle.batch_pool.specs.declared.view.Taken.{Taken}
use Rattle.batch_pool.specs.declared.view.Taken.TheVariants.{Task, Empty}
use Rattle.batch_pool.specs.Counts.{times, once_below}
use Rattle.batch_pool.specs.Views.{view, dealing, dealt}
use Rattle.batch_pool.specs.Machine.{Machine, machine, queued, HasTaken, IsExclusive, IsNew, Happens, splits}
use Rattle.batch_pool.specs.Rule.{Shared}
use Rattle.batch_pool.specs.Laws.{StatesAreExclusive, StartsNew}
use Rattle.scratch_pool.proofs.Sums.{term_le, terms_le, some_term}
use Rattle.batch_pool.proofs.Counting.{below_one, below_zero, below_lt}
use Rattle.batch_pool.proofs.Moves.{Each, each_set, each_snoc, single, back_end}

one_most : (n count : ℕ) → once_below n count ≤ 1
one_most n count = dite (dec_le count n) (λ le. omega (arith, below_zero n count le)) (λ nle. omega (arith, below_one n count (omega (arith, nle))))

module _ (items : List Taken) (views : List View) (o : Shared items views) where
  with_one : (p q n : ℕ) → HasTaken n p (machine items views) → HasTaken n q (machine items views) → p ≡ q
  with_one p q n a b = dite (ℕ_discrete q p) (λ e. sym e)
      (λ ne. absurd (omega (arith, terms_le (λ (x : View). times n x.taken) views p q a.0 b.0 ne a.1 b.1, a.2, b.2, o.once n, one_most n o.tasks)))

  taken_below : (p n : ℕ) → HasTaken n p (machine items views) → n < o.tasks
  taken_below p n h = below_lt n o.tasks (omega (arith, h.2, term_le (λ (x : View). times n x.taken) views p h.0 h.1, o.once n))

  not_taken : (n : ℕ) → 0 < times n o.numbers → (p : ℕ) → HasTaken n p (machine items views) → ⊥
  not_taken n waits p h = omega (arith, waits, h.2, term_le (λ (x : View). times n x.taken) views p h.0 h.1, o.once n, one_most n o.tasks)

  some_has : (n : ℕ) → n < o.tasks → times n o.numbers ≡ 0 → (p : ℕ) × HasTaken n p (machine items views)
  some_has n lt none-there =
      let t = some_term (λ (x : View). times n x.taken) views (omega (arith, none-there, o.once n, below_one n o.tasks lt)) in
      (t.0, (t.1, t.2, t.3))

  one_owner : (p q : ℕ) (v w : View) → get_elem? views p ≡ some v → get_elem? views q ≡ some w → 0 < v.owns → 0 < w.owns → p ≡ q
  one_owner p q v w at at-w own own-w = dite (ℕ_discrete q p) (λ e. sym e)
      (λ ne. absurd (omega (arith, terms_le (λ (x : View). x.owns) views p q v w ne at at-w, o.owner, own, own-w)))

  exclusive : IsExclusive o.tasks o.seats (machine items views)
  exclusive = record {
    numbers = o.numbers;
    ends = o.ends;
    lies = o.order;
    once = with_one;
    single = λ p n v at. omega (arith, term_le (λ (x : View). times n x.taken) views p v at, o.once n, one_most n o.tasks);
    queued_once = λ n. omega (arith, o.once n, one_most n o.tasks);
    each = λ n lt. dite (ℕ_discrete (times n o.numbers) 0) (λ e. inr (e, some_has n lt e)) (λ ne. inl (omega (arith, ne), not_taken n (omega (arith, ne))));
    queued_within = λ n h. below_lt n o.tasks (omega (arith, h, o.once n));
    taken_within = taken_below;
    marks = o.marks;
    over = o.over;
    owner = one_owner;
  }

pub states_are_exclusive : StatesAreExclusive
states_are_exclusive = exclusive

-- ---- the start
nil_right : {A : Type 0} (l : List A) → l ++ [] ≡ l
nil_right [] = refl
nil_right (x ∷ xs) = ap (λ l. x ∷ l) (nil_right xs)

one_number : (tasks : ℕ) → queued (range_with_len 0 (tasks + 1)) 0 ≡ queued (range_with_len 0 tasks) 0 ++ Task tasks ∷ []
one_number tasks = nil_right (map Task (range_with_len 0 (tasks + 1))) ∙ (map-range_with_len_more Task 0 tasks tasks (omega arith) ∙ ap (λ l. l ++ Task tasks ∷ []) (sym (nil_right (map Task (range_with_len 0 tasks)))))

one_mark : (tasks seats : ℕ) → queued (range_with_len 0 tasks) (seats + 1) ≡ queued (range_with_len 0 tasks) seats ++ Empty ∷ []
one_mark tasks seats =
    let next : seats + 1 ≡ suc seats = omega arith in
    ap (queued (range_with_len 0 tasks)) next ∙ sym (back_end (queued (range_with_len 0 tasks) seats) (range_with_len 0 tasks) seats refl)

abbrev IsIdle : View → Type 0
IsIdle v = (v.taken ≡ []) × (v.overs ≡ 0)

split_new : (tasks seats p : ℕ) (m m' : Machine) → IsNew tasks seats m → Happens (splits p) m m' → IsNew tasks seats m'
split_new tasks seats p m m' o h =
    let mine = o.idle p h.0 h.1 in
    let all : Each (λ _. IsIdle) (set m.passes p (dealing h.0) ++ dealt h.0 ∷ []) = each_snoc IsIdle (set m.passes p (dealing h.0)) (dealt h.0) (refl, refl) (each_set (λ _. IsIdle) m.passes p (dealing h.0) mine (λ j u _ e. o.idle j u e)) in record {
      lies = ap (λ (n : Machine). n.items) h.3 ∙ o.lies;
      idle = subst (λ (n : Machine). Each (λ _. IsIdle) n.passes) (sym h.3) all;
    }

pub starts_new : StartsNew
starts_new = (
  refl,
  (λ tasks. (view 1 0 tasks 0 0 [], refl, (refl, refl, refl, refl), ap (λ l. machine l (view 1 0 (tasks + 1) 0 0 [] ∷ [])) (one_number tasks))),
  (λ tasks seats. (view 1 seats tasks seats 0 [], refl, (refl, refl), ap (λ l. machine l (view 1 (seats + 1) tasks (seats + 1) 0 [] ∷ [])) (one_mark tasks seats))),
  (λ tasks seats. record { lies = refl; idle = single IsIdle (view 1 seats tasks seats 0 []) (refl, refl) }),
  split_new,
)
