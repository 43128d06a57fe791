-- A close.
use Rattle.std.proofs.Common.{◌≡◌, ℕ, zero, suc, ◌+◌, ◌<◌, ◌≤◌, List, [], ◌∷◌, ◌++◌, map, length, get_or, take, drop, reverse, sym, refl, ap, ◌∙◌, subst, arith, Some, Bool, true, false, cond}
use mathlib.Core.Option.{some, some-injective, some-ne-none}
use Rattle.std.proofs.lemmas.List.Elements.{All-pop}
use Rattle.std.proofs.lemmas.List.{length-reverse, append-nil}
use Rattle.std.proofs.Math.Seq.{take-length, drop-length}
use Rattle.atomic_table.specs.Seated.{TableId}
use Rattle.colored_copier.specs.Ending.{AreDone, overs_of}
use Rattle.colored_copier.specs.Phases.{IsOver, Free, over_of}
use Rattle.colored_copier.proofs.Totals.{total-append}
use lib.ListN.{get_elem?}
use Rattle.atomic_table.specs.Table.{Final, Seen, opening}
use Rattle.colored_copier.specs.declared.view.View.{View}
use Rattle.colored_copier.specs.declared.rule.Key.{Key}
use Rattle.colored_copier.specs.Plans.{In, row_number, picks}
use Rattle.colored_copier.specs.Conditions.{Suits, Worked}
use Rattle.colored_copier.specs.Rule.{total, Ended, carried}
use Rattle.colored_copier.specs.Keyed.{RowMe, JobRule, plan_of, finish_of, first_view}
use Rattle.colored_copier.specs.Passes.{PassView, Ties, unwritten}
use Rattle.colored_copier.specs.declared.view.Phase.{Phase}
use Rattle.colored_copier.specs.declared.view.Phase.TheVariants.{Fresh, Claimed, Over}
use Rattle.colored_copier.specs.declared.places.Places.{Places}
use Rattle.colored_copier.specs.Places.{ArePlaced}
use Rattle.colored_copier.specs.Views.{Sound}
use Rattle.colored_copier.proofs.Placed.{placed_at}
use Rattle.colored_copier.proofs.Claims.{at_map_back}
use Rattle.colored_copier.proofs.Search.{one_place}
use Rattle.colored_copier.proofs.Ends.{ends, starts}
use Rattle.colored_copier.proofs.Rows.{item_pick}
use Rattle.colored_copier.proofs.Picks.{planned}
use Rattle.atomic_table.proofs.Lists.{at_map}

over_le : (p : Phase) → over_of p ≤ 1
over_le Fresh = omega arith
over_le (Claimed n) = omega arith
over_le (Over n) = omega arith

pub over_few : (parts overs : ℕ) (p : Phase) → parts ≡ 1 → overs ≡ over_of p → overs ≤ parts
over_few parts overs p a b = omega (arith, over_le p)

is_over_one : (p : Phase) → IsOver p → over_of p ≡ 1
is_over_one Fresh h = absurd h
is_over_one (Claimed n) h = absurd h
is_over_one (Over n) h = refl

module _ {X : Type 0} where
  pub some_over : (xs : List (PassView X)) (k : ℕ) (p : PassView X) → k < length xs → get_or xs k p ≡ p → IsOver p.phase → 0 < total overs_of xs
  some_over [] k p lt e o = absurd (omega (arith, lt))
  some_over (x ∷ xs) zero p lt e o = omega (arith, ap (λ (q : PassView X). over_of q.phase) e, is_over_one p.phase o)
  some_over (x ∷ xs) (suc k) p lt e o = omega (arith, some_over xs k p (omega (arith, lt)) e o)

  pub over_popped : (xs ys : List (PassView X)) (p : PassView X) (n : ℕ) → xs ≡ ys ++ p ∷ [] → n ≡ over_of p.phase → total (overs_of {X = X}) xs ≡ n + total (overs_of {X = X}) ys
  over_popped xs ys p n e is = ap (total (overs_of {X = X})) e ∙ omega (arith, total-append (overs_of {X = X}) ys (p ∷ []), is)

  pub none_left : (xs : List (PassView X)) → length xs ≡ 0 → total (overs_of {X = X}) xs ≡ 0
  none_left [] e = refl
  none_left (x ∷ xs) e = absurd (omega arith)

  pub popped_done : (z : TableId) (xs ys : List (PassView X)) (p : PassView X) → xs ≡ ys ++ p ∷ [] → AreDone z xs → AreDone z ys × ((p.table ≡ z) × Free p.phase)
  popped_done z xs ys p e h = All-pop (λ (q : PassView X). (q.table ≡ z) × Free q.phase) xs ys (Some p) e h

module _ {A : Type 0} where
  pub flipped : (xs ys : List A) (n : ℕ) → ys ≡ reverse xs → n ≡ length xs → take n (ys ++ drop (length ys) xs) ≡ reverse xs
  flipped xs ys n e len =
      let long : length ys ≡ length xs = ap length e ∙ length-reverse xs in
      let none-left : drop (length ys) xs ≡ [] = ap (λ (k : ℕ). drop k xs) long ∙ drop-length xs in
      ap (λ m. take n (ys ++ m)) none-left ∙ (ap (take n) (append-nil ys) ∙ (ap (λ (k : ℕ). take k ys) (len ∙ sym long) ∙ (take-length ys ∙ e)))

  pub one_taken : (l : List A) (i : ℕ) (x : A) → get_elem? l i ≡ some x → take (i + 1) l ≡ take i l ++ x ∷ []
  one_taken l i x e = ap (λ (n : ℕ). take n l) (one_more i) ∙ go l i x e
    where
      one_more : (n : ℕ) → n + 1 ≡ suc n
      one_more n = omega arith

      go : (m : List A) (j : ℕ) (y : A) → get_elem? m j ≡ some y → take (suc j) m ≡ take j m ++ y ∷ []
      go [] j y f = absurd (some-ne-none y (sym f))
      go (z ∷ zs) zero y f = ap (λ w. w ∷ []) (some-injective z y f)
      go (z ∷ zs) (suc j) y f = ap (λ w. z ∷ w) (go zs j y f)

module _ {J R : Type 0} (count : J → ℕ) (rows_of : J → ℕ → List ℕ) (fits : J → ℕ → R → Type 0) (row_step : J → R → ℕ → ℕ → R) where
  -- a row of an item lies in the item's plan
  in_plan : (job : J) (first : List (ℕ × R)) (n k r : ℕ) (x : R) → Suits count rows_of fits job first → n < count job → In r (rows_of job n) → get_elem? first k ≡ some (r, x) → In (k, (r, x)) (picks first (rows_of job n))
  in_plan job first n k r x s lt named at =
      let o = item_pick count rows_of fits row_step job first n s lt in
      let b = at_map_back (λ (y : ℕ × (ℕ × R)). y.1.0) (picks first (rows_of job n)) named.0 r (ap (λ m. get_elem? m named.0) o.rows ∙ named.1) in
      let there = (o.at b.0.0 b.0.1 (named.0, b.1)).0 in
      let mine : get_elem? (map row_number first) b.0.0 ≡ some r = at_map row_number first b.0.0 b.0.1 there ∙ ap (λ (i : ℕ). some i) b.2 in
      let same : b.0.0 ≡ k = one_place (map row_number first) b.0.0 k r s.rise mine (at_map row_number first k (r, x) at) in
      let value : b.0.1 ≡ (r, x) = some-injective b.0.1 (r, x) (sym there ∙ (ap (get_elem? first) same ∙ at)) in
      (named.0, b.1 ∙ (λ i. some (same i, value i)))

  pub worked : (key : Key J R) (old new : List (ℕ × R)) → Suits count rows_of fits key.job.value key.rows.value.items → key.items ≡ count key.job.value → Ended key.items key.rows.value.items (plan_of rows_of key) (finish_of row_step key) new
      → Worked count rows_of row_step key.job.value key.rows.value.items new
  worked key old new s all e =
      record {
        as_many = e.as_many;
        named = λ n k r x lt named at. e.done n k (r, x) (omega (arith, all)) (in_plan key.job.value key.rows.value.items n k r x s lt named at);
        others = λ k r x at free. e.rest k (r, x) at (λ n y lt h.
            let o = item_pick count rows_of fits row_step key.job.value key.rows.value.items n s (omega (arith, all)) in
            let b = o.at k y h in
            let same : y ≡ (r, x) = some-injective y (r, x) (sym b.0 ∙ at) in
            free n (omega (arith, all)) (subst (λ (z : ℕ × R). In z.0 (rows_of key.job.value n)) same b.1));
      }

  -- what a close gives back
  pub closes : (key : Key J R) (id : ℕ) (v : View (Key J R)) (ws : List ℕ) (xs : List (ℕ × R)) → Suits count rows_of fits key.job.value key.rows.value.items → key.items ≡ count key.job.value → v.parts ≡ key.seats → 0 < v.overs → Free v.phase
      → Final (Seen (JobRule count rows_of row_step key) id v) ws xs → Worked count rows_of row_step key.job.value key.rows.value.items xs
  closes key id v ws xs s all whole over free f = worked key key.rows.value.items xs s all (ends key.seats key.items key.rows.value.items (plan_of rows_of key) (finish_of row_step key) id v ws xs whole over free f)

  hands_free : (b : Bool) (plan : ℕ → List (ℕ × (ℕ × R))) (finish : ℕ → ℕ × R → ℕ × R) (p : Phase) → Free p → cond b (carried plan finish p) (unwritten plan p) ≡ []
  hands_free true plan finish Fresh h = refl
  hands_free false plan finish Fresh h = refl
  hands_free b plan finish (Claimed n) h = absurd h
  hands_free true plan finish (Over n) h = refl
  hands_free false plan finish (Over n) h = refl

  -- an over or fresh pass has no row
  pub done_tie : (b : Bool) (m : RowMe J R) → Ties rows_of row_step b m → Free m.0.phase → m.1 ≡ []
  done_tie b m t free = t.2.1.2 ∙ hands_free b (plan_of rows_of t.2.0) (finish_of row_step t.2.0) m.0.phase free

  pub begins : (key : Key J R) (job : J) (rows slots : List (ℕ × R)) → key.job.value ≡ job → key.rows.value.items ≡ rows → slots ≡ rows → key.items ≡ count job → Suits count rows_of fits job rows
      → JobRule count rows_of row_step key (opening (0 ∷ []) slots (first_view key))
  begins key job rows slots is-job is-rows is-slots all s =
      let s' : Suits count rows_of fits key.job.value key.rows.value.items = subst (λ j. Suits count rows_of fits j key.rows.value.items) (sym is-job) (subst (Suits count rows_of fits job) (sym is-rows) s) in
      let many : key.items ≡ count key.job.value = all ∙ ap count (sym is-job) in
      let p = planned key.items key.rows.value.items (rows_of key.job.value) (λ n lt. s'.items_rise n (omega (arith, many))) (λ n r lt h. s'.among n r (omega (arith, many)) h) (λ m n r ltm ltn a b. s'.once m n r (omega (arith, many)) (omega (arith, many)) a b) in
      subst (λ l. JobRule count rows_of row_step key (opening (0 ∷ []) l (first_view key))) (is-rows ∙ sym is-slots)
      (starts key.seats key.items key.rows.value.items (plan_of rows_of key) (finish_of row_step key) (first_view key) refl refl refl p)

  -- the fields of a round that was just made
  pub made_sound : (made key : Key J R) (job : J) (rows : List (ℕ × R)) (items : ℕ) (places : Places) → made ≡ key → key.job.value ≡ job → key.rows.value.items ≡ rows → key.items ≡ count job → items ≡ key.items → key.seats ≤ 64
      → ArePlaced (rows_of job) (map row_number rows) (count job) places → Suits count rows_of fits job rows → Sound count rows_of fits made items places
  made_sound made key job rows items places same is-job is-rows is-items is-key few placed s =
      subst (λ (k : Key J R). Sound count rows_of fits k items places) (sym same) record {
        items_is = is-key;
        count_is = is-key ∙ (is-items ∙ ap count (sym is-job));
        few_seats = few;
        placed = placed_at rows_of job key.job.value rows key.rows.value.items (count job) items places is-job is-rows (is-key ∙ is-items) placed;
        suits = subst (λ j. Suits count rows_of fits j key.rows.value.items) (sym is-job) (subst (Suits count rows_of fits job) (sym is-rows) s);
      }
