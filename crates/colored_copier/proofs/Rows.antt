-- The loop over an item's rows, at a job.
use Rattle.std.proofs.Common.{◌≡◌, ℕ, suc, ◌<◌, List, [], ◌∷◌, ◌++◌, map, length, take, drop, get_or, sym, ap, ◌∙◌, subst}
use Rattle.std.proofs.Math.Seq.{take-length, drop-length}
use Rattle.std.proofs.lemmas.List.{length-map, append-nil}
use mathlib.Core.Option.{some}
use lib.ListN.{get_elem?}
use Rattle.atomic_table.specs.Table.{rest}
use Rattle.atomic_table.proofs.Lists.{at_map}
use Rattle.colored_copier.specs.declared.view.View.{View}
use Rattle.colored_copier.specs.declared.rule.Key.{Key}
use Rattle.colored_copier.specs.Plans.{In, row_number, picks}
use Rattle.colored_copier.specs.Places.{Next}
use Rattle.colored_copier.specs.Conditions.{Suits}
use Rattle.colored_copier.specs.Rule.{steps}
use Rattle.colored_copier.specs.Keyed.{RowMe, plan_of, finish_of}
use Rattle.colored_copier.proofs.Claims.{at_map_back}
use Rattle.colored_copier.proofs.Search.{got}
use Rattle.colored_copier.proofs.Picks.{Pick, picked, rise_apart}
use Rattle.colored_copier.proofs.Writes.{at_row, head_row, next_row}

module _ {R : Type 0} where
  abbrev pub RowAt : List (ℕ × R) → List (ℕ × (ℕ × R)) → ℕ → ℕ → Type 0
  RowAt first l i r = (p : ℕ) × (x : R) × (get_elem? l i ≡ some (p, (r, x))) × (get_elem? first p ≡ some (r, x))

  pub row_at : (first : List (ℕ × R)) (rs : List ℕ) (l : List (ℕ × (ℕ × R))) (i : ℕ) → Pick first rs l → i < length rs → RowAt first l i (get_or rs i 0)
  row_at first rs l i o lt =
      let b = at_map_back (λ (y : ℕ × (ℕ × R)). y.1.0) l i (get_or rs i 0) (ap (λ m. get_elem? m i) o.rows ∙ got rs i 0 lt) in
      let at : get_elem? l i ≡ some (b.0.0, (get_or rs i 0, b.0.1.1)) = b.1 ∙ ap (λ (r : ℕ). some (b.0.0, (r, b.0.1.1))) b.2 in
      (b.0.0, b.0.1.1, at, (o.at b.0.0 (get_or rs i 0, b.0.1.1) (i, at)).0)

  pub plan_length : (first : List (ℕ × R)) (rs : List ℕ) (l : List (ℕ × (ℕ × R))) → Pick first rs l → length l ≡ length rs
  plan_length first rs l o = sym (length-map l (λ (y : ℕ × (ℕ × R)). y.1.0)) ∙ ap length o.rows

module _ {J R : Type 0} (count : J → ℕ) (rows_of : J → ℕ → List ℕ) (fits : J → ℕ → R → Type 0) (row_step : J → R → ℕ → ℕ → R) where
  pub item_pick : (job : J) (first : List (ℕ × R)) (n : ℕ) → Suits count rows_of fits job first → n < count job → Pick first (rows_of job n) (picks first (rows_of job n))
  item_pick job first n s lt = picked first (rows_of job n) (rise_apart (rows_of job n) (s.items_rise n lt)) (λ r h. s.among n r lt h)

  abbrev pub written : Key J R → ℕ → ℕ × (ℕ × R) → ℕ × (ℕ × R)
  written key n x = (x.0, finish_of row_step key n x.1)

  row_of_item : (key : Key J R) (job : J) (n i : ℕ) (rs : List ℕ) → job ≡ key.job.value → Suits count rows_of fits key.job.value key.rows.value.items → n < count job → rs ≡ rows_of job n → i < length rs → RowAt key.rows.value.items (plan_of rows_of key n) i (get_or rs i 0)
  row_of_item key job n i rs is-job s lt is-rows below =
      let e : rs ≡ rows_of key.job.value n = is-rows ∙ ap (λ j. rows_of j n) is-job in
      let lt' : n < count key.job.value = subst (λ j. n < count j) is-job lt in
      subst (λ l. i < length l → RowAt key.rows.value.items (plan_of rows_of key n) i (get_or l i 0)) (sym e) (row_at key.rows.value.items (rows_of key.job.value n) (plan_of rows_of key n) i (item_pick key.job.value key.rows.value.items n s lt')) below

  pub row_ready : (key : Key J R) (job : J) (n i : ℕ) (rs : List ℕ) (v : View (Key J R)) (me : RowMe J R) → job ≡ key.job.value → Suits count rows_of fits key.job.value key.rows.value.items → n < count job → rs ≡ rows_of job n → i < length rs
      → me ≡ (v, at_row (written key n) (plan_of rows_of key n) i) → Next key.rows.value.items (get_or rs i 0) me.1
  row_ready key job n i rs v me is-job s lt is-rows below e =
      let a = row_of_item key job n i rs is-job s lt is-rows below in
      let h = ap (λ (m : RowMe J R). m.1) e ∙ head_row (written key n) (plan_of rows_of key n) i (a.0, (get_or rs i 0, a.1)) a.2 in
      (a.0, a.1, h ∙ ap (λ l. (a.0, (get_or rs i 0, a.1)) ∷ rest l) (sym h), a.3)

  pub row_done : (key : Key J R) (job : J) (n i next : ℕ) (rs : List ℕ) (v : View (Key J R)) (me new : RowMe J R) → job ≡ key.job.value → Suits count rows_of fits key.job.value key.rows.value.items → n < count job → rs ≡ rows_of job n → i < length rs → suc i ≡ next
      → me ≡ (v, at_row (written key n) (plan_of rows_of key n) i)
      → ((p : ℕ) (x : R) → me.1 ≡ (p, (get_or rs i 0, x)) ∷ rest me.1 → ◌≡◌ {A = RowMe J R} new (me.0, rest me.1 ++ (p, (get_or rs i 0, row_step job x n (get_or rs i 0))) ∷ []))
      → ◌≡◌ {A = RowMe J R} new (v, at_row (written key n) (plan_of rows_of key n) next)
  row_done key job n i next rs v me new is-job s lt is-rows below is-next e told =
      let a = row_of_item key job n i rs is-job s lt is-rows below in
      let r = get_or rs i 0 in
      let l = plan_of rows_of key n in
      let f = written key n in
      let y : ℕ × (ℕ × R) = (a.0, (r, a.1)) in
      let h = ap (λ (m : RowMe J R). m.1) e ∙ head_row f l i y a.2 in
      let t = told a.0 a.1 (h ∙ ap (λ m. y ∷ rest m) (sym h)) in
      let list : rest me.1 ++ (a.0, (r, row_step job a.1 n r)) ∷ [] ≡ at_row f l next = ap (λ m. rest m ++ (a.0, (r, row_step job a.1 n r)) ∷ []) h ∙ (ap (λ (j : J). (drop (suc i) l ++ map f (take i l)) ++ (a.0, (r, row_step j a.1 n r)) ∷ []) is-job ∙ (next_row f l i y a.2 ∙ ap (at_row f l) is-next)) in
      t ∙ (λ k. ((e k).0, list k))

  pub all_done : (key : Key J R) (job : J) (n i : ℕ) (rs : List ℕ) (v : View (Key J R)) (me : RowMe J R) → job ≡ key.job.value → Suits count rows_of fits key.job.value key.rows.value.items → n < count job → rs ≡ rows_of job n → i ≡ length rs
      → me ≡ (v, at_row (written key n) (plan_of rows_of key n) i) → ◌≡◌ {A = RowMe J R} me (v, steps (plan_of rows_of key) (finish_of row_step key) n)
  all_done key job n i rs v me is-job s lt is-rows end e =
      let l = plan_of rows_of key n in
      let f = written key n in
      let lt' : n < count key.job.value = subst (λ j. n < count j) is-job lt in
      let long : i ≡ length l = end ∙ (ap length (is-rows ∙ ap (λ j. rows_of j n) is-job) ∙ sym (plan_length key.rows.value.items (rows_of key.job.value n) l (item_pick key.job.value key.rows.value.items n s lt'))) in
      e ∙ ap (λ m. (v, m)) (ap (at_row f l) long ∙ (ap (λ m. m ++ map f (take (length l) l)) (drop-length l) ∙ ap (map f) (take-length l)))

  pub none_done : (key : Key J R) (n : ℕ) (me : RowMe J R) → me.1 ≡ plan_of rows_of key n → ◌≡◌ {A = RowMe J R} me (me.0, at_row (written key n) (plan_of rows_of key n) 0)
  none_done key n me e = ap (λ m. (me.0, m)) (e ∙ sym (append-nil (plan_of rows_of key n)))

  pub row_named : (job : J) (n i : ℕ) (rs : List ℕ) → rs ≡ rows_of job n → i < length rs → In (get_or rs i 0) (rows_of job n)
  row_named job n i rs e lt = (i, ap (λ l. get_elem? l i) (sym e) ∙ got rs i 0 lt)

  pub row_at_index : (job : J) (n i : ℕ) (rs : List ℕ) → rs ≡ rows_of job n → i < length rs → get_elem? (rows_of job n) i ≡ some (get_or rs i 0)
  row_at_index job n i rs e lt = ap (λ l. get_elem? l i) (sym e) ∙ got rs i 0 lt

  pub row_among : (key : Key J R) (job : J) (n i : ℕ) (rs : List ℕ) → job ≡ key.job.value → Suits count rows_of fits key.job.value key.rows.value.items → n < count job → rs ≡ rows_of job n → i < length rs → In (get_or rs i 0) (map row_number key.rows.value.items)
  row_among key job n i rs is-job s lt is-rows below =
      let a = row_of_item key job n i rs is-job s lt is-rows below in
      (a.0, at_map row_number key.rows.value.items a.0 (get_or rs i 0, a.1) a.3)
