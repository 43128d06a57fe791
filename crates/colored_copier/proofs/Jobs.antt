-- The steps under the rule of a job.
use Rattle.std.proofs.Common.{◌≡◌, ℕ, ◌+◌, ◌%◌, ◌^◌, ◌<◌, List, get_or, sym, ◌∙◌, subst, Some}
use Rattle.atomic_table.specs.Table.{Step, Allows, carried_after}
use Rattle.colored_copier.specs.declared.rule.Key.{Key}
use Rattle.colored_copier.specs.Rule.{carried}
use Rattle.colored_copier.specs.Keyed.{JobRule, RowMe, plan_of, finish_of, claimed}
use Rattle.colored_copier.proofs.Claims.{claims_next, Found}

some_same : {A : Type 0} (a b : A) → Some a ≡ Some b → a ≡ b
some_same a b e = cc

module _ {J R : Type 0} (count : J → ℕ) (rows_of : J → ℕ → List ℕ) (row_step : J → R → ℕ → ℕ → R) where
  pub job_claims : (key : Key J R) (slots id : ℕ) (st : Step (ℕ × R)) (m : RowMe J R) → m.0.key ≡ Some key → key.items + key.seats + 1 < 2 ^ 64 → m.0.overs < m.0.parts → m.1 ≡ carried (plan_of rows_of key) (finish_of row_step key) m.0.phase
      → Allows (JobRule count rows_of row_step key) slots id m 0 (λ n. (n + 1) % 2 ^ 64) (claimed rows_of st m)
  job_claims key slots id st m is-key few room carries s h wide at fits =
      let r = claims_next key.seats key.items key.rows.value.items (plan_of rows_of key) (finish_of row_step key) slots id m few room carries s h wide at fits in (
        r.0,
        r.1,
        r.2,
        r.3,
        λ k e. subst (λ (i : Key J R). Found key.seats i.items i.rows.value.items (plan_of rows_of i) (finish_of row_step key) m (get_or s.words 0 0) (r.0, carried_after m.1 r.1)) (some_same key k (sym is-key ∙ e)) r.4,
      )
