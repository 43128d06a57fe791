-- The rule at a job.
use Rattle.std.specs.Prelude.{◌≡◌, ℕ, ◌+◌, ◌-◌, ◌<◌, ◌≤◌, List, [], None, Some}
use Rattle.atomic_table.specs.Table.{State, Me, Step}
use Rattle.colored_copier.specs.declared.view.View.{View}
use Rattle.colored_copier.specs.declared.view.Phase.TheVariants.{Fresh, Claimed, Over}
use Rattle.colored_copier.specs.declared.rule.Key.{Key}
use Rattle.colored_copier.specs.Plans.{picks}
use Rattle.colored_copier.specs.Rule.{RoundRule, view}
use Rattle.colored_copier.specs.Phases.{Rises}

abbrev pub RowMe : Type 0 → Type 0 → Type 0
RowMe J R = Me (ℕ × R) (View (Key J R))

module _ {J R : Type 0} where
  -- the places of an item, with what lies there at first
  abbrev pub plan_of : (J → ℕ → List ℕ) → Key J R → ℕ → List (ℕ × (ℕ × R))
  plan_of rows_of key n = picks key.rows.value.items (rows_of key.job.value n)

  -- what an item makes of a row
  abbrev pub finish_of : (J → R → ℕ → ℕ → R) → Key J R → ℕ → ℕ × R → ℕ × R
  finish_of row_step key n x = (x.0, row_step key.job.value x.1 n x.0)

  abbrev pub JobRule : (J → ℕ) → (J → ℕ → List ℕ) → (J → R → ℕ → ℕ → R) → Key J R → State (ℕ × R) (View (Key J R)) → Type 0
  JobRule count rows_of row_step key s = RoundRule key.seats key.items key.rows.value.items (plan_of rows_of key) (finish_of row_step key) s

  abbrev pub first_view : Key J R → View (Key J R)
  first_view key = view key.seats 0 0 Fresh (Some key)

  -- a number below the last item gives that item's rows, and a later one none
  abbrev pub claimed : (J → ℕ → List ℕ) → Step (ℕ × R) → RowMe J R → ℕ → RowMe J R → Type 0
  claimed rows_of st m r t = (key : Key J R) → m.0.key ≡ Some key
      → (r < key.items → (t ≡ (view m.0.parts m.0.overs m.0.number (Claimed r) m.0.key, plan_of rows_of key r)) × Rises r m.0.phase)
      × (key.items ≤ r → t ≡ (view m.0.parts (m.0.overs + 1) m.0.number (Over r) m.0.key, []))

module _ {X : Type 0} where
  abbrev pub dealing : View X → View X
  dealing v = view (v.parts - 1) v.overs (v.number + 1) v.phase v.key

  abbrev pub dealt : View X → View X
  dealt v = view 1 0 v.number Fresh v.key

  abbrev pub joined : View X → View X → View X
  joined v w = view (v.parts + w.parts) (v.overs + w.overs) v.number v.phase v.key

  abbrev pub spent_view : View X
  spent_view = view 0 0 0 Fresh None
