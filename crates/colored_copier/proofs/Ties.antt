-- How a pass's fields tie to its seat, before and after each call.
use Rattle.std.proofs.Common.{◌≡◌, ℕ, ◌+◌, ◌<◌, List, [], sym, refl, ap, ◌∙◌, subst, arith, Option, Some, Bool, true, false, cond}
use Rattle.colored_copier.specs.declared.view.Phase.{Phase}
use Rattle.colored_copier.specs.declared.view.Phase.TheVariants.{Fresh, Claimed, Over}
use Rattle.colored_copier.specs.declared.rule.Key.{Key}
use Rattle.colored_copier.specs.Keyed.{RowMe, plan_of, finish_of, dealt}
use Rattle.colored_copier.specs.Rule.{carried, steps, view}
use Rattle.colored_copier.specs.Phases.{NotOver, over_of, Below}
use Rattle.colored_copier.specs.Passes.{unwritten, TiesAt, Ties}

some_same : {A : Type 0} (a b : A) → Some a ≡ Some b → a ≡ b
some_same a b e = cc

not_over : (p : Phase) → NotOver p → over_of p ≡ 0
not_over Fresh h = refl
not_over (Claimed n) h = refl
not_over (Over n) h = absurd h

module _ {J R : Type 0} (rows_of : J → ℕ → List ℕ) (row_step : J → R → ℕ → ℕ → R) where
  at_key : (b : Bool) (m : RowMe J R) (key : Key J R) → Ties rows_of row_step b m → m.0.key ≡ Some key → TiesAt rows_of row_step b m key
  at_key b m key t e = subst (TiesAt rows_of row_step b m) (some_same t.2.0 key (sym t.2.1.0 ∙ e)) t.2.1

  pub ready_tie : (b : Bool) (m : RowMe J R) (key : Key J R) → Ties rows_of row_step b m → m.0.key ≡ Some key → b ≡ true → NotOver m.0.phase
      → (m.0.overs < m.0.parts) × (m.1 ≡ carried (plan_of rows_of key) (finish_of row_step key) m.0.phase)
  ready_tie b m key t e w n =
      let a = at_key b m key t e in
      (omega (arith, t.0, t.1, not_over m.0.phase n), a.2 ∙ ap (λ (c : Bool). cond c (carried (plan_of rows_of key) (finish_of row_step key) m.0.phase) (unwritten (plan_of rows_of key) m.0.phase)) w)

  pub claimed_tie : (b : Bool) (m m' : RowMe J R) (key : Key J R) (r : ℕ) → Ties rows_of row_step b m → m.0.key ≡ Some key → NotOver m.0.phase → r < key.items
      → ◌≡◌ {A = RowMe J R} m' (view m.0.parts m.0.overs m.0.number (Claimed r) m.0.key, plan_of rows_of key r) → Ties rows_of row_step false m'
  claimed_tie b m m' key r t e n lt is = subst (Ties rows_of row_step false) (sym is) (t.0, t.1 ∙ not_over m.0.phase n, (key, (e, lt, refl)))

  pub over_tie : (b : Bool) (m m' : RowMe J R) (key : Key J R) (r : ℕ) → Ties rows_of row_step b m → m.0.key ≡ Some key → NotOver m.0.phase → b ≡ true
      → ◌≡◌ {A = RowMe J R} m' (view m.0.parts (m.0.overs + 1) m.0.number (Over r) m.0.key, []) → Ties rows_of row_step b m'
  over_tie b m m' key r t e n w is = subst (λ (c : Bool). Ties rows_of row_step c m') (sym w) (subst (Ties rows_of row_step true) (sym is) (t.0, omega (arith, t.1, not_over m.0.phase n), (key, (e, tt, refl))))

  pub unwritten_tie : (b : Bool) (m : RowMe J R) (key : Key J R) (r : ℕ) → Ties rows_of row_step b m → m.0.key ≡ Some key → b ≡ false → m.0.phase ≡ Claimed r → (r < key.items) × (m.1 ≡ plan_of rows_of key r)
  unwritten_tie b m key r t e w is =
      let a = at_key b m key t e in (
        subst (Below key.items) is a.1,
        a.2 ∙ (ap (λ (c : Bool). cond c (carried (plan_of rows_of key) (finish_of row_step key) m.0.phase) (unwritten (plan_of rows_of key) m.0.phase)) w ∙ ap (unwritten (plan_of rows_of key)) is),
      )

  pub written_tie : (b : Bool) (m m' : RowMe J R) (key : Key J R) (r : ℕ) → Ties rows_of row_step b m → m.0.key ≡ Some key → m.0.phase ≡ Claimed r
      → ◌≡◌ {A = RowMe J R} m' (m.0, steps (plan_of rows_of key) (finish_of row_step key) r) → Ties rows_of row_step true m'
  written_tie b m m' key r t e is done =
      let a = at_key b m key t e in
      subst (Ties rows_of row_step true) (sym done) (t.0, t.1, (key, (e, a.1, ap (carried (plan_of rows_of key) (finish_of row_step key)) (sym is))))

  pub fresh_tie : (m : RowMe J R) (key : Key J R) (n : ℕ) → ◌≡◌ {A = RowMe J R} m (view 1 0 n Fresh (Some key), []) → Ties rows_of row_step true m
  fresh_tie m key n e = subst (Ties rows_of row_step true) (sym e) (refl, refl, (key, (refl, tt, refl)))

module _ {J R : Type 0} where
  pub dealt_me : (m m' : RowMe J R) (key : Key J R) → ◌≡◌ {A = RowMe J R} m' (dealt m.0, []) → m.0.key ≡ Some key → ◌≡◌ {A = RowMe J R} m' (view 1 0 m'.0.number Fresh (Some key), [])
  dealt_me m m' key e k = e ∙ (ap (λ (o : Option (Key J R)). (view 1 0 m.0.number Fresh o, [])) k ∙ ap (λ (n : ℕ). (view 1 0 n Fresh (Some key), [])) (sym (ap (λ (x : RowMe J R). x.0.number) e)))

pub not_both : (p : Rattle.colored_copier.specs.declared.view.Phase.Phase) → Rattle.colored_copier.specs.Phases.IsOver p → NotOver p → ⊥
not_both Fresh o n = o
not_both (Claimed k) o n = o
not_both (Over k) o n = n
