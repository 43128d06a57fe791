-- What a coloured run leaves of the hands.
use Rattle.std.proofs.Common.{◌≡◌, ◌<◌, ℕ, zero, suc, List, [], ◌∷◌, ◌++◌, length, get_or, All, Any, sym, refl, ap, ◌∙◌, subst, ⊎_elim, arith, length-append}
use Rattle.std.proofs.Math.Seq.{get_or-append_seam}
use Rattle.atomic_table.specs.Seated.{TableId}
use Rattle.scratch_pool.specs.Passes as pool
use Rattle.colored_copier.specs.declared.view.Phase.{Phase}
use Rattle.colored_copier.specs.declared.view.Phase.TheVariants.{Fresh, Claimed, Over}
use Rattle.colored_copier.specs.Phases.{IsOver, Free}
use Rattle.colored_copier.specs.Passes.{PassView}
use Rattle.colored_copier.specs.Views.{RoundView}
use Rattle.colored_copier.specs.Ending.{AreDone}
use Rattle.colored_copier.specs.Hands.{IsReady, IsThrough, IsFinished}

over_free : (p : Phase) → IsOver p → Free p
over_free Fresh h = tt
over_free (Claimed n) h = h
over_free (Over n) h = tt

module _ {H X : Type 0} (pass_of : H → PassView X) (scratch_of : H → pool.PassView) (Room : H → Type 0) where
  -- each hand that was ready and is through is finished
  pub finished_all : (round : RoundView X) (home : TableId) (objects : ℕ) (old new : List H) → length new ≡ length old → All (λ h. IsReady round home (pass_of h) (scratch_of h) × Room h) old
      → ((k : ℕ) (d : H) → k < length old → IsThrough objects (pass_of (get_or old k d)) (scratch_of (get_or old k d)) (pass_of (get_or new k d)) (scratch_of (get_or new k d)) × Room (get_or new k d))
      → All (λ h. IsFinished round home (pass_of h) (scratch_of h) × Room h) new
  finished_all round home objects old new same ready each k d lt =
      let within : k < length old = omega (arith, lt, same) in
      let t = each k d within in
      let r = (ready k d within).0 in (
        record {
          of_round = (t.0.same.0 ∙ r.of_round.0, t.0.same.2 ∙ r.of_round.1);
          free = ⊎_elim (λ o. over_free (pass_of (get_or new k d)).phase o) (λ f. subst Free (sym f.0) tt) t.0.over_or_fresh;
          of_pool = t.0.same_scratch.0 ∙ r.of_pool;
          empty = t.0.empty;
        },
        t.1,
      )

module _ {H X : Type 0} (pass_of : H → PassView X) where
  -- two hands' passes, put together for a close
  pub done_two : (z : TableId) (hands : List H) (passes : List (PassView X)) (a b : H) → hands ≡ a ∷ b ∷ [] → passes ≡ pass_of a ∷ pass_of b ∷ [] → ((k : ℕ) (d : H) → k < length hands → ((pass_of (get_or hands k d)).table ≡ z) × Free (pass_of (get_or hands k d)).phase) → AreDone z passes
  done_two z hands passes a b is-hands is-passes each =
      let both : (k : ℕ) (d : H) → k < 2 → ((pass_of (get_or (a ∷ b ∷ []) k d)).table ≡ z) × Free (pass_of (get_or (a ∷ b ∷ []) k d)).phase = subst (λ (l : List H). (k : ℕ) (d : H) → k < length l → ((pass_of (get_or l k d)).table ≡ z) × Free (pass_of (get_or l k d)).phase) is-hands each in
      subst (AreDone z) (sym is-passes) (two (both 0 a (omega arith)) (both 1 a (omega arith)))
    where
      two : ((pass_of a).table ≡ z) × Free (pass_of a).phase → ((pass_of b).table ≡ z) × Free (pass_of b).phase → AreDone z (pass_of a ∷ pass_of b ∷ [])
      two x y zero d lt = x
      two x y (suc zero) d lt = y
      two x y (suc (suc k)) d lt = absurd (omega arith)

  pub over_two : (hands : List H) (passes : List (PassView X)) (a b : H) → hands ≡ a ∷ b ∷ [] → passes ≡ pass_of a ∷ pass_of b ∷ [] → Any (λ h. IsOver (pass_of h).phase) hands → Any (λ p. IsOver p.phase) passes
  over_two hands passes a b is-hands is-passes over =
      subst (Any (λ p. IsOver p.phase)) (sym is-passes) (two (subst (Any (λ h. IsOver (pass_of h).phase)) is-hands over))
    where
      two : Any (λ h. IsOver (pass_of h).phase) (a ∷ b ∷ []) → Any (λ p. IsOver p.phase) (pass_of a ∷ pass_of b ∷ [])
      two h = at h.0 h.1 h.2 h.3 h.4
        where
          at : (k : ℕ) (x : H) → k < 2 → get_or (a ∷ b ∷ []) k x ≡ x → IsOver (pass_of x).phase → Any (λ p. IsOver p.phase) (pass_of a ∷ pass_of b ∷ [])
          at zero x lt e o = (0, pass_of a, omega arith, refl, subst (λ y. IsOver (pass_of y).phase) (sym e) o)
          at (suc zero) x lt e o = (1, pass_of b, omega arith, refl, subst (λ y. IsOver (pass_of y).phase) (sym e) o)
          at (suc (suc k)) x lt e o = absurd (omega arith)

pub any_last : {A : Type 0} (P : A → Type 0) (l all : List A) (x : A) → all ≡ l ++ x ∷ [] → P x → Any P all
any_last P l all x e p = (length l, x, omega (arith, ap length e, length-append l (x ∷ [])), ap (λ m. get_or m (length l) x) e ∙ get_or-append_seam l x [] x, p)
