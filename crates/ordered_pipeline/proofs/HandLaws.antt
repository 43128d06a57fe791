-- What an ordered run leaves of the hands.
use Rattle.std.proofs.Common.{◌≡◌, ◌<◌, ℕ, List, [], ◌∷◌, ◌++◌, take, drop, length, get_or, All, Any, true, sym, refl, subst, ◌∙◌, arith}
use Rattle.std.proofs.Math.Seq.{take-append_seam}
use Rattle.atomic_table.specs.Seated.{TableId}
use Rattle.scratch_pool.specs.Passes as pool
use Rattle.ordered_pipeline.specs.Passes.{PassView}
use Rattle.ordered_pipeline.specs.Hands.{IsReady, IsThrough, IsFinished}

module _ {H C X : Type 0} (pass_of : H → PassView C X) (scratch_of : H → pool.PassView) where
  -- each hand that was ready and is through is finished
  pub finished_all : (line : TableId) (key : X) (home : TableId) (old new : List H) → length new ≡ length old → All (λ h. IsReady line key home (pass_of h) (scratch_of h)) old
      → ((k : ℕ) (d : H) → k < length old → IsThrough (pass_of (get_or old k d)) (scratch_of (get_or old k d)) (pass_of (get_or new k d)) (scratch_of (get_or new k d)))
      → All (λ h. IsFinished line key home (pass_of h) (scratch_of h)) new
  finished_all line key home old new same ready each k d lt =
      let within : k < length old = omega (arith, lt, same) in
      let t = each k d within in
      let r = ready k d within in ((t.0.0 ∙ r.0.0, t.0.2 ∙ r.0.1), t.1, t.2, t.3.0 ∙ r.3, t.4)

-- one is over, where there is one
pub some_over : {C X : Type 0} (passes : List (PassView C X)) → 0 < length passes → All (λ p. p.over ≡ true) passes → Any (λ p. p.over ≡ true) passes
some_over [] some over = absurd (omega (arith, some))
some_over (p ∷ ps) some over = (0, p, some, refl, over 0 p some)

-- what holds of each element of a slice holds of each one of the vector whose whole slice it is
pub written_whole : {A : Type 0} (P : A → Type 0) (n : ℕ) (new old : List A) → length new ≡ n → All P new → All P (take n (new ++ drop (length new) old))
written_whole P n new old e all = subst (λ i. All P (take i (new ++ drop (length new) old))) e (subst (All P) (sym (take-append_seam new (drop (length new) old))) all)
