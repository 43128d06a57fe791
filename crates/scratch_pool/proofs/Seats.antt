-- How the fields of a pass follow its seat, and counts that rise.
use Rattle.std.proofs.Common.{◌≡◌, ◌≢◌, ℕ, ◌+◌, ◌<◌, List, [], ◌∷◌, Option, None, Some, get_or, set, sym, refl, ap, ◌∙◌, subst, arith, length, get_or-set_same, get_or-set_other}
use native.Mathlib.Decide.{ℕ_discrete}
use mathlib.Core.Logic.{dite}
use Rattle.atomic_table.specs.Table.{Me, rest}
use Rattle.scratch_pool.specs.declared.view.View.{View}
use Rattle.scratch_pool.specs.Passes.{Ties}
use Rattle.scratch_pool.specs.Counts.{raised}
use Rattle.scratch_pool.specs.Machine.{took, missed, gave}
use Rattle.scratch_pool.specs.Pools.{RoseAt, RoseBelow}

pub some_none : {X : Type 0} (x : X) → Some x ≡ None → ⊥
some_none x e = cc

pub rose_at : (l : List ℕ) (k x : ℕ) → k < length l → (get_or (set l k x) k 0 ≡ x) × ((j : ℕ) → j ≢ k → get_or (set l k x) j 0 ≡ get_or l j 0)
rose_at l k x lt = (get_or-set_same l k x 0 lt, λ j ne. get_or-set_other l k j x 0 ne)

-- one more count rose
pub rose_below : (n : ℕ) (a b c : List ℕ) → RoseBelow n a b → RoseAt n b c → RoseBelow (n + 1) a c
rose_below n a b c r t = (
  (λ k lt. dite (ℕ_discrete k n)
      (λ e. subst (λ (i : ℕ). get_or c i 0 ≡ raised (get_or a i 0)) (sym e) (t.0 ∙ ap raised (r.1 n (omega arith))))
      (λ ne. t.1 k ne ∙ r.0 k (omega arith))),
  (λ k le. t.1 k (λ e. omega arith) ∙ r.1 k (omega arith)),
)

module _ {T : Type 0} where
  -- a pass that holds nothing has an empty hand
  pub idle_tie : (held : Option T) (object : ℕ) (looks : List ℕ) (me : Me (Option T) View) → Ties held object looks me → me.0.holds ≡ None → (held ≡ None) × (me.1 ≡ [])
  idle_tie None object looks me t none-yet = (refl, t.2.1)
  idle_tie (Some x) object looks me t none-yet = absurd (some_none object (sym t.2.1 ∙ none-yet))

  -- after a try that found the object out
  pub found_out : (object k x : ℕ) (looks : List ℕ) (me n : Me (Option T) View) → Ties {T = T} None object looks me
      → n.0 ≡ missed k me.0 → n.1 ≡ [] → x ≡ raised (get_or looks k 0) → Ties {T = T} None object (set looks k x) n
  found_out object k x looks me n t e empty is =
      (ap (λ v. v.parts) e ∙ t.0, ap (λ v. v.looks) e ∙ (ap (λ l. set l k (raised (get_or l k 0))) t.1 ∙ ap (set looks k) (sym is)), (ap (λ v. v.holds) e, empty))

  -- after a try that took it
  pub found_home : (object k : ℕ) (looks : List ℕ) (me n : Me (Option T) View) (x : T) → k < 64 → Ties {T = T} None object looks me
      → n.0 ≡ took k me.0 → n.1 ≡ (k, None) ∷ [] → Ties (Some x) k looks n
  found_home object k looks me n x lt t e out = (ap (λ v. v.parts) e ∙ t.0, ap (λ v. v.looks) e ∙ t.1, (lt, ap (λ v. v.holds) e, out))

  -- after its return
  pub gave_back : (object : ℕ) (looks : List ℕ) (me n : Me (Option T) View) (x : T) → Ties (Some x) object looks me
      → n.0 ≡ gave me.0 → n.1 ≡ [] → Ties {T = T} None object looks n
  gave_back object looks me n x t e empty = (ap (λ v. v.parts) e ∙ t.0, ap (λ v. v.looks) e ∙ t.1, (ap (λ v. v.holds) e, empty))

  pub full_tie : (held : Option T) (object : ℕ) (looks : List ℕ) (me : Me (Option T) View) (x : T) → Ties held object looks me → held ≡ Some x → (object < 64) × (me.0.holds ≡ Some object) × (me.1 ≡ (object, None) ∷ [])
  full_tie None object looks me x t e = absurd (some_none x (sym e))
  full_tie (Some y) object looks me x t e = t.2

  pub filled : (k : ℕ) (old new : Option T) (l : List (ℕ × Option T)) → l ≡ (k, old) ∷ [] → (k, new) ∷ rest l ≡ (k, new) ∷ []
  filled k old new l e = ap (λ m. (k, new) ∷ rest m) e

  abbrev first_value : List (ℕ × Option T) → Option T
  first_value [] = None
  first_value (x ∷ xs) = x.1

  -- what comes out of the place is what the step announced
  pub taken_out : (k : ℕ) (x : T) (r : Option T) (l : List (ℕ × Option T)) → l ≡ (k, Some x) ∷ [] → l ≡ (k, r) ∷ rest l → r ≡ Some x
  taken_out k x r l there out = sym (ap first_value out) ∙ ap first_value there
