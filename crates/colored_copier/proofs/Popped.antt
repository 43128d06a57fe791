-- Lists from which the last element is taken.
use Rattle.std.proofs.Common.{◌≡◌, ◌∙◌, sym, ap, subst, refl, ℕ, zero, suc, ◌⊎◌, inl, inr, List, [], ◌∷◌, ◌++◌, length, get_or, take, drop, arith, length-append, None, Some}
use Rattle.std.specs.List.{All, Any}
use Rattle.std.proofs.lemmas.Bool.{cases_lt}
use Rattle.std.proofs.lemmas.List.{get_or_append_left, get_or_push}
use Rattle.std.proofs.lemmas.List.{append-nil}
use Rattle.std.proofs.Math.Seq.{take-length, drop-length}
use Rattle.std.proofs.lemmas.List.Elements.{All-nil, All-push, All-pop}
use Rattle.std.proofs.lemmas.List.Quantifiers.{Any-push}
use Rattle.atomic_table.specs.Seated.{TableId}
use Rattle.scratch_pool.specs.Passes as pool
use Rattle.scratch_pool.specs.Pools as pools
use Rattle.colored_copier.specs.Ending.{AreDone}
use Rattle.colored_copier.specs.Fresh.{fresh, fresh_passes}
use Rattle.colored_copier.specs.Hands.{IsReady, IsFinished}
use Rattle.colored_copier.specs.Phases.{IsOver, Free}
use Rattle.colored_copier.specs.Passes.{PassView}
use Rattle.colored_copier.specs.Views.{RoundView}
use Rattle.colored_copier.specs.Crews.{IsFreshPass, IsIdleSeat}

pub any_popped : {A : Type 0} (P : A → Type 0) (xs ys : List A) (x : A) → xs ≡ ys ++ x ∷ [] → Any P xs → Any P ys ⊎ P x
any_popped P xs ys x e (k, y, lt, at, p) = elim (cases_lt k (length ys)) [
  | inl low ↦ inl (k, y, low, sym (get_or_append_left ys (x ∷ []) y k low) ∙ sym (ap (λ l. get_or l k y) e) ∙ at, p)
  | inr high ↦ (let last : k ≡ length ys = omega (arith, high, lt, ap length e, length-append ys (x ∷ [])) in
      let is : x ≡ y = sym (get_or_push ys x y k (sym last)) ∙ sym (ap (λ l. get_or l k y) e) ∙ at in
      inr (subst P (sym is) p))
]

pub any_kept : {A : Type 0} (P : A → Type 0) (ys : List A) (x : A) → Any P ys → Any P (ys ++ x ∷ [])
any_kept P ys x (k, y, lt, at, p) = (k, y, omega (arith, lt, length-append ys (x ∷ [])), get_or_append_left ys (x ∷ []) y k lt ∙ at, p)

pub any_none : {A : Type 0} (P : A → Type 0) (xs : List A) → length xs ≡ 0 → Any P xs → ⊥
any_none P xs e (k, y, lt, at, p) = omega (arith, e, lt)

pub emptied : {A : Type 0} (xs : List A) → length xs ≡ 0 → xs ≡ []
emptied [] e = refl
emptied (x ∷ xs) e = absurd (omega (arith, e))

-- passes that were just dealt
module _ {X : Type 0} where
  pub fresh_count : (round : RoundView X) (n : ℕ) → length (fresh_passes round n) ≡ n
  fresh_count round zero = refl
  fresh_count round (suc n) = length-append (fresh_passes round n) (fresh round n ∷ []) ∙ (let t = fresh_count round n in omega (arith, t))

  pub fresh_all : (round : RoundView X) (n : ℕ) → All (IsFreshPass round) (fresh_passes round n)
  fresh_all round zero = All-nil (IsFreshPass round)
  fresh_all round (suc n) = All-push (IsFreshPass round) (fresh_passes round n) (fresh round n) (fresh_all round n) (record { of_round = (refl, refl); written = refl; fresh = refl })

pub idle_count : (table : TableId) (n : ℕ) → length (pools.fresh_passes table n) ≡ n
idle_count table zero = refl
idle_count table (suc n) = length-append (pools.fresh_passes table n) (pools.fresh table n ∷ []) ∙ (let t = idle_count table n in omega (arith, t))

pub idle_all : (table : TableId) (n : ℕ) → All (IsIdleSeat table) (pools.fresh_passes table n)
idle_all table zero = All-nil (IsIdleSeat table)
idle_all table (suc n) = All-push (IsIdleSeat table) (pools.fresh_passes table n) (pools.fresh table n) (idle_all table n) (record { of_pool = refl; empty = refl })

pub idle_more : (table : TableId) (seats now : List pool.PassView) (p : pool.PassView) → now ≡ seats ++ p ∷ [] → All (IsIdleSeat table) seats → p.table ≡ table → p.holds ≡ None → All (IsIdleSeat table) now
idle_more table seats now p e idle at empty = subst (All (IsIdleSeat table)) (sym e) (All-push (IsIdleSeat table) seats p idle (record { of_pool = at; empty = empty }))

pub idle_none : (table : TableId) (seats : List pool.PassView) → seats ≡ [] → All (IsIdleSeat table) seats
idle_none table seats e = subst (All (IsIdleSeat table)) (sym e) (All-nil (IsIdleSeat table))

pub idle_are : (table : TableId) (n : ℕ) (seats : List pool.PassView) → seats ≡ pools.fresh_passes table n → All (IsIdleSeat table) seats
idle_are table n seats e = subst (All (IsIdleSeat table)) (sym e) (idle_all table n)

module _ {X : Type 0} where
  pub fresh_are : (round : RoundView X) (n : ℕ) (passes : List (PassView X)) → passes ≡ fresh_passes round n → All (IsFreshPass round) passes
  fresh_are round n passes e = subst (All (IsFreshPass round)) (sym e) (fresh_all round n)

  pub done_more : (z : TableId) (passes now : List (PassView X)) (p : PassView X) → now ≡ passes ++ p ∷ [] → AreDone z passes → p.table ≡ z → Free p.phase → AreDone z now
  done_more z passes now p e done at free = subst (AreDone z) (sym e) (All-push (λ (q : PassView X). (q.table ≡ z) × Free q.phase) passes p done (at, free))

module _ {H X : Type 0} (pass_of : H → PassView X) (scratch_of : H → pool.PassView) (Room : H → Type 0) (round : RoundView X) (table : TableId) where
  -- a hand more
  pub ready_more : (hands now : List H) (hand : H) → now ≡ hands ++ hand ∷ [] → All (λ h. IsReady round table (pass_of h) (scratch_of h) × Room h) hands → IsFreshPass round (pass_of hand) → IsIdleSeat table (scratch_of hand) → Room hand →
      All (λ h. IsReady round table (pass_of h) (scratch_of h) × Room h) now
  ready_more hands now hand e ready p s room =
      let R : H → Type 0 = λ h. IsReady round table (pass_of h) (scratch_of h) × Room h in
      subst (All R) (sym e) (All-push R hands hand ready (record { of_round = p.of_round; written = p.written; fresh = p.fresh; of_pool = s.of_pool; empty = s.empty }, room))

  -- and one taken back
  pub finished_popped : (hands now : List H) (hand : H) → hands ≡ now ++ hand ∷ [] → All (λ h. IsFinished round table (pass_of h) (scratch_of h) × Room h) hands →
      All (λ h. IsFinished round table (pass_of h) (scratch_of h) × Room h) now × IsFinished round table (pass_of hand) (scratch_of hand) × Room hand
  finished_popped hands now hand e all =
      let R : H → Type 0 = λ h. IsFinished round table (pass_of h) (scratch_of h) × Room h in
      let both = All-pop R hands now (Some hand) e all in
      (both.0, both.1.0, both.1.1)

module _ {H X : Type 0} (pass_of : H → PassView X) where
  pub over_more : (hands now : List H) (hand : H) (passes later : List (PassView X)) → hands ≡ now ++ hand ∷ [] → later ≡ passes ++ pass_of hand ∷ [] →
      Any (λ h. IsOver (pass_of h).phase) hands ⊎ Any (λ (p : PassView X). IsOver p.phase) passes → Any (λ h. IsOver (pass_of h).phase) now ⊎ Any (λ (p : PassView X). IsOver p.phase) later
  over_more hands now hand passes later e f (inr any) =
      let P : PassView X → Type 0 = λ p. IsOver p.phase in
      inr (subst (Any P) (sym f) (any_kept P passes (pass_of hand) any))
  over_more hands now hand passes later e f (inl any) = by_place (any_popped (λ h. IsOver (pass_of h).phase) hands now hand e any)
    where
      by_place : Any (λ h. IsOver (pass_of h).phase) now ⊎ IsOver (pass_of hand).phase → Any (λ h. IsOver (pass_of h).phase) now ⊎ Any (λ (p : PassView X). IsOver p.phase) later
      by_place (inl some) = inl some
      by_place (inr here) = (let P : PassView X → Type 0 = λ p. IsOver p.phase in inr (subst (Any P) (sym f) (Any-push P passes (pass_of hand) here)))

-- a list that was lent as a slice and came back with as many values
pub lent_back : {A : Type 0} (xs ys : List A) (n : ℕ) → length xs ≡ length ys → n ≡ length ys → take n (xs ++ drop (length xs) ys) ≡ xs
lent_back xs ys n same len =
    let none-left : drop (length xs) ys ≡ [] = ap (λ (k : ℕ). drop k ys) same ∙ drop-length ys in
    ap (λ m. take n (xs ++ m)) none-left ∙ (ap (take n) (append-nil xs) ∙ (ap (λ (k : ℕ). take k xs) (len ∙ sym same) ∙ take-length xs))
