-- The zones below a number, and one more of them.
use Rattle.std.proofs.Common.{◌≡◌, ◌≢◌, ◌⊎◌, inl, inr, ⊎_elim, ℕ, ◌+◌, ◌<◌, ◌≤◌, List, length, slice_index, true, sym, ◌∙◌, arith, subst}
use Rattle.std.specs.Prelude.{◌↔◌}
use Rattle.conflict_coloring.specs.Conflict.{conflict}
use Rattle.conflict_coloring.specs.Zones.{IsZones, IsNext}

-- the zones below k are given, and no other cell has a zone yet
pub record IsLayered (cells : List (List ℕ)) (zones : List ℕ) (none k : ℕ) : Type 0 where
  pub one_each : length zones ≡ length cells
  pub values : (c : ℕ) → c < length cells → (slice_index zones c < k) ⊎ (slice_index zones c ≡ none)
  pub first : (c : ℕ) → c < length cells → slice_index zones c ≡ 0 → c ≡ 0
  pub zero : 0 < k → 0 < length cells → slice_index zones 0 ≡ 0
  pub next : (z c : ℕ) → c < length cells → z + 1 < k → z < slice_index zones c → (slice_index zones c ≡ z + 1) ↔ IsNext cells zones z c

abbrev pub TouchesLast : List (List ℕ) → List ℕ → ℕ → ℕ → Type 0
TouchesLast cells zones k c = (d : ℕ) × (d < length cells) × (slice_index zones d + 1 ≡ k) × (conflict cells d c ≡ true)

abbrev pub IsFresh : List (List ℕ) → List ℕ → ℕ → ℕ → ℕ → Type 0
IsFresh cells zones none k c =
    TouchesLast cells zones k c
    ⊎ (((d : ℕ) → d < length cells → slice_index zones d ≡ none → ¬ TouchesLast cells zones k d) × ((d : ℕ) → d < length cells → slice_index zones d ≡ none → c ≤ d))

-- zone k is given
pub record GivesZone (cells : List (List ℕ)) (old new : List ℕ) (none k : ℕ) : Type 0 where
  pub one_each : length new ≡ length cells
  pub kept : (c : ℕ) → c < length cells → slice_index old c ≢ none → slice_index new c ≡ slice_index old c
  pub fresh : (c : ℕ) → c < length cells → slice_index old c ≡ none → (slice_index new c ≡ k) ⊎ (slice_index new c ≡ none)
  pub is_fresh : (c : ℕ) → c < length cells → slice_index new c ≡ k → slice_index old c ≡ none → IsFresh cells old none k c
  pub from_fresh : (c : ℕ) → c < length cells → slice_index old c ≡ none → IsFresh cells old none k c → slice_index new c ≡ k

-- two lists of zones have the same cells in zone z, and the same after it
pub record Agree (cells : List (List ℕ)) (a b : List ℕ) (z : ℕ) : Type 0 where
  pub at : (c : ℕ) → c < length cells → slice_index a c ≡ z → slice_index b c ≡ z
  pub at_back : (c : ℕ) → c < length cells → slice_index b c ≡ z → slice_index a c ≡ z
  pub after_back : (c : ℕ) → c < length cells → z < slice_index b c → z < slice_index a c

next_moves : (cells : List (List ℕ)) (a b : List ℕ) (z c : ℕ) → Agree cells a b z → IsNext cells a z c → IsNext cells b z c
next_moves cells a b z c h (inl (d, within, at, meets)) = inl (d, within, h.at d within at, meets)
next_moves cells a b z c h (inr (none, least)) =
    inr (
      (λ x within after touches. none x within (h.after_back x within after) (touches.0, touches.1, h.at_back touches.0 touches.1 touches.2, touches.3)),
      (λ x within after. least x within (h.after_back x within after)),
    )

-- a cell's zone below k is as it was
below_kept : (cells : List (List ℕ)) (old new : List ℕ) (none k : ℕ) → k < none → IsLayered cells old none k → GivesZone cells old new none k → (c z : ℕ) → c < length cells → z < k →
    slice_index new c ≡ z → slice_index old c ≡ z
below_kept cells old new none k real h g c z within below e =
    ⊎_elim (λ lt. let ne : slice_index old c ≢ none = omega arith in sym (g.kept c within ne) ∙ e)
    (λ eq. ⊎_elim (λ x. absurd (omega arith)) (λ x. absurd (omega arith)) (g.fresh c within eq)) (h.values c within)

below_stays : (cells : List (List ℕ)) (old new : List ℕ) (none k : ℕ) → k < none → IsLayered cells old none k → GivesZone cells old new none k → (c z : ℕ) → c < length cells → z < k →
    slice_index old c ≡ z → slice_index new c ≡ z
below_stays cells old new none k real h g c z within below e = let ne : slice_index old c ≢ none = omega arith in g.kept c within ne ∙ e

after_kept : (cells : List (List ℕ)) (old new : List ℕ) (none k : ℕ) → k < none → IsLayered cells old none k → GivesZone cells old new none k → (c z : ℕ) → c < length cells → z < k →
    z < slice_index new c → z < slice_index old c
after_kept cells old new none k real h g c z within below e =
    ⊎_elim (λ lt. let ne : slice_index old c ≢ none = omega arith in let same = g.kept c within ne in omega arith) (λ eq. omega arith) (h.values c within)

after_stays : (cells : List (List ℕ)) (old new : List ℕ) (none k : ℕ) → k < none → IsLayered cells old none k → GivesZone cells old new none k → (c z : ℕ) → c < length cells → z < k →
    z < slice_index old c → z < slice_index new c
after_stays cells old new none k real h g c z within below e =
    ⊎_elim (λ lt. let ne : slice_index old c ≢ none = omega arith in let same = g.kept c within ne in omega arith)
    (λ eq. ⊎_elim (λ x. omega arith) (λ x. omega arith) (g.fresh c within eq)) (h.values c within)

agree_new : (cells : List (List ℕ)) (old new : List ℕ) (none k : ℕ) → k < none → IsLayered cells old none k → GivesZone cells old new none k → (z : ℕ) → z < k → Agree cells old new z
agree_new cells old new none k real h g z below = record {
  at = λ c within e. below_stays cells old new none k real h g c z within below e;
  at_back = λ c within e. below_kept cells old new none k real h g c z within below e;
  after_back = λ c within e. after_kept cells old new none k real h g c z within below e;
}

agree_old : (cells : List (List ℕ)) (old new : List ℕ) (none k : ℕ) → k < none → IsLayered cells old none k → GivesZone cells old new none k → (z : ℕ) → z < k → Agree cells new old z
agree_old cells old new none k real h g z below = record {
  at = λ c within e. below_kept cells old new none k real h g c z within below e;
  at_back = λ c within e. below_stays cells old new none k real h g c z within below e;
  after_back = λ c within e. after_stays cells old new none k real h g c z within below e;
}

-- after the zone before k, a cell has none
none_after : (cells : List (List ℕ)) (old : List ℕ) (none k : ℕ) → IsLayered cells old none k → (c z : ℕ) → c < length cells → z + 1 ≡ k → z < slice_index old c → slice_index old c ≡ none
none_after cells old none k h c z within e after = ⊎_elim (λ lt. absurd (omega arith)) (λ eq. eq) (h.values c within)

fresh_to_next : (cells : List (List ℕ)) (old : List ℕ) (none k : ℕ) → IsLayered cells old none k → (c z : ℕ) → z + 1 ≡ k → IsFresh cells old none k c → IsNext cells old z c
fresh_to_next cells old none k h c z e (inl (d, within, at, meets)) = inl (d, within, (omega arith), meets)
fresh_to_next cells old none k h c z e (inr (nobody, least)) =
    inr (
      (λ x within after touches. nobody x within (none_after cells old none k h x z within e after) (touches.0, touches.1, (let at = touches.2 in omega arith), touches.3)),
      (λ x within after. least x within (none_after cells old none k h x z within e after)),
    )

next_to_fresh : (cells : List (List ℕ)) (old : List ℕ) (none k : ℕ) → k < none → IsLayered cells old none k → (c z : ℕ) → z + 1 ≡ k → IsNext cells old z c → IsFresh cells old none k c
next_to_fresh cells old none k real h c z e (inl (d, within, at, meets)) = inl (d, within, (omega arith), meets)
next_to_fresh cells old none k real h c z e (inr (nobody, least)) =
    inr (
      (λ x within is touches. nobody x within (omega arith) (touches.0, touches.1, (let at = touches.2 in omega arith), touches.3)),
      (λ x within is. least x within (omega arith)),
    )

next_more : (cells : List (List ℕ)) (old new : List ℕ) (none k : ℕ) → k < none → IsLayered cells old none k → GivesZone cells old new none k → (z c : ℕ) → c < length cells → z + 1 < k + 1 →
    z < slice_index new c → (z + 1 < k) ⊎ (z + 1 ≡ k) → (slice_index new c ≡ z + 1) ↔ IsNext cells new z c
next_more cells old new none k real h g z c within below after (inl inside) =
    let below : z < k = omega arith in
    let was : (slice_index old c ≡ z + 1) ↔ IsNext cells old z c = h.next z c within inside (after_kept cells old new none k real h g c z within below after) in (
      (λ e. next_moves cells old new z c (agree_new cells old new none k real h g z below) (was.0 (below_kept cells old new none k real h g c (z + 1) within inside e))),
      (λ n. below_stays cells old new none k real h g c (z + 1) within inside (was.1 (next_moves cells new old z c (agree_old cells old new none k real h g z below) n))),
    )
next_more cells old new none k real h g z c within below after (inr e) =
    let less : z < k = omega arith in
    let was : slice_index old c ≡ none = none_after cells old none k h c z within e (after_kept cells old new none k real h g c z within less after) in (
      (λ at. next_moves cells old new z c (agree_new cells old new none k real h g z less) (fresh_to_next cells old none k h c z e (g.is_fresh c within (at ∙ e) was))),
      (λ n. g.from_fresh c within was (next_to_fresh cells old none k real h c z e (next_moves cells new old z c (agree_old cells old new none k real h g z less) n)) ∙ sym e),
    )

values_more : (cells : List (List ℕ)) (old new : List ℕ) (none k : ℕ) → k < none → IsLayered cells old none k → GivesZone cells old new none k → (c : ℕ) → c < length cells →
    (slice_index new c < k + 1) ⊎ (slice_index new c ≡ none)
values_more cells old new none k real h g c within =
    ⊎_elim (λ lt. let ne : slice_index old c ≢ none = omega arith in let same = g.kept c within ne in inl (omega arith))
    (λ eq. ⊎_elim (λ x. inl (omega arith)) (λ x. inr x) (g.fresh c within eq)) (h.values c within)

split : (z k : ℕ) → z + 1 < k + 1 → (z + 1 < k) ⊎ (z + 1 ≡ k)
split z k h = grind arith

-- at first nobody has a zone
start_least : (cells : List (List ℕ)) (old : List ℕ) (none k c : ℕ) → k < none → IsLayered cells old none k → k ≡ 0 → IsFresh cells old none k c → 0 < length cells → c ≡ 0
start_least cells old none k c real h e (inl (d, within, at, meets)) some = absurd (omega arith)
start_least cells old none k c real h e (inr (nobody, least)) some =
    let was : slice_index old 0 ≡ none = ⊎_elim (λ lt. absurd (omega arith)) (λ eq. eq) (h.values 0 some) in let le : c ≤ 0 = least 0 some was in omega arith

first_more : (cells : List (List ℕ)) (old new : List ℕ) (none k : ℕ) → k < none → IsLayered cells old none k → GivesZone cells old new none k → (c : ℕ) → c < length cells → slice_index new c ≡ 0 → c ≡ 0
first_more cells old new none k real h g c within e =
    ⊎_elim (λ lt. let ne : slice_index old c ≢ none = omega arith in h.first c within (sym (g.kept c within ne) ∙ e))
    (λ eq. ⊎_elim (λ x. let start : k ≡ 0 = omega arith in start_least cells old none k c real h start (g.is_fresh c within x eq) (omega arith)) (λ x. absurd (omega arith)) (g.fresh c within eq))
    (h.values c within)

zero_more : (cells : List (List ℕ)) (old new : List ℕ) (none k : ℕ) → k < none → IsLayered cells old none k → GivesZone cells old new none k → 0 < length cells → (k ≡ 0) ⊎ (0 < k) → slice_index new 0 ≡ 0
zero_more cells old new none k real h g some (inl e) =
    let was : slice_index old 0 ≡ none = ⊎_elim (λ lt. absurd (omega arith)) (λ eq. eq) (h.values 0 some) in
    g.from_fresh 0 some was (inr ((λ d within is touches. absurd (let at = touches.2 in omega arith)), (λ d within is. omega arith))) ∙ e
zero_more cells old new none k real h g some (inr more) = below_stays cells old new none k real h g 0 0 some more (h.zero more some)

pub layered_more : (cells : List (List ℕ)) (old new : List ℕ) (none k : ℕ) → k < none → IsLayered cells old none k → GivesZone cells old new none k → IsLayered cells new none (k + 1)
layered_more cells old new none k real h g = record {
  one_each = g.one_each;
  values = values_more cells old new none k real h g;
  first = first_more cells old new none k real h g;
  zero = λ more some. zero_more cells old new none k real h g some (grind arith);
  next = λ z c within below after. next_more cells old new none k real h g z c within below after (split z k below);
}

-- where each cell has a zone, these are the zones
pub layered_all : (cells : List (List ℕ)) (zones : List ℕ) (none k : ℕ) → IsLayered cells zones none k → ((c : ℕ) → c < length cells → slice_index zones c ≢ none) → IsZones cells zones
layered_all cells zones none k h all =
    let below : (c : ℕ) → c < length cells → slice_index zones c < k = λ c within. ⊎_elim (λ lt. lt) (λ eq. absurd (all c within eq)) (h.values c within) in
    record {
      one_each = h.one_each;
      first = λ c within. (
        h.first c within,
        (λ (e : c ≡ 0). let b : slice_index zones c < k = below c within in let P : ℕ → Type 0 = λ x. slice_index zones x ≡ 0 in subst P (sym e) (h.zero (omega arith) (omega arith))),
      );
      next = λ z c within after. (
        (λ e. (h.next z c within (let b : slice_index zones c < k = below c within in omega arith) after).0 e),
        (λ n. (h.next z c within (let b : slice_index zones c < k = below c within in omega arith) after).1 n),
      );
    }
