-- No two cells of one colour conflict.
use Rattle.std.proofs.Common.{◌≡◌, ◌≢◌, inl, ⊎_elim, ℕ, ◌+◌, ◌%◌, ◌<◌, List, length, Bool, true, ◌&&◌, ◌==◌, slice_index, slice_index_or, take, refl, ◌∙◌, ap, arith}
use Rattle.std.specs.List.{list_any}
use Rattle.std.proofs.lemmas.Bool.{eq-eqb, cases_order}
use Rattle.std.proofs.lemmas.List.{get_or-take, length-take}
use Rattle.std.proofs.lemmas.List.Folds.{list_any_at}
use Rattle.conflict_coloring.specs.Conflict.{has, conflict}
use Rattle.conflict_coloring.specs.Zones.{IsZones}
use Rattle.conflict_coloring.specs.Colours.{Picks, IsRun, IsPick, colours_near, whole}
use Rattle.conflict_coloring.proofs.Members.{false_or_true}
use Rattle.conflict_coloring.proofs.Picks.{has_colours, and_both}
use Rattle.conflict_coloring.proofs.Runs.{conflict_sym}

-- two cells of a zone that conflict have different colours
pub apart_in_zone : (cells : List (List ℕ)) (zone : List ℕ) (picks : Picks) (i j : ℕ) → IsRun cells zone picks → i < j → j < length picks →
    conflict cells (slice_index_or picks j (0, 0)).0 (slice_index_or picks i (0, 0)).0 ≡ true → (slice_index_or picks i (0, 0)).1 ≢ (slice_index_or picks j (0, 0)).1
apart_in_zone cells zone picks i j run lt within meets same =
    let c : ℕ = (slice_index_or picks j (0, 0)).0 in
    let k : ℕ = (slice_index_or picks j (0, 0)).1 in
    let one : IsPick cells zone (take j picks) c k = run j within in
    let test : ℕ × ℕ → Bool = λ p. conflict cells c p.0 && (p.1 == k) in
    let here : test (slice_index_or picks i (0, 0)) ≡ true = and_both (conflict cells c (slice_index_or picks i (0, 0)).0) ((slice_index_or picks i (0, 0)).1 == k) meets (eq-eqb (slice_index_or picks i (0, 0)).1 k same) in
    let at : ◌≡◌ {A = ℕ × ℕ} (slice_index_or (take j picks) i (0, 0)) (slice_index_or picks i (0, 0)) = get_or-take j picks i (0, 0) lt in
    let n = length-take j picks in
    let found : list_any test (take j picks) ≡ true = list_any_at test (take j picks) i (0, 0) (omega arith) (ap test at ∙ here) in
    false_or_true (has (colours_near cells (take j picks) c) k) one.least_free.free (has_colours cells (take j picks) c k ∙ found)

-- cells that conflict are in one zone or in zones next to each other
pub near_zones : (cells : List (List ℕ)) (zones : List ℕ) (c d : ℕ) → IsZones cells zones → c < length cells → d < length cells → conflict cells d c ≡ true → slice_index zones d < slice_index zones c →
    slice_index zones c ≡ slice_index zones d + 1
near_zones cells zones c d h inside there meets after = (h.next (slice_index zones d) c inside after).1 (inl (d, there, refl, meets))

-- so in one zone where their zones are both even, or both odd
pub same_zone : (cells : List (List ℕ)) (zones : List ℕ) (c d : ℕ) → IsZones cells zones → c < length cells → d < length cells → conflict cells d c ≡ true → slice_index zones c % 2 ≡ slice_index zones d % 2 →
    slice_index zones c ≡ slice_index zones d
same_zone cells zones c d h inside there meets parity =
    ⊎_elim (λ e. e)
    (λ o. ⊎_elim (λ lt. absurd (let e = near_zones cells zones d c h there inside (conflict_sym cells c d ∙ meets) lt in omega arith))
    (λ gt. absurd (let e = near_zones cells zones c d h inside there meets gt in omega arith)) o) (cases_order (slice_index zones c) (slice_index zones d))

-- an even zone's colour of the whole is below the shift, and an odd one's isn't
pub whole_parity : (e z w k q : ℕ) → (z % 2 ≡ 0 → k < e) → (w % 2 ≡ 0 → q < e) → whole e z k ≡ whole e w q → (z % 2 ≡ w % 2) × (k ≡ q)
whole_parity e z w k q a b same = grind arith
