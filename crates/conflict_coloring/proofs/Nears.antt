-- The conflict neighbours in zones.
use Rattle.std.proofs.Common.{◌≡◌, ◌≢◌, ⊎_elim, ℕ, ◌+◌, ◌<◌, ◌≤◌, List, [], ◌∷◌, ◌++◌, length, Bool, true, false, ◌||◌, ◌&&◌, ◌==◌, slice_index, if◌then◌else◌, refl, sym, ◌∙◌, ap, arith, subst}
use Rattle.std.specs.Prelude.{not}
use Rattle.std.specs.List.{list_any, range_with_len}
use Rattle.std.specs.Ordering.{nat_cmp, is_eq}
use Rattle.std.specs.BTreeSet.{BTreeSet, contains, IsOrdered}
use Rattle.std.proofs.lemmas.Bool.{cases_lt, cases_eq}
use Rattle.std.proofs.Math.ListN.{length-append}
use Rattle.std.proofs.Math.Bool.{and-false}
use Rattle.std.proofs.lemmas.Cmp.{nat_cmp_total}
use Rattle.std.proofs.lemmas.Map.Lookups.{exact_unsigned, btree_set_from_contains}
use Rattle.std.proofs.lemmas.List.Kept.{IsStrictlySortedBy-filter}
use Rattle.conflict_coloring.specs.Conflict.{has, share, rows_of, conflict}
use Rattle.conflict_coloring.specs.Colours.{cells_of}
use Rattle.conflict_coloring.specs.Cut.{piece, AreEnds}
use Rattle.conflict_coloring.specs.Near.{AreNear, near_of}
use Rattle.conflict_coloring.proofs.Spreads.{has_filter, has_range}
use Rattle.conflict_coloring.proofs.Table.{any_agree, at_number, range_rising, conflict_past}
use Rattle.conflict_coloring.proofs.Cuts.{piece_more, piece_last, ends_more, ends_none}

has_zone : (zones : List ℕ) (z d : ℕ) → d < length zones → has (cells_of zones z) d ≡ (slice_index zones d == z)
has_zone zones z d lt =
    has_filter (λ c. slice_index zones c == z) (range_with_len 0 (length zones)) d ∙ ap (λ b. b && slice_index zones d == z) (has_range 0 (length zones) d (omega arith) (omega arith))

swap : (a b : Bool) → (a && b) ≡ (b && a)
swap a b = grind arith

pub has_near_of : (cells : List (List ℕ)) (zones : List ℕ) (c d : ℕ) → length zones ≡ length cells → has (near_of cells zones c) d ≡ (conflict cells c d && slice_index zones d == slice_index zones c)
has_near_of cells zones c d len =
    has_filter (λ x. conflict cells c x) (cells_of zones (slice_index zones c)) d
    ∙ ⊎_elim
    (λ (lt : d < length zones). ap (λ b. b && conflict cells c d) (has_zone zones (slice_index zones c) d lt) ∙ swap (slice_index zones d == slice_index zones c) (conflict cells c d))
    (λ (le : length zones ≤ d).
    let e : conflict cells c d ≡ false = conflict_past cells c d (omega arith) in
    ap (λ b. has (cells_of zones (slice_index zones c)) d && b) e ∙ and-false (has (cells_of zones (slice_index zones c)) d) ∙ sym (ap (λ b. b && slice_index zones d == slice_index zones c) e)) (cases_lt d (length zones))

-- the set of the neighbours, listed
pub near_listed : (cells : List (List ℕ)) (zones : List ℕ) (c : ℕ) (found : BTreeSet ℕ) → length zones ≡ length cells → IsOrdered nat_cmp found →
    ((d : ℕ) → contains nat_cmp found d ≡ (conflict cells c d && slice_index zones d == slice_index zones c)) → found.keys ≡ near_of cells zones c
near_listed cells zones c found len rising same =
    let other : BTreeSet ℕ = record { keys = near_of cells zones c } in
    btree_set_from_contains nat_cmp_total found other rising
    (IsStrictlySortedBy-filter nat_cmp (λ d. conflict cells c d) (cells_of zones (slice_index zones c))
    (IsStrictlySortedBy-filter nat_cmp (λ x. slice_index zones x == slice_index zones c) (range_with_len 0 (length zones)) (range_rising 0 (length zones))))
    (λ d. same d ∙ sym (has_near_of cells zones c d len) ∙ sym (any_agree (λ y. is_eq (nat_cmp d y)) (λ y. y == d) (near_of cells zones c) (at_number d))) exact_unsigned

pub found_more : (new mid old a b ab t : Bool) → new ≡ (mid || (b && t)) → mid ≡ (old || (a && t)) → ab ≡ (a || b) → new ≡ (old || (ab && t))
found_more new mid old a b ab t e f g = grind arith

pub found_start : (old t : Bool) → old ≡ (old || (false && t))
found_start old t = grind arith

pub found_self : (old : Bool) (z : Bool) (other cell d : ℕ) → other ≡ cell → old ≡ (old || (other == d && (not (cell == d) && z)))
found_self old z other cell d e = grind arith

pub found_far : (old : Bool) (zones : List ℕ) (other cell d : ℕ) → slice_index zones other ≢ slice_index zones cell → old ≡ (old || (other == d && (not (cell == d) && slice_index zones d == slice_index zones cell)))
found_far old zones other cell d far =
    ⊎_elim (λ (e : other ≡ d). let f : slice_index zones d ≢ slice_index zones cell = λ x. far (ap (slice_index zones) e ∙ x) in grind arith) (λ (e : other ≢ d). grind arith) (cases_eq other d)

pub found_one : (new old : Bool) (zones : List ℕ) (other cell d : ℕ) → other ≢ cell → slice_index zones other ≡ slice_index zones cell → new ≡ (if other == d then true else old) →
    new ≡ (old || (other == d && (not (cell == d) && slice_index zones d == slice_index zones cell)))
found_one new old zones other cell d apart same is =
    ⊎_elim (λ (e : other ≡ d). let f : slice_index zones d ≡ slice_index zones cell = sym (ap (slice_index zones) e) ∙ same in grind arith) (λ (e : other ≢ d). grind arith) (cases_eq other d)

turn : (s n z : Bool) → (false || (s && (n && z))) ≡ ((n && s) && z)
turn s n z = grind arith

pub found_all : (cells : List (List ℕ)) (zones rows : List ℕ) (c d : ℕ) (b : Bool) → rows ≡ rows_of cells c → b ≡ (false || (list_any (has (rows_of cells d)) rows && (not (c == d) && slice_index zones d == slice_index zones c))) →
    b ≡ (conflict cells c d && slice_index zones d == slice_index zones c)
unfolding conflict
found_all cells zones rows c d b er e =
    e ∙ ap (λ xs. false || (list_any (has (rows_of cells d)) xs && (not (c == d) && slice_index zones d == slice_index zones c))) er
    ∙ turn (share (rows_of cells c) (rows_of cells d)) (not (c == d)) (slice_index zones d == slice_index zones c)

pub near_start : (cells : List (List ℕ)) (zones : List ℕ) → AreNear cells zones 0 [] []
near_start cells zones = record { one_each = refl; cuts = ends_none; each = λ c lt. absurd (omega arith) }

pub near_more : (cells : List (List ℕ)) (zones ends items near : List ℕ) (n e : ℕ) → AreNear cells zones n ends items → near ≡ near_of cells zones n → e ≡ length items + length near → AreNear cells zones (n + 1) (ends ++ e ∷ []) (items ++ near)
near_more cells zones ends items near n e h is at =
    let m = length-append ends (e ∷ []) in
    let l = length-append items near in
    let len = h.one_each in
    record {
      one_each = omega arith;
      cuts = let P : ℕ → Type 0 = λ x. AreEnds (ends ++ e ∷ []) x in subst P (at ∙ sym l) (ends_more ends (length items) e h.cuts (omega arith));
      each = λ c lt.
          ⊎_elim (λ (old : c < n). piece_more ends items near e c h.cuts (omega arith) ∙ h.each c old)
          (λ (new : n ≤ c).
          let same : c ≡ n = omega arith in
          let there : c ≡ length ends = omega arith in
          ap (piece (ends ++ e ∷ []) (items ++ near)) there ∙ piece_last ends items near e h.cuts at ∙ is ∙ ap (near_of cells zones) (sym same)) (cases_lt c n);
    }
