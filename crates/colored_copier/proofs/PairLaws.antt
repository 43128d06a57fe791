-- The rows of the toy job: item n has the rows 2 n and 2 n + 1.
use Rattle.std.proofs.Common.{◌≡◌, ℕ, zero, suc, ◌+◌, ◌*◌, ◌<◌, ◌≤◌, List, [], ◌∷◌, map, sym, refl, ap, ◌∙◌, subst, arith}
use Rattle.std.specs.List.{range_with_len}
use mathlib.Core.Option.{some, some-injective, some-ne-none}
use mathlib.Core.Logic.{dite}
use native.Mathlib.Decide.{ℕ_discrete}
use lib.ListN.{get_elem?}
use Rattle.colored_copier.specs.Plans.{In, Rise, row_number}
use Rattle.colored_copier.specs.Conditions.{Suits}

abbrev pub pair_of : ℕ → List ℕ
pair_of n = (2 * n) ∷ (2 * n + 1) ∷ []

abbrev pub hundred : ℕ → ℕ × ℕ
hundred r = (r, 100)

in_pair : (n r : ℕ) → In r (pair_of n) → (2 * n ≤ r) × (r ≤ 2 * n + 1)
in_pair n r h = go h.0 h.1
  where
    go : (k : ℕ) → get_elem? (pair_of n) k ≡ some r → (2 * n ≤ r) × (r ≤ 2 * n + 1)
    go zero e = let s = some-injective (2 * n) r e in (omega arith, omega arith)
    go (suc zero) e = let s = some-injective (2 * n + 1) r e in (omega arith, omega arith)
    go (suc (suc k)) e = absurd (some-ne-none r (sym e))

only : (a q : ℕ) → In q (a ∷ []) → a ≡ q
only a q h = go h.0 h.1
  where
    go : (k : ℕ) → get_elem? (a ∷ []) k ≡ some q → a ≡ q
    go zero e = some-injective a q e
    go (suc k) e = absurd (some-ne-none q (sym e))

rise_pair : (n : ℕ) → Rise (pair_of n)
rise_pair n = ((λ q h. let s = only (2 * n + 1) q h in omega arith), ((λ q h. absurd (some-ne-none q (sym h.1))), tt))

above : (m a k q : ℕ) → get_elem? (range_with_len a m) k ≡ some q → a ≤ q
above zero a k q e = absurd (some-ne-none q (sym e))
above (suc m) a zero q e = let s = some-injective a q e in omega arith
above (suc m) a (suc k) q e = let s = above m (a + 1) k q e in omega arith

rise_range : (m a : ℕ) → Rise (range_with_len a m)
rise_range zero a = tt
rise_range (suc m) a = ((λ q h. let s = above m (a + 1) h.0 q h.1 in omega arith), rise_range m (a + 1))

in_range : (m a r : ℕ) → a ≤ r → r < a + m → In r (range_with_len a m)
in_range zero a r le lt = absurd (omega arith)
in_range (suc m) a r le lt = dite (ℕ_discrete a r) (λ e. (0, ap some e)) (λ ne. let t = in_range m (a + 1) r (omega arith) (omega arith) in (suc t.0, t.1))

numbers : (m a : ℕ) → map row_number (map hundred (range_with_len a m)) ≡ range_with_len a m
numbers zero a = refl
numbers (suc m) a = ap (λ l. a ∷ l) (numbers m (a + 1))

-- the toy job's rows suit it
pub suits_pairs : {J : Type 0} (count : J → ℕ) (job : J) (rows : List (ℕ × ℕ)) (m : ℕ) → rows ≡ map hundred (range_with_len 0 m) → count job ≤ 1000 → 2 * count job ≤ m → Suits count (λ (j : J) (i : ℕ). pair_of i) (λ (j : J) (r x : ℕ). Unit {0}) job rows
suits_pairs count job rows m e few room =
    let same : map row_number rows ≡ range_with_len 0 m = ap (map row_number) e ∙ numbers m 0 in
    record {
      few = omega arith;
      rise = subst Rise (sym same) (rise_range m 0);
      items_rise = λ n lt. rise_pair n;
      among = λ n r lt h. let p = in_pair n r h in subst (In r) (sym same) (in_range m 0 r (omega arith) (omega arith));
      once = λ a b r la lb ha hb. let p = in_pair a r ha in let q = in_pair b r hb in omega arith;
      fit = λ k r x h. tt;
    }
