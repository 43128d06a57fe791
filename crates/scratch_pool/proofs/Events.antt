-- Each step is an event of the machine.
use Rattle.std.proofs.Common.{◌≡◌, ℕ, ◌<◌, List, length, sym, refl, ap, subst, arith, get_or, set, get_or-set_same}
use Rattle.scratch_pool.specs.Machine.{BitBecomes}
use Rattle.scratch_pool.specs.Laws.{TriesAreEvents, ReturnsAreEvents, SplitsAreEvents, JoinsAreEvents}
use Rattle.scratch_pool.proofs.Moves.{is_out}
use Rattle.scratch_pool.proofs.Masks.{cleared, is_set}

-- the one word after it was written
word_now : (ws : List ℕ) (n : ℕ) → length ws ≡ 1 → get_or (set ws 0 n) 0 0 ≡ n
word_now ws n wide = get_or-set_same ws 0 n 0 (omega (arith, wide))

module _ {T : Type 0} where
  pub tries_are_events : TriesAreEvents T
  tries_are_events seats s p k v w slots carried act o at none-yet lt told =
      let clears = λ (n' : ℕ) (e : n' ≡ _). subst (BitBecomes k 0 (get_or s.words 0 0)) (sym e) (cleared (get_or s.words 0 0) k lt) in (
        (λ one. let t = told.0 one in (v, w, at, (none-yet, one, clears _ (word_now s.words _ o.wide), ap (λ m. m.0) t.1), refl)),
        (λ zero-bit. let t = told.1 zero-bit in (v, w, at, (none-yet, zero-bit, clears _ (word_now s.words _ o.wide), ap (λ m. m.0) t), refl)),
      )

  pub returns_are_events : ReturnsAreEvents T
  returns_are_events seats s p k v w slots act o at has e =
      let lt : k < 64 = omega (arith, (o.held p v k at has).0, o.few) in
      (v, w, at, (has, is_out seats s o p k v at has, subst (BitBecomes k 1 (get_or s.words 0 0)) (sym (word_now s.words _ o.wide)) (is_set (get_or s.words 0 0) k lt), e), refl)

  pub splits_are_events : SplitsAreEvents T
  splits_are_events s p v at none-yet = (v, at, none-yet, refl)

  pub joins_are_events : JoinsAreEvents T
  joins_are_events s p q v w at at-w ne none-v none-w = (v, w, at, at-w, none-v, none-w, ne, refl)
