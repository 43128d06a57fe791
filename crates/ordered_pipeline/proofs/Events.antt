-- Each step is an event of the machine.
use Rattle.std.proofs.Common.{◌≡◌, ◌≢◌, ℕ, ◌+◌, ◌*◌, ◌%◌, ◌^◌, ◌<◌, ◌≤◌, List, length, get_or, set, sym, refl, ap, ◌∙◌, arith, get_or-set_same, get_or-set_other}
use Rattle.std.proofs.Math.Nat.{mod-eq_of_lt}
use Rattle.std.proofs.lemmas.List.{set-get_or}
use Rattle.ordered_pipeline.specs.declared.view.View.{View}
use Rattle.scratch_pool.specs.Counts.{total}
use Rattle.scratch_pool.proofs.Sums.{total_le}
use Rattle.ordered_pipeline.specs.Machine.{READY, TURN}
use Rattle.ordered_pipeline.specs.Laws.{DrawsAreEvents, LooksAreEvents, FinishesAreEvents, AdvancesAreEvents, PassesAreEvents, SplitsAreEvents, JoinsAreEvents}

-- the words of another place stay
ring_stays : (ws : List ℕ) (i x j : ℕ) → i ≢ 8 * j + 16 → get_or (set ws i x) (8 * j + 16) 0 ≡ get_or ws (8 * j + 16) 0
ring_stays ws i x j ne = get_or-set_other ws i (8 * j + 16) x 0 (λ e. ne (sym e))

ring_written : (ws : List ℕ) (place x queue : ℕ) → length ws ≡ 8 * queue + 16 → place < queue
    → (get_or (set ws (8 * place + 16) x) (8 * place + 16) 0 ≡ x) × ((j : ℕ) → j ≢ place → get_or (set ws (8 * place + 16) x) (8 * j + 16) 0 ≡ get_or ws (8 * j + 16) 0)
ring_written ws place x queue wide lt =
    (get_or-set_same ws (8 * place + 16) x 0 (omega (arith, wide)), λ j ne. get_or-set_other ws (8 * place + 16) (8 * j + 16) x 0 (λ e. ne (omega arith)))

module _ {J S C : Type 0} (room : J → C → Type 0) (stands : J → ℕ → C → Type 0) (step : J → S → ℕ → S) where
  pub draws_are_events : DrawsAreEvents room stands step
  draws_are_events key s p old new act o at small idle told =
      let k = o.counts in
      let next : ℕ = get_or s.words 0 0 in
      let overs : total (λ (x : View _). x.overs) s.views ≤ total (λ (x : View _). x.parts) s.views = total_le (λ (x : View _). x.overs) (λ (x : View _). x.parts) s.views (λ j x e. (k.each j x e).3) in
      let fits : next + 1 < 2 ^ 64 = omega (arith, k.some, k.split, overs, k.parts) in (
        (old.0, new.0, at, (idle, (λ lt. let t = told.0 lt in (t.0, ap (λ m. m.0) t.1)), (λ le. ap (λ m. m.0) (told.1 le))), refl),
        get_or-set_same s.words 0 ((next + 1) % 2 ^ 64) 0 (omega (arith, o.wide)) ∙ mod-eq_of_lt fits,
        get_or-set_other s.words 0 8 ((next + 1) % 2 ^ 64) 0 (λ e. omega arith),
        λ j. ring_stays s.words 0 ((next + 1) % 2 ^ 64) j (λ e. omega arith),
      )

  pub looks_are_events : LooksAreEvents room stands step
  looks_are_events key s p n old new act o at drawn told =
      let still : set s.words 8 (get_or s.words 8 0) ≡ s.words = set-get_or s.words 8 0 in (
        (old.0, new.0, at, (drawn, told.0, (λ lt. let t = told.1 lt in ap (λ m. m.0) t.2), (λ le. ap (λ m. m.0) (told.2 le))), refl),
        ap (λ l. get_or l 0 0) still,
        ap (λ l. get_or l 8 0) still,
        λ j. ap (λ l. get_or l (8 * j + 16) 0) still,
      )

  pub finishes_are_events : FinishesAreEvents room stands step
  finishes_are_events key s p n old new act o at some-queue started told =
      let place : n % key.queue < key.queue = omega arith in (
        (old.0, new.0, at, (started, (λ e. let t = told.0 e in ap (λ m. m.0) t.2), (λ ne. ap (λ m. m.0) (told.1 ne))), refl),
        get_or-set_other s.words (8 * (n % key.queue) + 16) 0 (READY n) 0 (λ e. omega arith),
        get_or-set_other s.words (8 * (n % key.queue) + 16) 8 (READY n) 0 (λ e. omega arith),
        ring_written s.words (n % key.queue) (READY n) key.queue o.wide place,
      )

  pub advances_are_events : AdvancesAreEvents room stands step
  advances_are_events key s p n old new act o at baton told = (
    (old.0, new.0, at, (baton, ap (λ m. m.0) (told n baton)), refl),
    get_or-set_other s.words 8 0 (n + 1) 0 (λ e. omega arith),
    get_or-set_same s.words 8 (n + 1) 0 (omega (arith, o.wide)),
    λ j. ring_stays s.words 8 (n + 1) j (λ e. omega arith),
  )

  pub passes_are_events : PassesAreEvents room stands step
  passes_are_events key s p n old new act o at some-queue advanced told =
      let place : (n + 1) % key.queue < key.queue = omega arith in (
        (old.0, new.0, at, (advanced, (λ e. let t = told.0 e in ap (λ m. m.0) t.4), (λ ne. ap (λ m. m.0) (told.1 ne))), refl),
        get_or-set_other s.words (8 * ((n + 1) % key.queue) + 16) 0 (TURN (n + 1)) 0 (λ e. omega arith),
        get_or-set_other s.words (8 * ((n + 1) % key.queue) + 16) 8 (TURN (n + 1)) 0 (λ e. omega arith),
        ring_written s.words ((n + 1) % key.queue) (TURN (n + 1)) key.queue o.wide place,
      )

  pub splits_are_events : SplitsAreEvents room stands step
  splits_are_events key s p v at may = (v, at, may, refl)

  pub joins_are_events : JoinsAreEvents room stands step
  joins_are_events key s p q v w at at-w ne idle-v idle-w = (v, w, at, at-w, idle-v, idle-w, ne, refl)
