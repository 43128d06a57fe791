-- A new table.
use Rattle.std.proofs.Common.{◌≡◌, ℕ, ◌+◌, ◌<◌, List, length, sym, ap, ◌∙◌, subst, arith, Some, [], ◌∷◌, ◌++◌, ◌*◌}
use Rattle.atomic_table.specs.Seated.{TableId}
use Rattle.ordered_pipeline.specs.Passes.{PassView}
use Rattle.ordered_pipeline.specs.Fresh.{fresh, fresh_passes}
use Rattle.std.specs.List.{All}
use mathlib.Core.Option.{some}
use lib.ListN.{get_elem?}
use Rattle.atomic_table.specs.Table.{opening}
use Rattle.ordered_pipeline.specs.declared.view.Cargo.{Cargo}
use Rattle.ordered_pipeline.specs.declared.view.Cargo.TheVariants as cargo
use Rattle.ordered_pipeline.specs.declared.rule.Key.{Key}
use Rattle.ordered_pipeline.specs.Rule.{Kept, first_view}
use Rattle.ordered_pipeline.specs.Fold.{fold}
use Rattle.ordered_pipeline.specs.Machine.{known}
use Rattle.ordered_pipeline.specs.Slots.{IsPacked}
use Rattle.ordered_pipeline.proofs.Ends.{starts}
use Rattle.ordered_pipeline.proofs.Slotted.{first_words, words_long, words_turn, words_else, packed_copies, packed_length, packed_state}

module _ {J S C : Type 0} (room : J → C → Type 0) (stands : J → ℕ → C → Type 0) (work : J → S → ℕ → S) where
  pub begins : (key : Key J S) (copies : List C) (y : S) (slots : List (Cargo C S)) (ws : List ℕ) → IsPacked copies y slots → All (room key.job.value) copies → y ≡ key.state.value → ws ≡ first_words key.queue → key.queue ≡ length copies → 0 < key.queue
      → Kept room stands work key (opening ws slots (first_view key))
  begins key copies y slots ws packed all is-state is-words many some-queue =
      subst (λ l. Kept room stands work key (opening l slots (first_view key))) (sym is-words)
      (starts key.seats key.items key.queue (room key.job.value) (stands key.job.value) (fold work key.job.value key.state.value) some-queue (known key) (first_words key.queue) slots
      (words_long key.queue) (words_else key.queue 0 (λ e. omega arith)) (words_else key.queue 8 (λ e. omega arith)) (words_turn key.queue some-queue) (λ p lt. words_else key.queue (8 * p + 16) (λ e. omega arith))
      (omega (arith, packed_length copies y slots packed, many))
      (λ k lt. packed_copies (room key.job.value) copies y slots packed all k (omega (arith, many)))
      (ap (get_elem? slots) many ∙ (packed_state copies y slots packed ∙ ap (λ (z : S). some (cargo.State z)) is-state)))

one_more : (n : ℕ) → n + 1 ≡ Rattle.std.proofs.Common.suc n
one_more n = omega arith

-- one more fresh pass
pub dealt_passes : {C X : Type 0} (l l' : List (PassView C X)) (p : PassView C X) (z z' : TableId) (key : X) (n n' : ℕ) → l' ≡ l ++ p ∷ [] → l ≡ fresh_passes z key n → p ≡ fresh z' key n' → z' ≡ z → n' ≡ n → l' ≡ fresh_passes z key (n + 1)
dealt_passes {C} {X} l l' p z z' key n n' pushed was is-fresh same-table same-number =
    pushed ∙ (ap (λ (m : List (PassView C X)). m ++ p ∷ []) was ∙ (ap (λ (q : PassView C X). fresh_passes z key n ++ q ∷ []) (is-fresh ∙ (ap (λ (y : TableId). fresh y key n') same-table ∙ ap (λ (i : ℕ). fresh z key i) same-number))
    ∙ ap (λ (i : ℕ). fresh_passes z key i) (sym (one_more n))))
