use Rattle.std.proofs.Common.{◌≡◌, ◌<◌, ◌≤◌, ℕ, arith, length, List, inl, inr}
use Rattle.std.specs.Prelude.{slice_index_or, true}
use Rattle.std.proofs.lemmas.Bool.{cases_lt}
use Rattle.serial_sum.specs.Columns.{IsRising, has_column, place}
use Rattle.serial_sum.proofs.RowLaws.{held_place, at_place}
use Rattle.serial_sum.proofs.columns.counted_place.Goals as goal

stands_at : (columns : List ℕ) (i j : ℕ) → IsRising columns → has_column columns j ≡ true → ((k : ℕ) → k < i → slice_index_or columns k 0 < j) → j ≤ slice_index_or columns i 0 → i ≡ place columns j
stands_at columns i j rising held low here =
    let at : slice_index_or columns (place columns j) 0 ≡ j = at_place columns j held in
    let within : place columns j < length columns = held_place columns j held in
    elim (cases_lt (place columns j) i) [
      | inl under ↦ (let less = low (place columns j) under in absurd (omega (arith, less, at)))
      | inr over ↦ elim (cases_lt i (place columns j)) [
        | inl before ↦ (let less = rising i (place columns j) before within in absurd (omega (arith, less, at, here)))
        | inr after ↦ omega (arith, over, after)
      ]
    ]

never_ends : (columns : List ℕ) (i j : ℕ) → has_column columns j ≡ true → ((k : ℕ) → k < i → slice_index_or columns k 0 < j) → length columns ≤ i → ⊥
never_ends columns i j held low end =
    let at : slice_index_or columns (place columns j) 0 ≡ j = at_place columns j held in
    let within : place columns j < length columns = held_place columns j held in
    let less = low (place columns j) (omega (arith, within, end)) in
    omega (arith, less, at)

pub returns-then-columns-place : goal.returns-then-columns-place
returns-then-columns-place c =
    stands_at c.args.columns.now c.loop-place.place c.args.j c.requires.rising c.requires.held c.loop-place.invariant (omega (arith, c.if-columns-place.true))

pub returns : goal.returns
returns c = absurd (never_ends c.args.columns.now c.loop-place.place c.args.j c.requires.held c.loop-place.invariant (omega (arith, c.loop-place-test.false)))
