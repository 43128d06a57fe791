use Rattle.std.proofs.Common.{◌≡◌, ◌<◌, ◌≤◌, ℕ, arith, length, List, inl, inr}
use Rattle.std.specs.Prelude.{slice_index_or, true, Ok, Err}
use Rattle.std.proofs.lemmas.Bool.{cases_lt}
use Rattle.std.proofs.lemmas.List.Sorted.{searched}
use Rattle.serial_sum.specs.Columns.{IsRising, has_column, place}
use Rattle.serial_sum.proofs.RowLaws.{place_is, held_place, at_place}
use Rattle.serial_sum.proofs.columns.searched_place.Goals as goal

rises : (columns : List ℕ) → IsRising columns → (i j : ℕ) → i ≤ j → j < length columns → slice_index_or columns i 0 ≤ slice_index_or columns j 0
rises columns rising i j h within = elim (cases_lt i j) [
  | inl less ↦ (let up = rising i j less within in omega (arith, up))
  | inr same ↦ (let e : i ≡ j = omega arith in rw e (omega arith))
]

none_there : (columns : List ℕ) (i j : ℕ) → has_column columns j ≡ true → ((k : ℕ) → k < i → slice_index_or columns k 0 < j) → ((k : ℕ) → i ≤ k → k < length columns → j < slice_index_or columns k 0) → ⊥
none_there columns i j h low high = elim (cases_lt (place columns j) i) [
  | inl under ↦ (let less = low (place columns j) under in let at = at_place columns j h in omega (arith, less, at))
  | inr over ↦ (let less = high (place columns j) over (held_place columns j h) in let at = at_place columns j h in omega (arith, less, at))
]

pub returns-in-Ok : goal.returns-in-Ok
returns-in-Ok c =
    let found = searched c.args.columns.now c.args.j (Ok c.in-Ok.place) c.in-Ok.ensures.position (rises c.args.columns.now c.requires.rising) in
    place_is c.args.columns.now c.in-Ok.place c.args.j c.requires.rising found.0 found.1

pub returns-in-Err : goal.returns-in-Err
returns-in-Err c =
    let found = searched c.args.columns.now c.args.j (Err c.in-Err.place) c.in-Err.ensures.position (rises c.args.columns.now c.requires.rising) in
    absurd (none_there c.args.columns.now c.in-Err.place c.args.j c.requires.held found.1 found.2)
