-- The sum in the order of the colours, one colour after another.
use Rattle.std.proofs.Common.{◌≡◌, ◌∙◌, sym, ap, subst, refl, ℕ, zero, suc, ◌+◌, ◌-◌, ◌<◌, ◌≤◌, List, [], ◌∷◌, ◌++◌, length, map, take, drop, arith, slice_index_or, Some, None, Ok, Err}
use Rattle.std.specs.Prelude.{fold}
use Rattle.std.specs.List.{All}
use Rattle.std.specs.declared.option.Option.{Option}
use Rattle.std.proofs.lemmas.List.{take-append-drop, take_all, map-append}
use Rattle.std.proofs.lemmas.List.Elements.{All-map}
use Rattle.std.proofs.lemmas.List.Sums.{fold-append}
use Rattle.conflict_coloring.specs.Cut.{part}
use Rattle.sparsity.specs.Rows.{zero_row}
use Rattle.sparsity.specs.declared.rows.Row.{Row}
use Rattle.serial_sum.specs.Rows.{row_at, AreUnmarked}
use Rattle.serial_sum.specs.SerialSum.{SumIs}
use Rattle.serial_sum.specs.Steps.{step_of, zero_state, result_of, answer_of, failure_fault, FaultIs, IsPartFor}
use Rattle.serial_sum.specs.Marks.{RoundItem, Tells, round_end, RoundIs}
use Rattle.serial_sum.specs.Parts.{CellPart}
use Rattle.serial_sum.specs.declared.sum.Failure.{Failure}
use Rattle.serial_sum.specs.declared.sum.MatrixState.{MatrixState}
use Rattle.serial_sum.proofs.StateLaws.{steps_give, fault_says, failure_stays}
use Rattle.mesh_loop.specs.Setup.{MeshProblem, pattern_of}
use Rattle.mesh_loop.specs.Sum.{part_of, parts_of, IsWritten}
use Rattle.mesh_loop.proofs.Summing.{state_at, pattern_rises}
use Rattle.colored_sum.specs.Rounds.{items_of}

-- the state after the first n cells of the order
unfoldable pub before : ℕ → MeshProblem → List ℕ → ℕ → MatrixState
before digits s order n = fold (step_of digits (pattern_of s)) (zero_state (pattern_of s)) (parts_of s (take n order))

pub none_before : (digits : ℕ) (s : MeshProblem) (order : List ℕ) (n : ℕ) (rows : List Row) (pattern : List (List ℕ)) → pattern ≡ pattern_of s → rows ≡ map zero_row pattern → n ≡ 0 → state_at rows None ≡ before digits s order n
unfolding before
none_before digits s order n rows pattern is zeros none =
    ap (λ (r : List Row). state_at r None) (zeros ∙ ap (map zero_row) is) ∙ sym (ap (λ k. fold (step_of digits (pattern_of s)) (zero_state (pattern_of s)) (parts_of s (take k order))) none)

zeros_clean : (pattern : List (List ℕ)) (i : ℕ) → (row_at (map zero_row pattern) i).mark ≡ None
zeros_clean [] i = refl
zeros_clean (p ∷ ps) zero = refl
zeros_clean (p ∷ ps) (suc i) = zeros_clean ps i

pub zero_clean : (rows : List Row) (pattern : List (List ℕ)) → rows ≡ map zero_row pattern → AreUnmarked rows
zero_clean rows pattern zeros = subst AreUnmarked (sym zeros) (zeros_clean pattern)

take_none : (n : ℕ) → ◌≡◌ {A = List ℕ} (take n []) []
take_none zero = refl
take_none (suc n) = refl

next_sum : (a m : ℕ) → suc a + m ≡ suc (a + m)
next_sum a m = omega arith

split : (xs : List ℕ) (a m : ℕ) → take (a + m) xs ≡ take a xs ++ take m (drop a xs)
split xs zero m = ap (λ n. take n xs) (let e : 0 + m ≡ m = omega arith in e)
split [] (suc a) m = take_none (suc a + m) ∙ sym (take_none m)
split (x ∷ xs) (suc a) m = ap (λ n. take n (x ∷ xs)) (next_sum a m) ∙ ap (λ ys. x ∷ ys) (split xs a m)

joined : (xs : List ℕ) (a b : ℕ) → a ≤ b → take b xs ≡ take a xs ++ part xs a b
joined xs a b le = ap (λ n. take n xs) (let e : b ≡ a + (b - a) = omega (arith, le) in e) ∙ split xs a (b - a)

parts_map : (s : MeshProblem) (cells : List ℕ) → map (λ (it : RoundItem). it.part) (items_of s cells) ≡ parts_of s cells
parts_map s [] = refl
parts_map s (c ∷ cells) = ap (λ (ps : List CellPart). part_of s c ∷ ps) (parts_map s cells)

ended : (digits : ℕ) (s : MeshProblem) (order cells : List ℕ) (a b : ℕ) (rows : List Row) → a ≤ b → cells ≡ part order a b → state_at rows None ≡ before digits s order a →
    round_end digits (pattern_of s) (items_of s cells) (state_at rows None) ≡ before digits s order b
unfolding before
ended digits s order cells a b rows le are so_far =
    let step : MatrixState → CellPart → MatrixState = step_of digits (pattern_of s) in
    ap (fold step (state_at rows None)) (parts_map s cells)
    ∙ ap (λ (st : MatrixState). fold step st (parts_of s cells)) so_far
    ∙ sym (fold-append step (zero_state (pattern_of s)) (parts_of s (take a order)) (parts_of s cells))
    ∙ ap (fold step (zero_state (pattern_of s))) (sym (map-append (part_of s) (take a order) cells) ∙ ap (λ (cs : List ℕ). parts_of s (take a order ++ cs)) are ∙ sym (ap (parts_of s) (joined order a b le)))

-- a colour more
pub color_more : (digits : ℕ) (s : MeshProblem) (order cells : List ℕ) (a b : ℕ) (rows new : List Row) → a ≤ b → cells ≡ part order a b → state_at rows None ≡ before digits s order a →
    RoundIs digits (pattern_of s) (items_of s cells) (state_at rows None) new → AreUnmarked new → state_at new None ≡ before digits s order b
color_more digits s order cells a b rows new le are so_far round clean = sym (round.whole clean) ∙ ended digits s order cells a b rows le are so_far

all_allowed : (s : MeshProblem) (order : List ℕ) → ((cell : ℕ) → cell < length s.given.forest.cells → IsWritten s cell) → All (λ cell. cell < length s.given.forest.cells) order → All (IsPartFor (pattern_of s)) (parts_of s order)
all_allowed s order written within = All-map (IsPartFor (pattern_of s)) (part_of s) order (λ k d h. (written (slice_index_or order k d) (within k d h)).part)

kept_failure : (digits : ℕ) (s : MeshProblem) (parts : List CellPart) (state : MatrixState) (failure : Failure) → state.failure ≡ Some failure → (fold (step_of digits (pattern_of s)) state parts).failure ≡ Some failure
kept_failure digits s parts state failure e =
    ap (λ (o : Option Failure). (fold (step_of digits (pattern_of s)) (state_at state.rows o) parts).failure) e ∙ failure_stays digits (pattern_of s) parts state.rows failure

sum_fails : (digits : ℕ) (s : MeshProblem) (order : List ℕ) (b : ℕ) (failure : Failure) → All (IsPartFor (pattern_of s)) (parts_of s order) → (before digits s order b).failure ≡ Some failure → SumIs digits (pattern_of s) (parts_of s order) (Err failure)
unfolding before
sum_fails digits s order b failure allowed e =
    let step : MatrixState → CellPart → MatrixState = step_of digits (pattern_of s) in
    let end : MatrixState = fold step (zero_state (pattern_of s)) (parts_of s order) in
    let parts : parts_of s order ≡ parts_of s (take b order) ++ parts_of s (drop b order) = ap (parts_of s) (sym (take-append-drop b order)) ∙ map-append (part_of s) (take b order) (drop b order) in
    let run : end ≡ fold step (before digits s order b) (parts_of s (drop b order)) = ap (fold step (zero_state (pattern_of s))) parts ∙ fold-append step (zero_state (pattern_of s)) (parts_of s (take b order)) (parts_of s (drop b order)) in
    let fails : end.failure ≡ Some failure = ap (λ (st : MatrixState). st.failure) run ∙ kept_failure digits s (parts_of s (drop b order)) (before digits s order b) failure e in
    let P : Option Failure → Type 0 = λ o. SumIs digits (pattern_of s) (parts_of s order) (result_of end.rows o) in
    subst P fails (steps_give digits (pattern_of s) (parts_of s order) (pattern_rises s) allowed)

-- a colour that fails
pub color_fails : (digits : ℕ) (s : MeshProblem) (order cells : List ℕ) (a b : ℕ) (rows new : List Row) (failure : Failure) → a ≤ b → cells ≡ part order a b → state_at rows None ≡ before digits s order a →
    RoundIs digits (pattern_of s) (items_of s cells) (state_at rows None) new → ((cell : ℕ) → cell < length s.given.forest.cells → IsWritten s cell) → All (λ cell. cell < length s.given.forest.cells) order → Tells new (Some failure) →
    FaultIs digits (pattern_of s) (parts_of s order) (failure_fault failure)
color_fails digits s order cells a b rows new failure le are so_far round written within (i, mark, first, is) =
    fault_says digits (pattern_of s) (parts_of s order) failure
    (sum_fails digits s order b failure (all_allowed s order written within)
    (sym (ap (λ (st : MatrixState). st.failure) (ended digits s order cells a b rows le are so_far)) ∙ round.fails i mark first ∙ sym (ap (λ (f : Failure). Some f) is)))

-- after the last colour
pub whole_sum : (digits : ℕ) (s : MeshProblem) (order : List ℕ) (n : ℕ) (rows : List Row) → n ≡ length order → ((cell : ℕ) → cell < length s.given.forest.cells → IsWritten s cell) → All (λ cell. cell < length s.given.forest.cells) order →
    state_at rows None ≡ before digits s order n → SumIs digits (pattern_of s) (parts_of s order) (Ok rows)
unfolding before
whole_sum digits s order n rows count written within so_far =
    let step : MatrixState → CellPart → MatrixState = step_of digits (pattern_of s) in
    let all : take n order ≡ order = take_all n order (omega (arith, count)) in
    let P : MatrixState → Type 0 = λ st. SumIs digits (pattern_of s) (parts_of s order) (answer_of st) in
    subst P (sym (so_far ∙ ap (λ (cs : List ℕ). fold step (zero_state (pattern_of s)) (parts_of s cs)) all)) (steps_give digits (pattern_of s) (parts_of s order) (pattern_rises s) (all_allowed s order written within))
