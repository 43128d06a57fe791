-- A round of the cells of a colour, as the loop over the colours sees it.
use Rattle.std.proofs.Common.{◌≡◌, ◌∙◌, sym, ap, subst, ℕ, ◌+◌, ◌-◌, ◌<◌, List, length, arith, slice_index, Some, None, Ok}
use Rattle.std.specs.List.{All}
use Rattle.conflict_coloring.specs.Coloring.{Coloring, IsColoring, color_count}
use Rattle.conflict_coloring.specs.Colours.{coloured}
use Rattle.conflict_coloring.specs.Cut.{part}
use Rattle.sparsity.specs.declared.rows.Row.{Row}
use Rattle.serial_sum.specs.Marks.{AreItems, IsRound, RoundIs, Tells}
use Rattle.serial_sum.specs.Rows.{AreUnmarked, FitsRows}
use Rattle.serial_sum.specs.SerialSum.{SumIs}
use Rattle.serial_sum.specs.Steps.{FaultIs, failure_fault}
use Rattle.serial_sum.specs.declared.sum.Failure.{Failure}
use Rattle.serial_sum.proofs.RoundLaws.{round_all}
use Rattle.mesh_loop.specs.Setup.{MeshProblem, pattern_of}
use Rattle.mesh_loop.specs.Sum.{parts_of}
use Rattle.mesh_loop.proofs.Summing.{state_at}
use Rattle.colored_sum.specs.Rounds.{items_of}
use Rattle.colored_sum.proofs.ColorItems.{lists, AllWritten, count_lists, items_are}
use Rattle.colored_sum.proofs.ColorSums.{before, color_more, color_fails, whole_sum}

-- the same of an equal set-up and equal cells
pub same_items : (s t : MeshProblem) (cells given : List ℕ) → t ≡ s → given ≡ cells → AreItems (pattern_of s) (items_of s cells) → AreItems (pattern_of t) (items_of t given)
same_items s t cells given e f items =
    let P : MeshProblem → Type 0 = λ r. AreItems (pattern_of r) (items_of r given) in
    let Q : List ℕ → Type 0 = λ l. AreItems (pattern_of s) (items_of s l) in
    subst P (sym e) (subst Q (sym f) items)

pub same_round : (s t : MeshProblem) (cells given : List ℕ) (digits kept : ℕ) (old new : List Row) → t ≡ s → given ≡ cells → kept ≡ digits → IsRound kept (pattern_of t) (items_of t given) old new → IsRound digits (pattern_of s) (items_of s cells) old new
same_round s t cells given digits kept old new e f d round =
    let P : MeshProblem → Type 0 = λ r. IsRound kept (pattern_of r) (items_of r given) old new in
    let Q : List ℕ → Type 0 = λ l. IsRound kept (pattern_of s) (items_of s l) old new in
    let R : ℕ → Type 0 = λ n. IsRound n (pattern_of s) (items_of s cells) old new in
    subst R d (subst Q f (subst P e round))

pub same_fits : (s t : MeshProblem) (rows : List Row) → t ≡ s → FitsRows (pattern_of t) rows → FitsRows (pattern_of s) rows
same_fits s t rows e fits = let P : MeshProblem → Type 0 = λ r. FitsRows (pattern_of r) rows in subst P e fits

order_below : (s : MeshProblem) (c : Coloring) → IsColoring (lists s) c → All (λ d. d < length s.given.forest.cells) c.order
order_below s c is = let P : ℕ → Type 0 = λ n. All (λ d. d < n) c.order in subst P (count_lists s) is.once.within

-- a place of the loop over the colours
pub is_color : (s : MeshProblem) (c : Coloring) (starts : List ℕ) (k : ℕ) → starts ≡ c.starts → k < length starts - 1 → k < color_count c
is_color s c starts k e h = let n : length starts ≡ length c.starts = ap length e in omega (arith, h, n)

module _ (digits : ℕ) (s : MeshProblem) (c : Coloring) (k : ℕ) (cells : List ℕ) (rows new : List Row) (is : IsColoring (lists s) c) (inside : k < color_count c) (written : AllWritten s)
    (are : cells ≡ coloured c.colors k) (cut : cells ≡ part c.order (slice_index c.starts k) (slice_index c.starts (k + 1)))
    (clean : AreUnmarked rows) (fits : FitsRows (pattern_of s) rows) (so_far : state_at rows None ≡ before digits s c.order (slice_index c.starts k)) (round : IsRound digits (pattern_of s) (items_of s cells) rows new) where
  does_steps : RoundIs digits (pattern_of s) (items_of s cells) (state_at rows None) new
  does_steps = round_all digits (pattern_of s) (items_of s cells) rows new fits.count clean (items_are s c k cells is are written) round

  pub next_state : Tells new None → state_at new None ≡ before digits s c.order (slice_index c.starts (k + 1))
  next_state tells = color_more digits s c.order cells (slice_index c.starts k) (slice_index c.starts (k + 1)) rows new (is.starts.rising k inside) cut so_far does_steps tells

  pub failed : (failure : Failure) → Tells new (Some failure) → FaultIs digits (pattern_of s) (parts_of s c.order) (failure_fault failure)
  failed failure tells =
      color_fails digits s c.order cells (slice_index c.starts k) (slice_index c.starts (k + 1)) rows new failure (is.starts.rising k inside) cut so_far does_steps written (order_below s c is) tells

-- the state after the last colour is the sum
pub summed_all : (digits : ℕ) (s : MeshProblem) (c : Coloring) (starts : List ℕ) (k : ℕ) (rows : List Row) → IsColoring (lists s) c → AllWritten s → starts ≡ c.starts → k ≡ length starts - 1 → state_at rows None ≡ before digits s c.order (slice_index c.starts k) →
    SumIs digits (pattern_of s) (parts_of s c.order) (Ok rows)
summed_all digits s c starts k rows is written e end so_far =
    let last : k ≡ color_count c = end ∙ ap (λ (l : List ℕ). length l - 1) e in
    let whole : slice_index c.starts k ≡ length c.order = ap (slice_index c.starts) last ∙ is.starts.last in
    whole_sum digits s c.order (slice_index c.starts k) rows whole written (order_below s c is) so_far
