-- The cells of a colour as items of a round.
use Rattle.std.proofs.Common.{◌≡◌, ◌∙◌, sym, ap, subst, refl, ℕ, ◌<◌, Bool, true, false, ◌==◌, List, [], length, map, arith, slice_index}
use Rattle.std.specs.Prelude.{not, ◌&&◌}
use Rattle.std.specs.List.{All, AllPairs, range_with_len}
use Rattle.std.proofs.lemmas.Bool.{eqb-true}
use Rattle.std.proofs.lemmas.List.Elements.{All-filter, filter_passes}
use Rattle.std.proofs.lemmas.List.FromFn.{get_or-range_with_len, length-range_with_len, get_or-map-range_with_len, length-map-range_with_len}
use Rattle.std.proofs.lemmas.List.Kept.{AllPairs-filter}
use Rattle.conflict_coloring.specs.Conflict.{conflict, rows_of}
use Rattle.conflict_coloring.specs.Coloring.{Coloring, IsColoring}
use Rattle.conflict_coloring.specs.Colours.{coloured}
use Rattle.sparsity.specs.Coupled.{has}
use Rattle.serial_sum.specs.Marks.{RoundItem, item_at, IsItem, AreItems}
use Rattle.mesh_loop.specs.Setup.{MeshProblem, cells_of, pattern_of, written_rows}
use Rattle.mesh_loop.specs.Sum.{part_of, IsWritten}
use Rattle.colored_sum.specs.Rounds.{item_of, items_of}
use Rattle.colored_sum.proofs.Members.{unshared, range_pairs}
use Rattle.colored_sum.proofs.RoundRows.{items_count, item_there, rows_there, rows_back}

abbrev pub lists : MeshProblem → List (List ℕ)
lists s = map (written_rows s) (cells_of s)

abbrev pub AllWritten : MeshProblem → Type 0
AllWritten s = (cell : ℕ) → cell < length s.given.forest.cells → IsWritten s cell

range_below : (n : ℕ) → All (λ x. x < n) (range_with_len 0 n)
range_below n k d inside =
    let low : k < n = omega (arith, inside, length-range_with_len 0 n) in
    omega (arith, low, get_or-range_with_len 0 n k d low)

pub count_lists : (s : MeshProblem) → length (lists s) ≡ length s.given.forest.cells
count_lists s = length-map-range_with_len (written_rows s) 0 (length s.given.forest.cells)

list_there : (s : MeshProblem) (a : ℕ) → a < length s.given.forest.cells → rows_of (lists s) a ≡ written_rows s a
list_there s a h = get_or-map-range_with_len (written_rows s) 0 (length s.given.forest.cells) a a [] h (omega arith)

cell_of_part : (s : MeshProblem) (cell : ℕ) → (part_of s cell).cell ≡ cell
unfolding part_of
cell_of_part s cell = refl

other_number : (a b : ℕ) → a < b → (a == b) ≡ false
other_number a b h = grind (arith, h)

right_false : (x y : Bool) → x ≡ false → (not x && y) ≡ false → y ≡ false
right_false true y e h = cc
right_false false y e h = h

-- two cells that don't conflict
no_shared : (cells : List (List ℕ)) (a b i : ℕ) → a < b → conflict cells a b ≡ false → has (rows_of cells a) i ≡ true → has (rows_of cells b) i ≡ false
unfolding conflict
no_shared cells a b i lt apart on = unshared (rows_of cells a) (rows_of cells b) i (right_false (a == b) _ (other_number a b lt) apart) on

cells_apart : (s : MeshProblem) (c : Coloring) (k a b i : ℕ) → IsColoring (lists s) c → a < b → a < length s.given.forest.cells → b < length s.given.forest.cells → (slice_index c.colors a == k) ≡ true → (slice_index c.colors b == k) ≡ true →
    has (written_rows s a) i ≡ true → has (written_rows s b) i ≡ false
cells_apart s c k a b i is lt low high mine other on =
    let P : List ℕ → Type 0 = λ xs. has xs i ≡ true in
    let Q : List ℕ → Type 0 = λ xs. has xs i ≡ false in
    let n = count_lists s in
    let same : slice_index c.colors a ≡ slice_index c.colors b = eqb-true (slice_index c.colors a) k mine ∙ sym (eqb-true (slice_index c.colors b) k other) in
    subst Q (list_there s b high) (no_shared (lists s) a b i lt (is.apart a b (omega (arith, low, n)) (omega (arith, high, n)) same) (subst P (sym (list_there s a low)) on))

written_item : (s : MeshProblem) (cell : ℕ) → IsWritten s cell → IsItem (pattern_of s) (item_of s cell)
written_item s cell w = record { part = w.part; covers = w.covers; within = w.within; shows = w.shows }

module _ (s : MeshProblem) (c : Coloring) (k : ℕ) (is : IsColoring (lists s) c) where
  pub below : All (λ d. d < length s.given.forest.cells) (coloured c.colors k)
  below i d h =
      let low = All-filter (λ e. slice_index c.colors e == k) (λ e. e < length c.colors) (range_with_len 0 (length c.colors)) (range_below (length c.colors)) i d h in
      omega (arith, low, is.colours.one_each, count_lists s)

  one_color : All (λ d. (slice_index c.colors d == k) ≡ true) (coloured c.colors k)
  one_color = filter_passes (λ e. slice_index c.colors e == k) (range_with_len 0 (length c.colors))

  rising : AllPairs (λ x y. x < y) (coloured c.colors k)
  rising = AllPairs-filter (λ x y. x < y) (λ e. slice_index c.colors e == k) (range_with_len 0 (length c.colors)) (range_pairs (length c.colors))

  number : (i : ℕ) → i < length (coloured c.colors k) → (item_at (items_of s (coloured c.colors k)) i).part.cell ≡ slice_index (coloured c.colors k) i
  number i h = ap (λ (it : RoundItem). it.part.cell) (item_there s (coloured c.colors k) i h) ∙ cell_of_part s (slice_index (coloured c.colors k) i)

  inside : (i : ℕ) → i < length (items_of s (coloured c.colors k)) → i < length (coloured c.colors k)
  inside i h = omega (arith, h, items_count s (coloured c.colors k))

  -- the cells of colour k
  pub color_items : AllWritten s → AreItems (pattern_of s) (items_of s (coloured c.colors k))
  color_items written = record {
    each = λ i h. (let P : RoundItem → Type 0 = IsItem (pattern_of s) in
        subst P (sym (item_there s (coloured c.colors k) i (inside i h))) (written_item s (slice_index (coloured c.colors k) i) (written (slice_index (coloured c.colors k) i) (below i 0 (inside i h)))));
    rising = λ i j lt h. (let high = inside j h in omega (arith, number i (omega (arith, lt, high)), number j high, rising i j 0 lt high));
    apart = λ i j r lt h on. (let high = inside j h in
        let low : i < length (coloured c.colors k) = omega (arith, lt, high) in
        rows_back s (coloured c.colors k) j r false high
        (cells_apart s c k (slice_index (coloured c.colors k) i) (slice_index (coloured c.colors k) j) r is (rising i j 0 lt high) (below i 0 low) (below j 0 high) (one_color i 0 low) (one_color j 0 high)
        (rows_there s (coloured c.colors k) i r true low on)));
  }

-- the same of cells that are those of colour k
pub items_are : (s : MeshProblem) (c : Coloring) (k : ℕ) (cells : List ℕ) → IsColoring (lists s) c → cells ≡ coloured c.colors k → AllWritten s → AreItems (pattern_of s) (items_of s cells)
items_are s c k cells is are written = let P : List ℕ → Type 0 = λ l. AreItems (pattern_of s) (items_of s l) in subst P (sym are) (color_items s c k is written)

pub cells_below : (s : MeshProblem) (c : Coloring) (k : ℕ) (cells : List ℕ) → IsColoring (lists s) c → cells ≡ coloured c.colors k → All (λ d. d < length s.given.forest.cells) cells
cells_below s c k cells is are = let P : List ℕ → Type 0 = All (λ d. d < length s.given.forest.cells) in subst P (sym are) (below s c k is)
