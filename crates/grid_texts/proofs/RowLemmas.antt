-- Rows of nodes and cells.
use Rattle.std.proofs.Common.{◌≡◌, ◌∙◌, ◌+◌, ◌*◌, ◌-◌, ◌/◌, ◌%◌, ◌≤◌, ◌<◌, ◌++◌, ap, sym, ℕ, zero, suc, List, Bool, true, false, cond, ◌&&◌, nat_lt, min, refl, arith, append_assoc, append-nil, add-zero, inl, inr, []}
use Rattle.std.specs.Prelude.{◌⊎◌}
use Rattle.std.proofs.lemmas.Bool.Decides.{nat_tests}
use borrow.Author.Tests.{ltb-true, ltb-false}
use mathlib.Core.Path.{fun_ext}
use Rattle.std.proofs.Math.Nat.{zero-mul}
use Rattle.std.specs.List.{flat_map, range_with_len}
use Rattle.grid_texts.specs.Draws.{state_after, draw}
use Rattle.grid_texts.specs.Grid.{is_interior, interior_number, shift_along_x, shift_along_y, node_line, node_lines, draws_of_nodes, material, cell_line, cell_lines, head_line, mesh_text}
use Rattle.grid_texts.specs.Rows.{shift, is_inner_row, draws_in_row, node_row, node_rows, cell_row, cell_rows}
use Rattle.grid_texts.proofs.States.{state_after-add}
use Rattle.grid_texts.proofs.Counting.{flat_map-range_more}

pub cell_row-more : (n j state i : ℕ) → cell_row n j state (i + 1) ≡ cell_row n j state i ++ cell_line n i j (1 + draw state (1 + i) % 4)
unfolding cell_row
cell_row-more n j state i = flat_map-range_more (λ k. cell_line n k j (1 + draw state (1 + k) % 4)) i

pub cell_rows-more : (n state j : ℕ) → cell_rows n state (j + 1) ≡ cell_rows n state j ++ cell_row n j (state_after state (n * j)) n
unfolding cell_rows
cell_rows-more n state j = flat_map-range_more (λ k. cell_row n k (state_after state (n * k)) n) j

pub node_row-more : (n j state i : ℕ) → node_row n j state (i + 1) ≡ node_row n j state i
    ++ node_line n i j (shift (is_interior n i j) state (2 * (i - 1) + 1)) (shift (is_interior n i j) state (2 * (i - 1) + 2))
unfolding node_row
node_row-more n j state i = flat_map-range_more (λ k. node_line n k j (shift (is_interior n k j) state (2 * (k - 1) + 1)) (shift (is_interior n k j) state (2 * (k - 1) + 2))) i

pub node_rows-more : (n state j : ℕ) → node_rows n state (j + 1) ≡ node_rows n state j ++ node_row n j (state_after state (2 * ((min j n - 1) * (n - 1)))) (n + 1)
unfolding node_rows
node_rows-more n state j = flat_map-range_more (λ k. node_row n k (state_after state (2 * ((min k n - 1) * (n - 1)))) (n + 1)) j

-- a draw behind others
draw_behind : (state before k whole : ℕ) → before + k ≡ whole → draw (state_after state before) k ≡ draw state whole
draw_behind state before k whole is = ap (λ s. s / 8589934592) (state_after-add state before k ∙ ap (λ m. state_after state m) is)

-- the cells of a grid are those of its rows

cell_is : (n seed i j : ℕ) → cell_line n i j (1 + draw (state_after (state_after seed (draws_of_nodes n)) (n * j)) (1 + i) % 4) ≡ cell_line n i j (material n seed i j)
cell_is n seed i j =
    let e : n * j + (1 + i) ≡ 1 + (i + n * j) = omega arith in
    let f : draws_of_nodes n + (1 + (i + n * j)) ≡ draws_of_nodes n + 1 + (i + n * j) = omega arith in
    ap (λ d. cell_line n i j (1 + d % 4))
    (draw_behind (state_after seed (draws_of_nodes n)) (n * j) (1 + i) (1 + (i + n * j)) e
    ∙ draw_behind seed (draws_of_nodes n) (1 + (i + n * j)) (draws_of_nodes n + 1 + (i + n * j)) f)

pub cell_lines-rows : (n seed : ℕ) → cell_rows n (state_after seed (draws_of_nodes n)) n ≡ cell_lines n seed
unfolding cell_rows cell_row
cell_lines-rows n seed =
    ap (λ f. flat_map f (range_with_len 0 n)) (fun_ext (λ j. ap (λ f. flat_map f (range_with_len 0 n)) (fun_ext (λ i. cell_is n seed i j))))

-- interior nodes

pub record IsInside (n i j : ℕ) : Type 0 where
  pub right : 0 < i
  pub left : i < n
  pub above : 0 < j
  pub below : j < n

four_true : (a b c d : Bool) → (a && b && c && d) ≡ true → (a ≡ true) × (b ≡ true) × (c ≡ true) × (d ≡ true)
four_true true true true d is = (refl, refl, refl, is)
four_true true true false d is = cc
four_true true false c d is = cc
four_true false b c d is = cc

pub inside_is : (n i j : ℕ) → is_interior n i j ≡ true → IsInside n i j
inside_is n i j inside =
    let all = four_true (nat_lt 0 i) (nat_lt i n) (nat_lt 0 j) (nat_lt j n) inside in
    record { right = ltb-true 0 i all.0; left = ltb-true i n all.1; above = ltb-true 0 j all.2; below = ltb-true j n all.3 }

both_true : (a b : Bool) → (a && b) ≡ true → (a ≡ true) × (b ≡ true)
both_true true b is = (refl, is)
both_true false b is = cc

both_false : (a b : Bool) → (a && b) ≡ false → (a ≡ false) ⊎ (b ≡ false)
both_false true b is = inr is
both_false false b is = inl refl

pub outer_is : (n j : ℕ) → is_inner_row n j ≡ false → (j ≤ 0) ⊎ (n ≤ j)
outer_is n j outer =
    (elim (both_false (nat_lt 0 j) (nat_lt j n) outer) as (λ _. (j ≤ 0) ⊎ (n ≤ j))
    [ inl first ↦ inl (ltb-false 0 j first) | inr second ↦ inr (ltb-false j n second) ])

inner_is : (n j : ℕ) → is_inner_row n j ≡ true → (0 < j) × (j < n)
inner_is n j inner = (ltb-true 0 j (both_true (nat_lt 0 j) (nat_lt j n) inner).0, ltb-true j n (both_true (nat_lt 0 j) (nat_lt j n) inner).1)

inside_row : (n i j : ℕ) → is_interior n i j ≡ true → is_inner_row n j ≡ true
inside_row n i j inside =
    let all = four_true (nat_lt 0 i) (nat_lt i n) (nat_lt 0 j) (nat_lt j n) inside in
    rw (all.2, all.3) refl

-- within a row

draws_inside : (n i j : ℕ) → is_interior n i j ≡ true → draws_in_row n j i ≡ 2 * (i - 1)
draws_inside n i j inside =
    let facts = inside_is n i j inside in
    let e : 2 * (min i n - 1) ≡ 2 * (i - 1) = omega (arith, facts.left) in
    ap (λ b. cond b (2 * (min i n - 1)) 0) (inside_row n i j inside) ∙ e

pub shift_in_row : (n j i state k : ℕ) → shift (is_interior n i j) (state_after state (draws_in_row n j i)) k ≡ shift (is_interior n i j) state (2 * (i - 1) + k)
shift_in_row n j i state k =
    (elim (is_interior n i j) as (λ b. is_interior n i j ≡ b → shift b (state_after state (draws_in_row n j i)) k ≡ shift b state (2 * (i - 1) + k)) [
      | true ↦ λ inside. ap (λ d. d % 3) (draw_behind state (draws_in_row n j i) k (2 * (i - 1) + k) (ap (λ m. m + k) (draws_inside n i j inside)))
      | false ↦ λ inside. refl
    ]) refl

edge_tests : (a b c d : Bool) → (a && b && c && d) ≡ false → (c && d) ≡ true → (a ≡ false) ⊎ (b ≡ false)
edge_tests false b c d outside inner = inl refl
edge_tests true false c d outside inner = inr refl
edge_tests true true true true outside inner = cc
edge_tests true true true false outside inner = cc
edge_tests true true false d outside inner = cc

edge_is : (n i j : ℕ) → is_interior n i j ≡ false → is_inner_row n j ≡ true → min i n - 1 ≡ min (i + 1) n - 1
edge_is n i j outside inner =
    (elim (edge_tests (nat_lt 0 i) (nat_lt i n) (nat_lt 0 j) (nat_lt j n) outside inner) as (λ _. min i n - 1 ≡ min (i + 1) n - 1)
    [ inl first ↦ (let h : i ≤ 0 = ltb-false 0 i first in omega arith) | inr second ↦ (let h : n ≤ i = ltb-false i n second in omega arith) ])

outside_add : (n j i : ℕ) → is_interior n i j ≡ false → (inner : Bool) → is_inner_row n j ≡ inner →
    cond inner (2 * (min i n - 1)) 0 + 0 ≡ cond inner (2 * (min (i + 1) n - 1)) 0
outside_add n j i outside true is = let e = edge_is n i j outside is in omega (arith, e)
outside_add n j i outside false is = refl

in_row_add : (n j i : ℕ) → draws_in_row n j i + cond (is_interior n i j) 2 0 ≡ draws_in_row n j (i + 1)
in_row_add n j i =
    (elim (is_interior n i j) as (λ b. is_interior n i j ≡ b → draws_in_row n j i + cond b 2 0 ≡ draws_in_row n j (i + 1)) [
      | true ↦ λ inside.
          let facts = inside_is n i j inside in
          let now = draws_inside n i j inside in
          let then_ : draws_in_row n j (i + 1) ≡ 2 * (min (i + 1) n - 1) = ap (λ b. cond b (2 * (min (i + 1) n - 1)) 0) (inside_row n i j inside) in
          omega (arith, facts.right, facts.left, now, then_)
      | false ↦ λ inside. outside_add n j i inside (is_inner_row n j) refl
    ]) refl

pub state_in_row : (n j i state : ℕ) → cond (is_interior n i j) (state_after (state_after state (draws_in_row n j i)) 2) (state_after state (draws_in_row n j i)) ≡ state_after state (draws_in_row n j (i + 1))
state_in_row n j i state =
    (elim (is_interior n i j) as (λ b. draws_in_row n j i + cond b 2 0 ≡ draws_in_row n j (i + 1) →
    cond b (state_after (state_after state (draws_in_row n j i)) 2) (state_after state (draws_in_row n j i)) ≡ state_after state (draws_in_row n j (i + 1))) [
      | true ↦ λ is. state_after-add state (draws_in_row n j i) 2 ∙ ap (λ m. state_after state m) is
      | false ↦ λ is. let e : draws_in_row n j i ≡ draws_in_row n j i + 0 = omega arith in ap (λ m. state_after state m) (e ∙ is)
    ]) (in_row_add n j i)

pub row_step : (n j i state now x y : ℕ) (start before after : List ℕ) → now ≡ state_after state (draws_in_row n j i) →
    x ≡ shift (is_interior n i j) now 1 → y ≡ shift (is_interior n i j) now 2 →
    before ≡ start ++ node_row n j state i → after ≡ before ++ node_line n i j x y → after ≡ start ++ node_row n j state (i + 1)
row_step n j i state now x y start before after now_is x_is y_is before_is after_is =
    let along_x = x_is ∙ ap (λ s. shift (is_interior n i j) s 1) now_is ∙ shift_in_row n j i state 1 in
    let along_y = y_is ∙ ap (λ s. shift (is_interior n i j) s 2) now_is ∙ shift_in_row n j i state 2 in
    after_is ∙ ap (λ list. list ++ node_line n i j x y) before_is ∙ append_assoc start (node_row n j state i) (node_line n i j x y)
    ∙ ap (λ line. start ++ (node_row n j state i ++ line))
    (ap (λ s. node_line n i j s y) along_x ∙ ap (λ s. node_line n i j (shift (is_interior n i j) state (2 * (i - 1) + 1)) s) along_y)
    ∙ ap (λ list. start ++ list) (sym (node_row-more n j state i))

pub row_state : (n j i state now new : ℕ) → now ≡ state_after state (draws_in_row n j i) →
    new ≡ cond (is_interior n i j) (state_after now 2) now → new ≡ state_after state (draws_in_row n j (i + 1))
row_state n j i state now new now_is new_is = new_is ∙ ap (λ s. cond (is_interior n i j) (state_after s 2) s) now_is ∙ state_in_row n j i state

-- row after row

rows_product : (r p : ℕ) → 2 * (r * p) + 2 * p ≡ 2 * (suc r * p)
rows_product r p = omega arith

rows_add : (n j : ℕ) → 2 * ((min j n - 1) * (n - 1)) + draws_in_row n j (n + 1) ≡ 2 * ((min (j + 1) n - 1) * (n - 1))
rows_add n j =
    (elim (is_inner_row n j) as (λ b. is_inner_row n j ≡ b → 2 * ((min j n - 1) * (n - 1)) + cond b (2 * (min (n + 1) n - 1)) 0 ≡ 2 * ((min (j + 1) n - 1) * (n - 1))) [
      | true ↦ λ inner.
          let facts = inner_is n j inner in
          let above = facts.0 in
          let below = facts.1 in
          let first : min j n - 1 ≡ j - 1 = omega arith in
          let last : min (n + 1) n - 1 ≡ n - 1 = omega arith in
          let next : min (j + 1) n - 1 ≡ suc (j - 1) = omega arith in
          rw (first, last, next) (rows_product (j - 1) (n - 1))
      | false ↦ λ outer.
          let same : min j n - 1 ≡ min (j + 1) n - 1 = (elim (outer_is n j outer) as (λ _. min j n - 1 ≡ min (j + 1) n - 1) [ inl h ↦ omega arith | inr h ↦ omega arith ]) in
          rw same (add-zero (2 * ((min (j + 1) n - 1) * (n - 1))))
    ]) refl

pub rows_state : (n j state now new : ℕ) → now ≡ state_after state (2 * ((min j n - 1) * (n - 1))) → new ≡ state_after now (draws_in_row n j (n + 1)) →
    new ≡ state_after state (2 * ((min (j + 1) n - 1) * (n - 1)))
rows_state n j state now new now_is new_is =
    new_is ∙ ap (λ s. state_after s (draws_in_row n j (n + 1))) now_is ∙ state_after-add state (2 * ((min j n - 1) * (n - 1))) (draws_in_row n j (n + 1))
    ∙ ap (λ m. state_after state m) (rows_add n j)

pub rows_step : (n j state now : ℕ) (start before after : List ℕ) → now ≡ state_after state (2 * ((min j n - 1) * (n - 1))) →
    before ≡ start ++ node_rows n state j → after ≡ before ++ node_row n j now (n + 1) → after ≡ start ++ node_rows n state (j + 1)
rows_step n j state now start before after now_is before_is after_is =
    let row = node_row n j (state_after state (2 * ((min j n - 1) * (n - 1)))) (n + 1) in
    after_is ∙ ap (λ list. list ++ node_row n j now (n + 1)) before_is ∙ ap (λ s. (start ++ node_rows n state j) ++ node_row n j s (n + 1)) now_is
    ∙ append_assoc start (node_rows n state j) row ∙ ap (λ list. start ++ list) (sym (node_rows-more n state j))

-- the nodes of a grid are those of its rows

numbered : (p q k : ℕ) → 2 * p + (2 * q + k) ≡ 2 * (p + q) + k
numbered p q k = omega arith

shift_is : (n seed i j k : ℕ) → shift (is_interior n i j) (state_after seed (2 * ((min j n - 1) * (n - 1)))) (2 * (i - 1) + k)
    ≡ cond (is_interior n i j) (draw seed (2 * interior_number n i j + k) % 3) 0
shift_is n seed i j k =
    (elim (is_interior n i j) as (λ b. is_interior n i j ≡ b → shift b (state_after seed (2 * ((min j n - 1) * (n - 1)))) (2 * (i - 1) + k) ≡ cond b (draw seed (2 * interior_number n i j + k) % 3) 0) [
      | true ↦ λ inside.
          let facts = inside_is n i j inside in
          let row : min j n ≡ j = omega (arith, facts.below) in
          ap (λ d. d % 3) (draw_behind seed (2 * ((min j n - 1) * (n - 1))) (2 * (i - 1) + k) (2 * interior_number n i j + k)
          (ap (λ m. 2 * ((m - 1) * (n - 1)) + (2 * (i - 1) + k)) row ∙ numbered ((j - 1) * (n - 1)) (i - 1) k))
      | false ↦ λ inside. refl
    ]) refl

node_is : (n seed i j : ℕ) →
    node_line n i j (shift (is_interior n i j) (state_after seed (2 * ((min j n - 1) * (n - 1)))) (2 * (i - 1) + 1)) (shift (is_interior n i j) (state_after seed (2 * ((min j n - 1) * (n - 1)))) (2 * (i - 1) + 2))
    ≡ node_line n i j (shift_along_x n seed i j) (shift_along_y n seed i j)
node_is n seed i j =
    ap (λ x. node_line n i j x (shift (is_interior n i j) (state_after seed (2 * ((min j n - 1) * (n - 1)))) (2 * (i - 1) + 2))) (shift_is n seed i j 1)
    ∙ ap (λ y. node_line n i j (shift_along_x n seed i j) y) (shift_is n seed i j 2)

pub node_lines-rows : (n seed : ℕ) → node_rows n seed (n + 1) ≡ node_lines n seed
unfolding node_rows node_row
node_lines-rows n seed =
    ap (λ f. flat_map f (range_with_len 0 (n + 1))) (fun_ext (λ j. ap (λ f. flat_map f (range_with_len 0 (n + 1))) (fun_ext (λ i. node_is n seed i j))))

pub draws_of_rows : (n state : ℕ) → state_after state (2 * ((min (n + 1) n - 1) * (n - 1))) ≡ state_after state (draws_of_nodes n)
draws_of_rows n state = let last : min (n + 1) n ≡ n = omega arith in ap (λ m. state_after state (2 * ((m - 1) * (n - 1)))) last

-- before the first and behind the last

state_after-none : (state : ℕ) → state_after state 0 ≡ state
unfolding state_after
state_after-none state = refl

pub node_row-none : (n j state : ℕ) (start : List ℕ) → start ≡ start ++ node_row n j state 0
unfolding node_row
node_row-none n j state start = sym (append-nil start)

pub node_rows-none : (n state : ℕ) (start : List ℕ) → start ≡ start ++ node_rows n state 0
unfolding node_rows
node_rows-none n state start = sym (append-nil start)

pub cell_row-none : (n j state : ℕ) (start : List ℕ) → start ≡ start ++ cell_row n j state 0
unfolding cell_row
cell_row-none n j state start = sym (append-nil start)

pub cell_rows-none : (n state : ℕ) (start : List ℕ) → start ≡ start ++ cell_rows n state 0
unfolding cell_rows
cell_rows-none n state start = sym (append-nil start)

pub state-none : (state none : ℕ) → none ≡ 0 → state ≡ state_after state none
state-none state none is = sym (ap (λ m. state_after state m) is ∙ state_after-none state)

pub draws_in_row-none : (n j : ℕ) → draws_in_row n j 0 ≡ 0
draws_in_row-none n j =
    (elim (is_inner_row n j) as (λ b. cond b (2 * (min 0 n - 1)) 0 ≡ 0) [ true ↦ omega arith | false ↦ refl ])

pub draws_of_rows-none : (n : ℕ) → 2 * ((min 0 n - 1) * (n - 1)) ≡ 0
draws_of_rows-none n = let e : min 0 n - 1 ≡ 0 = omega arith in ap (λ m. 2 * (m * (n - 1))) e ∙ ap (λ m. 2 * m) (zero-mul (n - 1))

-- cells, one after another

pub cell_step : (n j i state now drawn : ℕ) (start before after : List ℕ) → now ≡ state_after state i → drawn ≡ draw now 1 →
    before ≡ start ++ cell_row n j state i → after ≡ before ++ cell_line n i j (1 + drawn % 4) → after ≡ start ++ cell_row n j state (i + 1)
cell_step n j i state now drawn start before after now_is drawn_is before_is after_is =
    let e : i + 1 ≡ 1 + i = omega arith in
    let value = drawn_is ∙ ap (λ s. draw s 1) now_is ∙ draw_behind state i 1 (1 + i) e in
    after_is ∙ ap (λ list. list ++ cell_line n i j (1 + drawn % 4)) before_is ∙ append_assoc start (cell_row n j state i) (cell_line n i j (1 + drawn % 4))
    ∙ ap (λ d. start ++ (cell_row n j state i ++ cell_line n i j (1 + d % 4))) value ∙ ap (λ list. start ++ list) (sym (cell_row-more n j state i))

pub cell_state : (i state now new : ℕ) → now ≡ state_after state i → new ≡ state_after now 1 → new ≡ state_after state (i + 1)
cell_state i state now new now_is new_is = new_is ∙ ap (λ s. state_after s 1) now_is ∙ state_after-add state i 1

pub cell_rows_step : (n j state now : ℕ) (start before after : List ℕ) → now ≡ state_after state (n * j) →
    before ≡ start ++ cell_rows n state j → after ≡ before ++ cell_row n j now n → after ≡ start ++ cell_rows n state (j + 1)
cell_rows_step n j state now start before after now_is before_is after_is =
    after_is ∙ ap (λ list. list ++ cell_row n j now n) before_is ∙ ap (λ s. (start ++ cell_rows n state j) ++ cell_row n j s n) now_is
    ∙ append_assoc start (cell_rows n state j) (cell_row n j (state_after state (n * j)) n) ∙ ap (λ list. start ++ list) (sym (cell_rows-more n state j))

pub cell_rows_state : (n j state now new : ℕ) → now ≡ state_after state (n * j) → new ≡ state_after now n → new ≡ state_after state (n * (j + 1))
cell_rows_state n j state now new now_is new_is =
    let e : n * j + n ≡ n * (j + 1) = omega arith in
    new_is ∙ ap (λ s. state_after s n) now_is ∙ state_after-add state (n * j) n ∙ ap (λ m. state_after state m) e

-- the whole text

pub mesh_is : (n seed before behind : ℕ) (empty head nodes cells : List ℕ) → empty ≡ [] → head ≡ empty ++ head_line n → before ≡ seed →
    nodes ≡ head ++ node_lines n before → behind ≡ state_after before (draws_of_nodes n) → cells ≡ nodes ++ cell_rows n behind n → cells ≡ mesh_text n seed
unfolding mesh_text
mesh_is n seed before behind empty head nodes cells empty_is head_is before_is nodes_is behind_is cells_is =
    cells_is ∙ ap (λ s. nodes ++ cell_rows n s n) (behind_is ∙ ap (λ s. state_after s (draws_of_nodes n)) before_is)
    ∙ ap (λ list. nodes ++ list) (cell_lines-rows n seed)
    ∙ ap (λ list. list ++ cell_lines n seed) (nodes_is ∙ ap (λ s. head ++ node_lines n s) before_is
    ∙ ap (λ list. list ++ node_lines n seed) (head_is ∙ ap (λ list. list ++ head_line n) empty_is))
