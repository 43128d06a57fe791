-- What a round of cells does to all rows.
use Rattle.std.proofs.Common.{◌≡◌, ◌∙◌, sym, ap, ap₂, subst, refl, ℕ, zero, suc, ◌+◌, ◌<◌, ◌≤◌, ◌^◌, inl, inr, Bool, true, false, List, [], ◌∷◌, length, map, arith, get_or, slice_index, None}
use Rattle.std.specs.List.{range_with_len}
use Rattle.std.proofs.lemmas.Bool.{cases_Bool, cases_lt}
use Rattle.std.proofs.lemmas.List.{ext_get_or, get_or_past, length-map}
use Rattle.std.proofs.lemmas.List.FromFn.{get_or-range_with_len, length-range_with_len}
use mathlib.Core.Option.{some}
use lib.ListN.{get_elem?}
use Rattle.colored_copier.specs.Plans.{In, Rise}
use Rattle.colored_copier.specs.Conditions.{Suits, Worked}
use Rattle.sparsity.specs.Coupled.{has}
use Rattle.sparsity.specs.Rows.{rows_in, AreNumbered}
use Rattle.sparsity.specs.declared.rows.Row.{Row}
use Rattle.serial_sum.specs.Columns.{columns_at}
use Rattle.serial_sum.specs.Rows.{row_at, no_row, FitsRow, FitsRows}
use Rattle.serial_sum.specs.Marks.{RoundItem, item_at, AreItems, IsRound, row_after}
use Rattle.serial_sum.specs.Parts.{CellPart}
use Rattle.mesh_loop.specs.Setup.{MeshProblem, pattern_of, written_rows}
use Rattle.mesh_loop.specs.Sum.{parts_of}
use Rattle.serial_sum.specs.SerialSum.{part_at}
use Rattle.serial_sum.proofs.Fitting.{part_fits}
use Rattle.mesh_loop.proofs.Kept.{written_rise}
use Rattle.colored_sum.specs.Rounds.{item_of, items_of, rows_at, row_with}
use Rattle.colored_sum.proofs.Members.{within, there, read, mapped, in_has, has_in, not_in, rises, rises_pairs, range_pairs, in_range}
use Rattle.colored_sum.proofs.RowSteps.{map_at, part_there}

-- the items
pub items_count : (s : MeshProblem) (cells : List ℕ) → length (items_of s cells) ≡ length cells
items_count s cells = length-map cells (item_of s)

pub item_there : (s : MeshProblem) (cells : List ℕ) (k : ℕ) → k < length cells → item_at (items_of s cells) k ≡ item_of s (slice_index cells k)
item_there s cells k h = map_at (item_of s) cells k 0 (record { part = record { cell = 0; fault = None; list = [] }; rows = [] }) h

pub rows_there : (s : MeshProblem) (cells : List ℕ) (k i : ℕ) (b : Bool) → k < length cells → has (item_at (items_of s cells) k).rows i ≡ b → has (rows_at s cells k) i ≡ b
rows_there s cells k i b h on = let P : RoundItem → Type 0 = λ it. has it.rows i ≡ b in subst P (item_there s cells k h) on

pub rows_back : (s : MeshProblem) (cells : List ℕ) (k i : ℕ) (b : Bool) → k < length cells → has (rows_at s cells k) i ≡ b → has (item_at (items_of s cells) k).rows i ≡ b
rows_back s cells k i b h on = let P : RoundItem → Type 0 = λ it. has it.rows i ≡ b in subst P (sym (item_there s cells k h)) on

-- numbered rows
count_rows : (numbered : List (ℕ × Row)) → length (rows_in numbered) ≡ length numbered
unfolding rows_in
count_rows numbered = length-map numbered (λ (e : ℕ × Row). e.1)

row_read : (numbered : List (ℕ × Row)) (k r : ℕ) (x : Row) → get_elem? numbered k ≡ some (r, x) → row_at (rows_in numbered) k ≡ x
unfolding rows_in
row_read numbered k r x e = read (map (λ (e : ℕ × Row). e.1) numbered) k no_row x (mapped (λ (e : ℕ × Row). e.1) numbered k (r, x) e)

number_read : (numbered : List (ℕ × Row)) (k r : ℕ) (x : Row) → AreNumbered numbered → get_elem? numbered k ≡ some (r, x) → r ≡ k
number_read numbered k r x are e =
    let inside : k < length numbered = within numbered k (r, x) e in
    let is : get_or (map (λ (e : ℕ × Row). e.0) numbered) k 0 ≡ r = read (map (λ (e : ℕ × Row). e.0) numbered) k 0 r (mapped (λ (e : ℕ × Row). e.0) numbered k (r, x) e) in
    let at : get_or (map (λ (e : ℕ × Row). e.0) numbered) k 0 ≡ 0 + k = ap (λ (l : List ℕ). get_or l k 0) are ∙ get_or-range_with_len 0 (length numbered) k 0 inside in
    omega (arith, is, at)

entry_there : (numbered : List (ℕ × Row)) (k : ℕ) → AreNumbered numbered → k < length numbered → get_elem? numbered k ≡ some (k, row_at (rows_in numbered) k)
entry_there numbered k are inside =
    let d : ℕ × Row = (0, no_row) in
    let e : ℕ × Row = get_or numbered k d in
    let at : get_elem? numbered k ≡ some (e.0, e.1) = there numbered k d inside in
    let number : e.0 ≡ k = number_read numbered k e.0 e.1 are at in
    let row : e.1 ≡ row_at (rows_in numbered) k = sym (row_read numbered k e.0 e.1 at) in
    at ∙ ap₂ (λ (n : ℕ) (x : Row). some (n, x)) number row

-- the rows suit a round of cells
pub suits : {J : Type 0} (count : J → ℕ) (rows_of : J → ℕ → List ℕ) (fits : J → ℕ → Row → Type 0) (job : J) (s : MeshProblem) (cells : List ℕ) (numbered : List (ℕ × Row)) →
    count job ≡ length cells → ((n : ℕ) → rows_of job n ≡ rows_at s cells n) → ((i : ℕ) (row : Row) → FitsRow (columns_at (pattern_of s) i) row → fits job i row) → length cells ≤ 2 ^ 32 →
    AreNumbered numbered → AreItems (pattern_of s) (items_of s cells) → FitsRows (pattern_of s) (rows_in numbered) → Suits count rows_of fits job numbered
suits count rows_of fits job s cells numbered as_many rows_are fit few are items small = record {
  few = omega (arith, as_many, few);
  rise = (let P : List ℕ → Type 0 = Rise in subst P (sym are) (rises_pairs (range_with_len 0 (length numbered)) (range_pairs (length numbered))));
  items_rise = λ n lt. (let P : List ℕ → Type 0 = Rise in subst P (sym (rows_are n)) (rises (rows_at s cells n) (written_rise s (slice_index cells n) (rows_at s cells n) refl)));
  among = λ n r lt h. (let P : List ℕ → Type 0 = In r in subst P (sym are) (in_range (length numbered) r (named n r lt h)));
  once = λ m n r lm ln a b. by_order m n r lm ln a b;
  fit = λ k r x e. (let number = number_read numbered k r x are e in
      let inside : k < length numbered = within numbered k (r, x) e in
      let P : Row → Type 0 = λ row. FitsRow (columns_at (pattern_of s) r) row in
      let Q : ℕ → Type 0 = λ n. FitsRow (columns_at (pattern_of s) n) (row_at (rows_in numbered) k) in
      fit r x (subst P (row_read numbered k r x e) (subst Q (sym number) (small.each k (omega (arith, inside, count_rows numbered, small.count))))));
}
  where
    on : (n r : ℕ) → n < count job → In r (rows_of job n) → has (item_at (items_of s cells) n).rows r ≡ true
    on n r lt h = (let P : List ℕ → Type 0 = In r in rows_back s cells n r true (omega (arith, lt, as_many)) (in_has (rows_at s cells n) r (subst P (rows_are n) h)))

    named : (n r : ℕ) → n < count job → In r (rows_of job n) → r < length numbered
    named n r lt h = (let low = (items.each n (omega (arith, lt, as_many, items_count s cells))).within r (on n r lt h) in omega (arith, low, count_rows numbered, small.count))

    both : true ≡ false → ⊥
    both e = cc

    less : (m n r : ℕ) → m < n → m < count job → n < count job → In r (rows_of job m) → In r (rows_of job n) → ⊥
    less m n r lt lm ln a b = both (sym (on n r ln b) ∙ items.apart m n r lt (omega (arith, ln, as_many, items_count s cells)) (on m r lm a))

    by_order : (m n r : ℕ) → m < count job → n < count job → In r (rows_of job m) → In r (rows_of job n) → m ≡ n
    by_order m n r lm ln a b = elim (cases_lt m n) [
      | inl lt ↦ absurd (less m n r lt lm ln a b)
      | inr ge ↦ elim (cases_lt n m) [
        | inl lt ↦ absurd (less n m r lt ln lm b a)
        | inr le ↦ omega (arith, ge, le)
      ]
    ]

-- some cell writes the row, or none does
data Naming (s : MeshProblem) (cells : List ℕ) (i : ℕ) : Type 0 where
  by : (k : ℕ) → k < length cells → has (rows_at s cells k) i ≡ true → Naming s cells i
  none : ((k : ℕ) → k < length cells → has (rows_at s cells k) i ≡ false) → Naming s cells i

naming : (s : MeshProblem) (cells : List ℕ) (i : ℕ) → Naming s cells i
naming s [] i = none (λ k h. absurd (omega (arith, h)))
naming s (c ∷ cells) i = elim (cases_Bool (has (written_rows s c) i)) [
  | inl on ↦ by 0 (omega arith) on
  | inr off ↦ elim (naming s cells i) [
    | by k h on ↦ by (suc k) (omega (arith, h)) on
    | none all ↦ none (λ k h. by_place k h all off)
  ]
]
  where
    by_place : (k : ℕ) → k < suc (length cells) → ((l : ℕ) → l < length cells → has (rows_at s cells l) i ≡ false) → has (written_rows s c) i ≡ false → has (rows_at s (c ∷ cells) k) i ≡ false
    by_place zero h all off = off
    by_place (suc k) h all off = all k (omega (arith, h))

-- what a round leaves
pub record IsAdded (digits : ℕ) (s : MeshProblem) (cells : List ℕ) (old : List Row) (numbered : List (ℕ × Row)) : Type 0 where
  pub numbers : AreNumbered numbered
  pub round : IsRound digits (pattern_of s) (items_of s cells) old (rows_in numbered)
  pub fits : FitsRows (pattern_of s) (rows_in numbered)

module _ {J : Type 0} (count : J → ℕ) (rows_of : J → ℕ → List ℕ) (row_step : J → Row → ℕ → ℕ → Row) (job : J) (s : MeshProblem) (cells : List ℕ) (digits : ℕ) (old new : List (ℕ × Row))
    (as_many : count job ≡ length cells) (rows_are : (n : ℕ) → rows_of job n ≡ rows_at s cells n) (steps_are : (x : Row) (n i : ℕ) → row_step job x n i ≡ row_with s cells digits x n i)
    (are : AreNumbered old) (items : AreItems (pattern_of s) (items_of s cells)) (fits : FitsRows (pattern_of s) (rows_in old)) (worked : Worked count rows_of row_step job old new) where
  size : length old ≡ length (pattern_of s)
  size = sym (count_rows old) ∙ fits.count

  -- the entry of a row that a cell writes
  stepped : (k i : ℕ) → k < length cells → has (rows_at s cells k) i ≡ true → get_elem? new i ≡ some (i, row_with s cells digits (row_at (rows_in old) i) k i)
  stepped k i h on =
      let P : List ℕ → Type 0 = In i in
      let low : i < length old = (let t = (items.each k (omega (arith, h, items_count s cells))).within i (rows_back s cells k i true h on) in omega (arith, t, size)) in
      worked.named k i i (row_at (rows_in old) i) (omega (arith, h, as_many)) (subst P (sym (rows_are k)) (has_in (rows_at s cells k) i on)) (entry_there old i are low)
      ∙ ap (λ (x : Row). some (i, x)) (steps_are (row_at (rows_in old) i) k i)

  -- and of one that none writes
  left : (i : ℕ) → i < length old → ((k : ℕ) → k < length cells → has (rows_at s cells k) i ≡ false) → get_elem? new i ≡ some (i, row_at (rows_in old) i)
  left i low off =
      worked.others i i (row_at (rows_in old) i) (entry_there old i are low) (λ n lt h. let P : List ℕ → Type 0 = In i in not_in (rows_at s cells n) i (off n (omega (arith, lt, as_many))) (subst P (rows_are n) h))

  row_stepped : (k i : ℕ) → k < length cells → has (rows_at s cells k) i ≡ true → row_at (rows_in new) i ≡ row_with s cells digits (row_at (rows_in old) i) k i
  row_stepped k i h on = row_read new i i (row_with s cells digits (row_at (rows_in old) i) k i) (stepped k i h on)

  row_left : (i : ℕ) → ((k : ℕ) → k < length cells → has (rows_at s cells k) i ≡ false) → row_at (rows_in new) i ≡ row_at (rows_in old) i
  row_left i off = elim (cases_lt i (length old)) [
    | inl low ↦ row_read new i i (row_at (rows_in old) i) (left i low off)
    | inr past ↦ get_or_past (rows_in new) i no_row (omega (arith, past, count_rows new, worked.as_many)) ∙ sym (get_or_past (rows_in old) i no_row (omega (arith, past, count_rows old)))
  ]

  number_kept : (i : ℕ) → i < length new → get_or (map (λ (e : ℕ × Row). e.0) new) i 0 ≡ i
  number_kept i h = elim (naming s cells i) [
    | by k inside on ↦ read (map (λ (e : ℕ × Row). e.0) new) i 0 i (mapped (λ (e : ℕ × Row). e.0) new i _ (stepped k i inside on))
    | none off ↦ read (map (λ (e : ℕ × Row). e.0) new) i 0 i (mapped (λ (e : ℕ × Row). e.0) new i _ (left i (omega (arith, h, worked.as_many)) off))
  ]

  numbers_kept : AreNumbered new
  numbers_kept =
      ext_get_or 0 (map (λ (e : ℕ × Row). e.0) new) (range_with_len 0 (length new)) (length-map new (λ (e : ℕ × Row). e.0) ∙ sym (length-range_with_len 0 (length new))) (λ i h.
      let low : i < length new = omega (arith, h, length-map new (λ (e : ℕ × Row). e.0)) in
      let at = get_or-range_with_len 0 (length new) i 0 low in
      number_kept i low ∙ omega (arith, at))

  is_round : IsRound digits (pattern_of s) (items_of s cells) (rows_in old) (rows_in new)
  is_round = record {
    count = count_rows new ∙ worked.as_many ∙ sym (count_rows old);
    named = λ k i inside on. (let h : k < length cells = omega (arith, inside, items_count s cells) in
        row_stepped k i h (rows_there s cells k i true h on)
        ∙ ap (λ (p : CellPart). row_after digits (columns_at (pattern_of s) i) i (row_at (rows_in old) i) p) (part_there s cells k h ∙ sym (ap (λ (it : RoundItem). it.part) (item_there s cells k h))));
    others = λ i off. row_left i (λ k h. rows_there s cells k i false h (off k (omega (arith, h, items_count s cells))));
  }

  still_fit : FitsRows (pattern_of s) (rows_in new)
  still_fit = record {
    count = count_rows new ∙ worked.as_many ∙ size;
    each = λ i h. (let P : Row → Type 0 = λ row. FitsRow (columns_at (pattern_of s) i) row in
        elim (naming s cells i) [
          | by k inside on ↦ subst P (sym (row_stepped k i inside on)) (part_fits digits (columns_at (pattern_of s) i) i (row_at (rows_in old) i) (part_at (parts_of s cells) k) (fits.each i h))
          | none off ↦ subst P (sym (row_left i off)) (fits.each i h)
        ]);
  }

  pub added : IsAdded digits s cells (rows_in old) new
  added = record { numbers = numbers_kept; round = is_round; fits = still_fit }
