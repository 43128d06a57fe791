-- The table from rows to cells.
use Rattle.std.proofs.Common.{◌≡◌, ⊎_elim, ℕ, ◌+◌, ◌-◌, ◌<◌, ◌≤◌, List, [], ◌∷◌, ◌++◌, length, Bool, true, ◌&&◌, ◌||◌, ◌==◌, slice_index, slice_index_or, take, drop, map, refl, sym, ◌∙◌, ap, arith, zero, suc, subst}
use Rattle.std.specs.Prelude.{All, flat_map}
use Rattle.std.specs.List.{range_with_len, list_any}
use Rattle.std.proofs.lemmas.Bool.{eq-eqb, eqb-true, cases_lt}
use Rattle.std.proofs.lemmas.List.{append-nil, map-append, get_or-map, length-map, take-append-le, take_all}
use Rattle.std.proofs.lemmas.List.Concat.{flat_map-append}
use Rattle.std.proofs.lemmas.List.Folds.{list_any-append}
use Rattle.std.proofs.Math.Seq.{drop-append_seam}
use Rattle.std.proofs.lemmas.Grind.{common_steps}
use Rattle.conflict_coloring.specs.Conflict.{has, rows_of}
use Rattle.conflict_coloring.specs.Colours.{order_of, coloured}
use Rattle.conflict_coloring.specs.Cut.{part}
use Rattle.conflict_coloring.specs.RowTable.{IsByRow, pairs}
use Rattle.conflict_coloring.proofs.Members.{any_from, any_split, has_all}
use Rattle.conflict_coloring.proofs.Picks.{any_pick, any_map, and_left, and_right, and_both, bool_iff}
use Rattle.conflict_coloring.proofs.Spreads.{has_range}
use Rattle.conflict_coloring.proofs.Table.{any_filter, any_agree, rows_past}
use Rattle.conflict_coloring.proofs.Ranges.{range_more, order_more}
use Rattle.conflict_coloring.proofs.Counting.{order_next, order_short, order_full}

pub pairs_more : (cells : List (List ℕ)) (c : ℕ) → pairs cells (c + 1) ≡ pairs cells c ++ map (λ r. (r, c)) (rows_of cells c)
pairs_more cells c =
    ap (flat_map (λ x. map (λ r. (r, x)) (rows_of cells x))) (range_more c) ∙ flat_map-append (λ x. map (λ r. (r, x)) (rows_of cells x)) (range_with_len 0 c) (c ∷ [])
    ∙ ap (λ xs. pairs cells c ++ xs) (append-nil (map (λ r. (r, c)) (rows_of cells c)))

map_first : (c : ℕ) (xs : List ℕ) → map {A = ℕ × ℕ} {B = ℕ} (λ p. p.0) (map (λ r. (r, c)) xs) ≡ xs
map_first c [] = refl
map_first c (x ∷ xs) = ap (λ ys. x ∷ ys) (map_first c xs)

map_second : (c : ℕ) (xs : List ℕ) → map {A = ℕ × ℕ} {B = ℕ} (λ p. p.1) (map (λ r. (r, c)) xs) ≡ map (λ r. c) xs
map_second c [] = refl
map_second c (x ∷ xs) = ap (λ ys. c ∷ ys) (map_second c xs)

pub firsts_more : (cells : List (List ℕ)) (c : ℕ) → map {A = ℕ × ℕ} {B = ℕ} (λ p. p.0) (pairs cells (c + 1)) ≡ map {A = ℕ × ℕ} {B = ℕ} (λ p. p.0) (pairs cells c) ++ rows_of cells c
firsts_more cells c =
    ap (map (λ p. p.0)) (pairs_more cells c) ∙ map-append (λ (p : ℕ × ℕ). p.0) (pairs cells c) (map (λ r. (r, c)) (rows_of cells c)) ∙ ap (λ xs. map {A = ℕ × ℕ} {B = ℕ} (λ p. p.0) (pairs cells c) ++ xs) (map_first c (rows_of cells c))

pub seconds_more : (cells : List (List ℕ)) (c : ℕ) → map {A = ℕ × ℕ} {B = ℕ} (λ p. p.1) (pairs cells (c + 1)) ≡ map {A = ℕ × ℕ} {B = ℕ} (λ p. p.1) (pairs cells c) ++ map (λ r. c) (rows_of cells c)
seconds_more cells c =
    ap (map (λ p. p.1)) (pairs_more cells c) ∙ map-append (λ (p : ℕ × ℕ). p.1) (pairs cells c) (map (λ r. (r, c)) (rows_of cells c)) ∙ ap (λ xs. map {A = ℕ × ℕ} {B = ℕ} (λ p. p.1) (pairs cells c) ++ xs) (map_second c (rows_of cells c))

pub order_split : (keys : List ℕ) (r m : ℕ) → r < m → (rest : List ℕ) × (order_of keys m ≡ (order_of keys r ++ coloured keys r) ++ rest)
order_split keys r zero h = absurd (omega arith)
order_split keys r (suc m) h =
    let s : m + 1 ≡ suc m = omega arith in
    let P : ℕ → Type 0 = λ x. (rest : List ℕ) × (order_of keys x ≡ (order_of keys r ++ coloured keys r) ++ rest) in
    subst P s
    (⊎_elim
    (λ (lt : r < m). let f = order_split keys r m lt in (f.0 ++ coloured keys m, order_more keys m ∙ ap (λ xs. xs ++ coloured keys m) f.1 ∙ grind (arith, common_steps)))
    (λ (le : m ≤ r). let e : m ≡ r = omega arith in ([], order_more keys m ∙ ap (λ x. order_of keys x ++ coloured keys x) e ∙ sym (append-nil (order_of keys r ++ coloured keys r)))) (cases_lt r m))

pub part_middle : (xs ys zs : List ℕ) (s t : ℕ) → s ≡ length xs → t ≡ length xs + length ys → part ((xs ++ ys) ++ zs) s t ≡ ys
part_middle xs ys zs s t es et =
    let a : (xs ++ ys) ++ zs ≡ xs ++ (ys ++ zs) = grind (arith, common_steps) in
    let b : t - s ≡ length ys = omega arith in
    ap (λ l. part l s t) a ∙ ap (λ x. take (t - s) (drop x (xs ++ (ys ++ zs)))) es ∙ ap (take (t - s)) (drop-append_seam xs (ys ++ zs)) ∙ ap (λ x. take x (ys ++ zs)) b
    ∙ take-append-le (length ys) ys zs (omega arith) ∙ take_all (length ys) ys (omega arith)

pub order_part : (keys values items : List ℕ) (r m s t : ℕ) → r < m → items ≡ map (slice_index values) (order_of keys m) → s ≡ length (order_of keys r) → t ≡ length (order_of keys (r + 1)) →
    part items s t ≡ map (slice_index values) (coloured keys r)
order_part keys values items r m s t lt is es et =
    let f = order_split keys r m lt in
    let v : ℕ → ℕ = slice_index values in
    let n = order_next keys r in
    let a = length-map (order_of keys r) v in
    let b = length-map (coloured keys r) v in
    let whole : items ≡ (map v (order_of keys r) ++ map v (coloured keys r)) ++ map v f.0 =
    is ∙ ap (map v) f.1 ∙ map-append v (order_of keys r ++ coloured keys r) f.0 ∙ ap (λ xs. xs ++ map v f.0) (map-append v (order_of keys r) (coloured keys r)) in
    ap (λ xs. part xs s t) whole ∙ part_middle (map v (order_of keys r)) (map v (coloured keys r)) (map v f.0) s t (es ∙ sym a) (omega arith)

any_indexed : {X : Type 0} (h : ℕ → Bool) (q : X → Bool) (xs : List X) (d : X) (a : ℕ) → ((i j : ℕ) → i < length xs → a + i ≡ j → h j ≡ q (slice_index_or xs i d)) → list_any h (range_with_len a (length xs)) ≡ list_any q xs
any_indexed h q [] d a e = refl
any_indexed h q (x ∷ xs) d a e =
    let y : h a ≡ q x = e 0 a (omega arith) (omega arith) in
    let z = any_indexed h q xs d (a + 1) (λ i j lt is. e (suc i) j (omega arith) (omega arith)) in
    cc

any_flat : {X : Type 0} (q : X → Bool) (g : ℕ → List X) (xs : List ℕ) → list_any q (flat_map g xs) ≡ list_any (λ x. list_any q (g x)) xs
any_flat q g [] = refl
any_flat q g (x ∷ xs) = list_any-append q (g x) (flat_map g xs) ∙ ap (λ b. list_any q (g x) || b) (any_flat q g xs)

any_paired : (q : ℕ × ℕ → Bool) (c : ℕ) (xs : List ℕ) → list_any q (map (λ r. (r, c)) xs) ≡ list_any (λ y. q (y, c)) xs
any_paired q c [] = refl
any_paired q c (x ∷ xs) = ap (λ b. q (x, c) || b) (any_paired q c xs)

abbrev is_pair : ℕ → ℕ → ℕ × ℕ → Bool
is_pair r d p = p.0 == r && p.1 == d

pub some_row : (cells : List (List ℕ)) (c r : ℕ) → has (rows_of cells c) r ≡ true → c < length cells
some_row cells c r h =
    ⊎_elim (λ lt. lt) (λ le. let e : has [] r ≡ true = ap (λ xs. has xs r) (sym (rows_past cells c le)) ∙ h in absurd (cc)) (cases_lt c (length cells))

pairs_is : (cells : List (List ℕ)) (r d : ℕ) → list_any (λ c. list_any (λ y. y == r && c == d) (rows_of cells c)) (range_with_len 0 (length cells)) ≡ has (rows_of cells d) r
pairs_is cells r d =
    bool_iff (list_any (λ c. list_any (λ y. y == r && c == d) (rows_of cells c)) (range_with_len 0 (length cells))) (has (rows_of cells d) r)
    (λ h.
    let f = any_split (λ c. list_any (λ y. y == r && c == d) (rows_of cells c)) (range_with_len 0 (length cells)) h in
    let g = any_split (λ y. y == r && f.0 == d) (rows_of cells f.0) f.2 in
    let a : g.0 ≡ r = eqb-true g.0 r (and_left (g.0 == r) (f.0 == d) g.2) in
    let b : f.0 ≡ d = eqb-true f.0 d (and_right (g.0 == r) (f.0 == d) g.2) in
    sym (ap (λ x. has (rows_of cells x) g.0) b ∙ ap (has (rows_of cells d)) a) ∙ g.1)
    (λ h.
    let inside = some_row cells d r h in
    any_from (λ c. list_any (λ y. y == r && c == d) (rows_of cells c)) (range_with_len 0 (length cells)) d (has_range 0 (length cells) d (omega arith) (omega arith))
    (any_from (λ y. y == r && d == d) (rows_of cells d) r h (and_both (r == r) (d == d) (eq-eqb r r refl) (eq-eqb d d refl))))

any_pairs : (cells : List (List ℕ)) (r d : ℕ) → list_any (is_pair r d) (pairs cells (length cells)) ≡ has (rows_of cells d) r
any_pairs cells r d =
    any_flat (is_pair r d) (λ c. map (λ x. (x, c)) (rows_of cells c)) (range_with_len 0 (length cells))
    ∙ any_agree (λ c. list_any (is_pair r d) (map (λ x. (x, c)) (rows_of cells c))) (λ c. list_any (λ y. y == r && c == d) (rows_of cells c)) (range_with_len 0 (length cells)) (λ c. any_paired (is_pair r d) c (rows_of cells c))
    ∙ pairs_is cells r d

cells_of_row : (cells : List (List ℕ)) (rows owners : List ℕ) (r d : ℕ) → rows ≡ map (λ p. p.0) (pairs cells (length cells)) → owners ≡ map (λ p. p.1) (pairs cells (length cells)) →
    has (map (slice_index owners) (coloured rows r)) d ≡ has (rows_of cells d) r
cells_of_row cells rows owners r d er eo =
    let ps : List (ℕ × ℕ) = pairs cells (length cells) in
    let n : length rows ≡ length ps = ap length er ∙ length-map ps (λ p. p.0) in
    any_map (slice_index owners) (λ y. y == d) (coloured rows r) ∙ any_filter (λ e. slice_index rows e == r) (λ e. slice_index owners e == d) (range_with_len 0 (length rows))
    ∙ ap (λ x. list_any (λ e. (slice_index rows e == r) && (slice_index owners e == d)) (range_with_len 0 x)) n
    ∙ any_indexed (λ e. (slice_index rows e == r) && (slice_index owners e == d)) (is_pair r d) ps (0, 0) 0
    (λ i j lt is.
    let e : j ≡ i = omega arith in
    let a : slice_index rows i ≡ (slice_index_or ps i (0, 0)).0 = ap (λ xs. slice_index xs i) er ∙ get_or-map (λ (p : ℕ × ℕ). p.0) ps i (0, 0) 0 lt in
    let b : slice_index owners i ≡ (slice_index_or ps i (0, 0)).1 = ap (λ xs. slice_index xs i) eo ∙ get_or-map (λ (p : ℕ × ℕ). p.1) ps i (0, 0) 0 lt in
    ap (λ x. (slice_index rows x == r) && (slice_index owners x == d)) e ∙ ap (λ x. (x == r) && (slice_index owners i == d)) a ∙ ap (λ x. ((slice_index_or ps i (0, 0)).0 == r) && (x == d)) b)
    ∙ any_pairs cells r d

-- each row of a cell is among the rows of all
pub is_entry : (cells : List (List ℕ)) (c r : ℕ) → has (rows_of cells c) r ≡ true → has (map {A = ℕ × ℕ} {B = ℕ} (λ p. p.0) (pairs cells (length cells))) r ≡ true
is_entry cells c r h =
    let ps : List (ℕ × ℕ) = pairs cells (length cells) in
    let f = any_pick (is_pair r c) ps (any_pairs cells r c ∙ h) in
    any_map (λ (p : ℕ × ℕ). p.0) (λ y. y == r) ps ∙ f.2 (λ p. p.0 == r) (and_left (f.0.0 == r) (f.0.1 == c) f.1)

row_below : (cells : List (List ℕ)) (rows : List ℕ) (count c r : ℕ) → rows ≡ map (λ p. p.0) (pairs cells (length cells)) → All (λ x. x < count) rows → has (rows_of cells c) r ≡ true → r < count
row_below cells rows count c r er below h =
    let ps : List (ℕ × ℕ) = pairs cells (length cells) in
    let f = any_pick (is_pair r c) ps (any_pairs cells r c ∙ h) in
    let t : list_any (λ (p : ℕ × ℕ). p.0 == r) ps ≡ true = f.2 (λ p. p.0 == r) (and_left (f.0.0 == r) (f.0.1 == c) f.1) in
    has_all (λ x. x < count) rows r below (ap (λ xs. has xs r) er ∙ any_map (λ (p : ℕ × ℕ). p.0) (λ y. y == r) ps ∙ t)

pub is_by_row : (cells : List (List ℕ)) (rows owners starts items : List ℕ) (count : ℕ) → rows ≡ map (λ p. p.0) (pairs cells (length cells)) → owners ≡ map (λ p. p.1) (pairs cells (length cells)) →
    All (λ x. x < count) rows → items ≡ map (slice_index owners) (order_of rows count) → ((k : ℕ) → k ≤ count → slice_index starts k ≡ length (order_of rows k)) → length starts ≡ count + 1 → IsByRow cells starts items
is_by_row cells rows owners starts items count er eo below is at len =
    let full = order_full rows count below in
    let n : length items ≡ length rows = ap length is ∙ length-map (order_of rows count) (slice_index owners) ∙ full in
    record {
      some = omega arith;
      rows = λ c r h. let lt = row_below cells rows count c r er below h in omega arith;
      rising = λ r lt. let a = at r (omega arith) in let b = at (r + 1) (omega arith) in let m = order_next rows r in omega arith;
      within = λ r lt. let b = at (r + 1) (omega arith) in let s = order_short rows (r + 1) in omega arith;
      each = λ r d lt. ap (λ xs. has xs d) (order_part rows owners items r count (slice_index starts r) (slice_index starts (r + 1)) (omega arith) is (at r (omega arith)) (at (r + 1) (omega arith))) ∙ cells_of_row cells rows owners r d er eo;
    }
