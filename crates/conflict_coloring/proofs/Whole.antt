-- All zones, and the colour order.
use Rattle.std.proofs.Common.{◌≡◌, ◌≢◌, ⊎_elim, ℕ, ◌+◌, ◌%◌, ◌<◌, ◌≤◌, List, [], ◌∷◌, ◌++◌, length, Bool, true, false, ◌&&◌, ◌==◌, slice_index, replicate, map, refl, sym, ◌∙◌, ap, arith, zero, suc, subst}
use Rattle.std.specs.Prelude.{All, not, Contains}
use Rattle.std.specs.List.{list_any, range_with_len}
use Rattle.std.proofs.lemmas.Bool.{cases_lt, cases_eq, eq-eqb, eqb-true}
use Rattle.std.proofs.lemmas.List.Folds.{list_any_at}
use Rattle.conflict_coloring.proofs.Picks.{and_both, and_right}
use Rattle.std.proofs.lemmas.List.{map-append}
use Rattle.std.proofs.lemmas.List.FromFn.{get_or-range_with_len}
use Rattle.std.proofs.lemmas.List.Elements.{All-head, All-tail, All-filter}
use Rattle.std.proofs.lemmas.Grind.{common_steps}
use Rattle.conflict_coloring.specs.Conflict.{has}
use Rattle.conflict_coloring.specs.Colours.{Picks, IsColoured, AreInZones, IsShift, is_left, cells_of, order_of, coloured}
use Rattle.conflict_coloring.specs.Links.{IsLinked}
use Rattle.conflict_coloring.specs.Cut.{part}
use Rattle.conflict_coloring.specs.Top.{IsTop, IsRaised}
use Rattle.conflict_coloring.proofs.Members.{bool_cases}
use Rattle.conflict_coloring.proofs.Spreads.{range_below}
use Rattle.conflict_coloring.proofs.Ranges.{order_more}
use Rattle.conflict_coloring.proofs.Counting.{order_next}
use Rattle.conflict_coloring.proofs.RowTables.{order_split, part_middle}
use Rattle.conflict_coloring.proofs.Zonewise.{in_zone}

map_same : (v : ℕ → ℕ) (n : ℕ) (xs : List ℕ) → ((x : ℕ) → x < n → v x ≡ x) → All (λ x. x < n) xs → map v xs ≡ xs
map_same v n [] h a = refl
map_same v n (x ∷ xs) h a = let e = h x (All-head (λ y. y < n) x xs a) in let r = map_same v n xs h (All-tail (λ y. y < n) x xs a) in cc

-- values that are their own places
pub order_plain : (keys numbers : List ℕ) (k : ℕ) → numbers ≡ range_with_len 0 (length keys) → map (slice_index numbers) (order_of keys k) ≡ order_of keys k
order_plain keys numbers zero is = refl
order_plain keys numbers (suc k) is =
    let s : k + 1 ≡ suc k = omega arith in
    let P : ℕ → Type 0 = λ x. map (slice_index numbers) (order_of keys x) ≡ order_of keys x in
    let same : (x : ℕ) → x < length keys → slice_index numbers x ≡ x = λ x lt. ap (λ xs. slice_index xs x) is ∙ get_or-range_with_len 0 (length keys) x 0 lt ∙ omega arith in
    let a : map (slice_index numbers) (coloured keys k) ≡ coloured keys k =
    map_same (slice_index numbers) (length keys) (coloured keys k) same (All-filter (λ c. slice_index keys c == k) (λ x. x < length keys) (range_with_len 0 (length keys)) (range_below 0 (length keys) (length keys) (omega arith))) in
    let r = order_plain keys numbers k is in
    subst P s
    (ap (map (slice_index numbers)) (order_more keys k) ∙ map-append (slice_index numbers) (order_of keys k) (coloured keys k) ∙ ap (λ xs. xs ++ map (slice_index numbers) (coloured keys k)) r ∙ ap (λ xs. order_of keys k ++ xs) a
    ∙ sym (order_more keys k))

pub part_plain : (keys items : List ℕ) (r m s t : ℕ) → r < m → items ≡ order_of keys m → s ≡ length (order_of keys r) → t ≡ length (order_of keys (r + 1)) → part items s t ≡ coloured keys r
part_plain keys items r m s t lt is es et =
    let f = order_split keys r m lt in
    ap (λ xs. part xs s t) (is ∙ f.1) ∙ part_middle (order_of keys r) (coloured keys r) f.0 s t es (et ∙ order_next keys r)

-- the zones below z are coloured, and the cells of the others are as they were
pub record AreDone (cells : List (List ℕ)) (zones : List ℕ) (none z : ℕ) (colours counts : List ℕ) : Type 0 where
  pub done : (y : ℕ) → y < z → (picks : Picks) × IsColoured cells (cells_of zones y) picks × IsLinked (cells_of zones y) colours none picks
  pub bare : (y d : ℕ) → z ≤ y → has (cells_of zones y) d ≡ true → slice_index colours d ≡ none
  pub zero : (y d : ℕ) → z ≤ y → has (cells_of zones y) d ≡ true → slice_index counts d ≡ 0

all_same : (n v d : ℕ) → d < n → slice_index (replicate n v) d ≡ v
all_same n v d lt = grind (arith, common_steps)

pub done_start : (cells : List (List ℕ)) (zones : List ℕ) (none : ℕ) → AreDone cells zones none 0 (replicate (length zones) none) (replicate (length zones) 0)
done_start cells zones none = record {
  done = λ y lt. absurd (omega arith);
  bare = λ y d le h. all_same (length zones) none d (in_zone zones y d h).1;
  zero = λ y d le h. all_same (length zones) 0 d (in_zone zones y d h).1;
}

apart : (zones : List ℕ) (y z d : ℕ) → y ≢ z → has (cells_of zones y) d ≡ true → has (cells_of zones z) d ≡ false
apart zones y z d ne h = ⊎_elim (λ t. absurd (ne (sym (in_zone zones y d h).0 ∙ (in_zone zones z d t).0))) (λ f. f) (bool_cases (has (cells_of zones z) d))

link_kept : (zone old new : List ℕ) (none : ℕ) (picks : Picks) → IsLinked zone old none picks → ((d : ℕ) → has zone d ≡ true → slice_index new d ≡ slice_index old d) → IsLinked zone new none picks
link_kept zone old new none picks link kept = λ e k.
    link e k
    ∙ ⊎_elim (λ (t : has zone e ≡ true). ap (λ o. has zone e && (not (k == none) && o == k)) (sym (kept e t)))
    (λ (f : has zone e ≡ false). ap (λ b. b && (not (k == none) && slice_index old e == k)) f ∙ sym (ap (λ b. b && (not (k == none) && slice_index new e == k)) f)) (bool_cases (has zone e))

pub done_more : (cells : List (List ℕ)) (zones : List ℕ) (none z : ℕ) (old new counts_old counts_new : List ℕ) (picks : Picks) → AreDone cells zones none z old counts_old → IsColoured cells (cells_of zones z) picks → IsLinked (cells_of zones z) new none picks →
    ((d : ℕ) → has (cells_of zones z) d ≡ false → slice_index new d ≡ slice_index old d) → ((d : ℕ) → has (cells_of zones z) d ≡ false → slice_index counts_new d ≡ slice_index counts_old d) → AreDone cells zones none (z + 1) new counts_new
done_more cells zones none z old new counts_old counts_new picks h coloured link kept kept_counts = record {
  done = λ y lt.
      ⊎_elim
      (λ (e : z ≡ y). let P : ℕ → Type 0 = λ x. (ps : Picks) × IsColoured cells (cells_of zones x) ps × IsLinked (cells_of zones x) new none ps in subst P e (picks, coloured, link))
      (λ (e : z ≢ y).
      let was = h.done y (omega arith) in
      (was.0, was.1, link_kept (cells_of zones y) old new none was.0 was.2 (λ d t. kept d (apart zones y z d (λ x. e (sym x)) t)))) (cases_eq z y);
  bare = λ y d le t. kept d (apart zones y z d (omega arith) t) ∙ h.bare y d (omega arith) t;
  zero = λ y d le t. kept_counts d (apart zones y z d (omega arith) t) ∙ h.zero y d (omega arith) t;
}

linked_at : (zone colours : List ℕ) (none : ℕ) (picks : Picks) (p : ℕ × ℕ) → IsLinked zone colours none picks → Contains picks p → slice_index colours p.0 ≡ p.1
linked_at zone colours none picks p link (i, lt, e) =
    let test : ℕ × ℕ → Bool = λ q. q.0 == p.0 && q.1 == p.1 in
    let t : list_any test picks ≡ true = list_any_at test picks i p lt (ap test e ∙ and_both (p.0 == p.0) (p.1 == p.1) (eq-eqb p.0 p.0 refl) (eq-eqb p.1 p.1 refl)) in
    let r = and_right (has zone p.0) (not (p.1 == none) && slice_index colours p.0 == p.1) (sym (link p.0 p.1) ∙ t) in
    eqb-true (slice_index colours p.0) p.1 (and_right (not (p.1 == none)) (slice_index colours p.0 == p.1) r)

none_left : (zones : List ℕ) (z count c : ℕ) → All (λ x. x < count) zones → count ≤ z → is_left (cells_of zones z) [] c ≡ false
none_left zones z count c below le =
    ⊎_elim (λ (t : has (cells_of zones z) c ≡ true). let i = in_zone zones z c t in let a = i.0 in let b = below c 0 i.1 in absurd (omega arith))
    (λ (f : has (cells_of zones z) c ≡ false). ap (λ b. b && true) f) (bool_cases (has (cells_of zones z) c))

pub done_all : (cells : List (List ℕ)) (zones : List ℕ) (none count z : ℕ) (colours counts : List ℕ) → AreDone cells zones none z colours counts → All (λ x. x < count) zones → count ≤ z → AreInZones cells zones colours
done_all cells zones none count z colours counts h below le = λ y.
    ⊎_elim (λ (lt : y < z). let d = h.done y lt in (d.0, d.1, (λ p c. linked_at (cells_of zones y) colours none d.0 p d.2 c)))
    (λ (ge : z ≤ y). ([], ((λ i lt. absurd (omega arith)), (λ c. none_left zones y count c below (omega arith))), (λ p c. let lt = c.1 in absurd (omega arith)))) (cases_lt y z)

pub top_more : (zones colours : List ℕ) (n top new : ℕ) → IsTop zones colours n top → IsRaised top (slice_index zones n) (slice_index colours n) new → IsTop zones colours (n + 1) new
top_more zones colours n top new h r = record {
  above = λ k lt even.
      ⊎_elim (λ (e : k ≡ n). let P : ℕ → Type 0 = λ x. slice_index zones x % 2 ≡ 0 → slice_index colours x < new in subst P (sym e) r.above even)
      (λ (e : k ≢ n). let a = h.above k (omega arith) even in let u = r.kept in omega arith) (cases_eq k n);
  least = λ some.
      ⊎_elim (λ (e : new ≡ top). let f = h.least (omega arith) in (f.0, (let lt = f.1 in omega arith), f.2, f.3 ∙ sym e)) (λ f. (n, (omega arith), f.0, f.1)) r.from;
}

pub top_all : (zones colours : List ℕ) (n top : ℕ) → IsTop zones colours n top → n ≡ length zones → IsShift zones colours top
top_all zones colours n top h e = record {
  above = λ k f. let lt = f.1 in let a = h.above f.0 (omega arith) f.2 in let s = f.3 in omega arith;
  least = λ some. let f = h.least some in let lt = f.1 in (slice_index colours f.0, (f.0, (omega arith), f.2, refl), f.3);
}

pub top_none : (zones colours : List ℕ) → IsTop zones colours 0 0
top_none zones colours = record { above = λ k lt even. absurd (omega arith); least = λ some. absurd (omega arith) }
