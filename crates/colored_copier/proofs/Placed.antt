-- The places of the items' rows, built item after item.
use Rattle.std.proofs.Common.{◌≡◌, ℕ, zero, suc, ◌+◌, ◌<◌, List, [], ◌∷◌, ◌++◌, map, length, get_or, sym, refl, ap, ◌∙◌, subst, arith}
use mathlib.Core.Option.{some}
use mathlib.Core.Logic.{dite}
use native.Mathlib.Decide.{ℕ_discrete}
use lib.ListN.{get_elem?}
use Rattle.colored_copier.specs.declared.places.Places.{Places}
use Rattle.colored_copier.specs.declared.places.Places.TheVariants.{Counted, Listed}
use Rattle.colored_copier.specs.declared.places.PlaceLists.{PlaceLists}
use Rattle.colored_copier.specs.Places.{IsPlaced, AddsItem, AreCounted, ArePlaced}
use Rattle.colored_copier.specs.Plans.{In, row_number}
use Rattle.colored_copier.proofs.Claims.{at_lt}
use Rattle.colored_copier.proofs.Search.{got_is}

at_front : {A : Type 0} (l m : List A) (k : ℕ) → k < length l → get_elem? (l ++ m) k ≡ get_elem? l k
at_front [] m k lt = absurd (omega (arith, lt))
at_front (x ∷ xs) m zero lt = refl
at_front (x ∷ xs) m (suc k) lt = at_front xs m k (omega (arith, lt))

at_end : {A : Type 0} (l : List A) (x : A) (k : ℕ) → k ≡ length l → get_elem? (l ++ x ∷ []) k ≡ some x
at_end [] x zero e = refl
at_end [] x (suc k) e = absurd (omega (arith, e))
at_end (y ∷ ys) x zero e = absurd (omega (arith, e))
at_end (y ∷ ys) x (suc k) e = at_end ys x k (omega (arith, e))

one_longer : {A : Type 0} (l : List A) (x : A) → length (l ++ x ∷ []) ≡ length l + 1
one_longer [] x = omega arith
one_longer (y ∷ ys) x = omega (arith, one_longer ys x)

-- no row of the item yet
pub none_added : (numbers rows old : List ℕ) → AddsItem numbers rows 0 old old
none_added numbers rows old = record { longer = omega arith; kept = λ k lt. refl; added = λ i row lt e. absurd (omega arith) }

-- one more row of the item
pub one_added : (numbers rows old now new : List ℕ) (count next place row : ℕ) → next ≡ count + 1 → AddsItem numbers rows count old now → new ≡ now ++ place ∷ [] → get_or rows count 0 ≡ row → get_elem? numbers place ≡ some row
    → AddsItem numbers rows next old new
one_added numbers rows old now new count next place row is-next o is-new is-row there =
    record {
      longer = ap length is-new ∙ omega (arith, one_longer now place, o.longer);
      kept = λ k lt. ap (λ l. get_elem? l k) is-new ∙ (at_front now (place ∷ []) k (omega (arith, o.longer)) ∙ o.kept k lt);
      added = λ i r lt e. dite (ℕ_discrete i count)
          (λ same. (
            place,
            ap (λ l. get_elem? l (length old + i)) is-new ∙ at_end now place (length old + i) (omega (arith, o.longer)),
            there ∙ ap some (sym is-row ∙ got_is rows count 0 r (ap (get_elem? rows) (sym same) ∙ e)),
          ))
          (λ ne. let a = o.added i r (omega arith) e in (
            a.0,
            ap (λ l. get_elem? l (length old + i)) is-new ∙ (at_front now (place ∷ []) (length old + i) (at_lt now (length old + i) a.0 a.1) ∙ a.1),
            a.2,
          ));
    }

-- no item yet
pub none_placed : (rows_of : ℕ → List ℕ) (numbers starts places : List ℕ) → starts ≡ [] → IsPlaced rows_of numbers 0 starts places
none_placed rows_of numbers starts places e = record { as_many = ap length e; each = λ n i row lt at. absurd (omega arith) }

-- one more item
pub one_placed : (rows_of : ℕ → List ℕ) (numbers starts places starts' places' rows : List ℕ) (n next : ℕ) → next ≡ n + 1 → IsPlaced rows_of numbers n starts places → rows ≡ rows_of n → starts' ≡ starts ++ length places ∷ []
    → AddsItem numbers rows (length rows) places places' → IsPlaced rows_of numbers next starts' places'
one_placed rows_of numbers starts places starts' places' rows n next is-next o is-rows is-starts added =
    record {
      as_many = ap length is-starts ∙ omega (arith, one_longer starts (length places), o.as_many);
      each = λ m i row lt at. dite (ℕ_discrete m n)
          (λ same. let at' : get_elem? rows i ≡ some row = ap (λ l. get_elem? l i) (is-rows ∙ ap rows_of (sym same)) ∙ at in let a = added.added i row (at_lt rows i row at') at' in record {
            start = length places;
            place = a.0;
            start_is = ap (λ l. get_elem? l m) is-starts ∙ at_end starts (length places) m (omega (arith, o.as_many));
            place_is = a.1;
            there = a.2;
          })
          (λ ne. let p = o.each m i row (omega arith) at in record {
            start = p.start;
            place = p.place;
            start_is = ap (λ l. get_elem? l m) is-starts ∙ (at_front starts (length places ∷ []) m (omega (arith, o.as_many)) ∙ p.start_is);
            place_is = added.kept (p.start + i) (at_lt places (p.start + i) p.place p.place_is) ∙ p.place_is;
            there = p.there;
          });
    }

-- what the code reads: the start of the item, and the place that stands i after it
module _ (rows_of : ℕ → List ℕ) (numbers starts places : List ℕ) (items n i row s : ℕ) (o : IsPlaced rows_of numbers items starts places) (lt : n < items) (at : get_elem? (rows_of n) i ≡ some row) (is-start : s ≡ get_or starts n s) where
  pub place_read : (x : ℕ) × (get_elem? places (s + i) ≡ some x) × (get_elem? numbers x ≡ some row)
  place_read =
      let p = o.each n i row lt at in
      let same : s ≡ p.start = is-start ∙ got_is starts n s p.start p.start_is in
      (p.place, ap (λ (k : ℕ). get_elem? places (k + i)) same ∙ p.place_is, p.there)

  pub place_within : s + i < length places
  place_within = let p = place_read in at_lt places (s + i) p.0 p.1

  pub place_there : (x : ℕ) → x ≡ get_or places (s + i) x → get_elem? numbers x ≡ some row
  place_there x is = let p = place_read in ap (get_elem? numbers) (is ∙ got_is places (s + i) x p.0 p.1) ∙ p.2

-- the same at the round's own job and rows
pub placed_at : {J R : Type 0} (rows_of : J → ℕ → List ℕ) (job job' : J) (rows rows' : List (ℕ × R)) (n items : ℕ) (places : Places) → job' ≡ job → rows' ≡ rows → items ≡ n → ArePlaced (rows_of job) (map row_number rows) n places
    → ArePlaced (rows_of job') (map row_number rows') items places
placed_at {R = R} rows_of job job' rows rows' n items places a b e o =
    subst (λ j. ArePlaced (rows_of j) (map row_number rows') items places) (sym a)
    (subst (λ (l : List (ℕ × R)). ArePlaced (rows_of job) (map row_number l) items places) (sym b)
    (subst (λ (k : ℕ). ArePlaced (rows_of job) (map row_number rows) k places) (sym e) o))

module _ (rows_of : ℕ → List ℕ) (numbers : List ℕ) (items : ℕ) (places : Places) (o : ArePlaced rows_of numbers items places) where
  -- a number that is its own place
  pub counted_there : (row : ℕ) → places ≡ Counted → In row numbers → get_elem? numbers row ≡ some row
  counted_there row is h = let all : AreCounted numbers = subst (ArePlaced rows_of numbers items) is o in ap (get_elem? numbers) (all h.0 row h.1) ∙ h.1

  -- places that were looked up
  pub listed : (lists : PlaceLists) → places ≡ Listed lists → IsPlaced rows_of numbers items lists.starts.items lists.places.items
  listed lists is = subst (ArePlaced rows_of numbers items) is o
