-- Lists that lie one after another.
use Rattle.std.proofs.Common.{◌≡◌, ⊎_elim, ℕ, ◌+◌, ◌-◌, ◌<◌, ◌≤◌, List, [], ◌∷◌, ◌++◌, length, slice_index, take, drop, map, refl, sym, ◌∙◌, ap, arith, zero, suc, subst}
use Rattle.std.specs.List.{range_with_len}
use Rattle.std.proofs.lemmas.Bool.{cases_lt}
use Rattle.std.proofs.lemmas.List.{take-append-le, length-drop, length-map, take_all, get_or_push, get_or_append_left}
use Rattle.std.proofs.lemmas.List.FromFn.{get_or-map-range_with_len, map-range_with_len_more, length-range_with_len}
use Rattle.std.proofs.Math.Seq.{drop-append_seam}
use Rattle.std.proofs.Math.ListN.{length-append}
use Rattle.conflict_coloring.specs.Conflict.{rows_of}
use Rattle.conflict_coloring.specs.Cut.{part, piece, cut, AreEnds}

pub length-cut : (ends items : List ℕ) → length (cut ends items) ≡ length ends
length-cut ends items = length-map (range_with_len 0 (length ends)) (piece ends items) ∙ length-range_with_len 0 (length ends)

pub rows_cut : (ends items : List ℕ) (k : ℕ) → k < length ends → rows_of (cut ends items) k ≡ piece ends items k
rows_cut ends items k lt = get_or-map-range_with_len (piece ends items) 0 (length ends) k k [] lt (omega arith)

map_agree : {X : Type 0} (f g : ℕ → X) (a n : ℕ) → ((k : ℕ) → k < a + n → f k ≡ g k) → map f (range_with_len a n) ≡ map g (range_with_len a n)
map_agree f g a zero h = refl
map_agree f g a (suc n) h = let x = h a (omega arith) in let y = map_agree f g (a + 1) n (λ k lt. h k (omega arith)) in cc

drop_append : (s : ℕ) (xs ys : List ℕ) → s ≤ length xs → drop s (xs ++ ys) ≡ drop s xs ++ ys
drop_append zero xs ys h = refl
drop_append (suc s) [] ys h = absurd (omega arith)
drop_append (suc s) (x ∷ xs) ys h = drop_append s xs ys (omega arith)

part_more : (xs ys : List ℕ) (s t : ℕ) → s ≤ t → t ≤ length xs → part (xs ++ ys) s t ≡ part xs s t
part_more xs ys s t le inside =
    ap (take (t - s)) (drop_append s xs ys (omega arith)) ∙ take-append-le (t - s) (drop s xs) ys (let n = length-drop s xs in omega arith)

start_more : (ends : List ℕ) (e k : ℕ) → k ≤ length ends → slice_index (0 ∷ (ends ++ e ∷ [])) k ≡ slice_index (0 ∷ ends) k
start_more ends e zero h = refl
start_more ends e (suc k) h = get_or_append_left ends (e ∷ []) 0 k (omega arith)

pub piece_more : (ends items row : List ℕ) (e k : ℕ) → AreEnds ends (length items) → k < length ends → piece (ends ++ e ∷ []) (items ++ row) k ≡ piece ends items k
piece_more ends items row e k h lt =
    let a = start_more ends e k (omega arith) in
    let b : slice_index (ends ++ e ∷ []) k ≡ slice_index ends k = get_or_append_left ends (e ∷ []) 0 k lt in
    let f = h.rising k lt in
    let g = h.within k lt in
    ap (λ x. part (items ++ row) x (slice_index (ends ++ e ∷ []) k)) a ∙ ap (λ x. part (items ++ row) (slice_index (0 ∷ ends) k) x) b
    ∙ part_more items row (slice_index (0 ∷ ends) k) (slice_index ends k) f g

pub piece_last : (ends items row : List ℕ) (e : ℕ) → AreEnds ends (length items) → e ≡ length items + length row → piece (ends ++ e ∷ []) (items ++ row) (length ends) ≡ row
piece_last ends items row e h is =
    let a = start_more ends e (length ends) (omega arith) ∙ h.full in
    let b : slice_index (ends ++ e ∷ []) (length ends) ≡ e = get_or_push ends e 0 (length ends) refl in
    let c : e - length items ≡ length row = omega arith in
    ap (λ x. part (items ++ row) x (slice_index (ends ++ e ∷ []) (length ends))) a ∙ ap (λ x. part (items ++ row) (length items) x) b
    ∙ ap (λ xs. take (e - length items) xs) (drop-append_seam items row) ∙ ap (λ x. take x row) c ∙ take_all (length row) row (omega arith)

pub cut_more : (ends items row : List ℕ) (e : ℕ) → AreEnds ends (length items) → e ≡ length items + length row → cut (ends ++ e ∷ []) (items ++ row) ≡ cut ends items ++ row ∷ []
cut_more ends items row e h is =
    let n = length-append ends (e ∷ []) in
    let m : length (ends ++ e ∷ []) ≡ length ends + 1 = n in
    ap (λ x. map (piece (ends ++ e ∷ []) (items ++ row)) (range_with_len 0 x)) m
    ∙ map-range_with_len_more (piece (ends ++ e ∷ []) (items ++ row)) 0 (length ends) (length ends) (omega arith)
    ∙ ap (λ xs. xs ++ piece (ends ++ e ∷ []) (items ++ row) (length ends) ∷ []) (map_agree (piece (ends ++ e ∷ []) (items ++ row)) (piece ends items) 0 (length ends) (λ k lt. piece_more ends items row e k h (omega arith)))
    ∙ ap (λ x. cut ends items ++ x ∷ []) (piece_last ends items row e h is)

ends_last : (ends : List ℕ) (e : ℕ) → slice_index (0 ∷ (ends ++ e ∷ [])) (length ends + 1) ≡ e
ends_last ends e = let s : length ends + 1 ≡ suc (length ends) = omega arith in let P : ℕ → Type 0 = λ x. slice_index (0 ∷ (ends ++ e ∷ [])) x ≡ e in subst P (sym s) (get_or_push ends e 0 (length ends) refl)

pub ends_more : (ends : List ℕ) (n e : ℕ) → AreEnds ends n → n ≤ e → AreEnds (ends ++ e ∷ []) e
ends_more ends n e h le = record {
  rising = λ k lt.
      let m = length-append ends (e ∷ []) in
      let a = start_more ends e k (omega arith) in
      ⊎_elim (λ (old : k < length ends). let b : slice_index (ends ++ e ∷ []) k ≡ slice_index ends k = get_or_append_left ends (e ∷ []) 0 k old in let f = h.rising k old in omega arith)
      (λ (new : length ends ≤ k).
      let same : k ≡ length ends = omega arith in
      let b : slice_index (ends ++ e ∷ []) k ≡ e = get_or_push ends e 0 k (sym same) in
      let f : slice_index (0 ∷ ends) k ≡ n = ap (slice_index (0 ∷ ends)) same ∙ h.full in
      omega arith) (cases_lt k (length ends));
  within = λ k lt.
      let m = length-append ends (e ∷ []) in
      ⊎_elim (λ (old : k < length ends). let b : slice_index (ends ++ e ∷ []) k ≡ slice_index ends k = get_or_append_left ends (e ∷ []) 0 k old in let f = h.within k old in omega arith)
      (λ (new : length ends ≤ k).
      let same : k ≡ length ends = omega arith in
      let b : slice_index (ends ++ e ∷ []) k ≡ e = get_or_push ends e 0 k (sym same) in
      omega arith) (cases_lt k (length ends));
  full =
      let m = length-append ends (e ∷ []) in
      ap (slice_index (0 ∷ (ends ++ e ∷ []))) m ∙ ends_last ends e;
}

pub ends_none : AreEnds [] 0
ends_none = record { rising = λ k lt. absurd (omega arith); within = λ k lt. absurd (omega arith); full = refl }
