-- One number more.
use Rattle.std.proofs.Common.{◌≡◌, ℕ, ◌+◌, List, [], ◌∷◌, ◌++◌, Bool, cond, ◌∙◌, ap, arith, zero, suc}
use Rattle.std.specs.Prelude.{filter, flat_map}
use Rattle.std.specs.List.{range_with_len}
use Rattle.std.proofs.lemmas.List.Elements.{filter-append}
use Rattle.std.proofs.lemmas.List.{append-nil}
use Rattle.std.proofs.lemmas.List.Concat.{flat_map-append}
use Rattle.conflict_coloring.specs.Colours.{order_of, coloured}

pub range_push : (a n j : ℕ) → a + n ≡ j → range_with_len a (suc n) ≡ range_with_len a n ++ j ∷ []
range_push a zero j e = let f : a ≡ j = omega arith in ap (λ x. x ∷ []) f
range_push a (suc n) j e = ap (λ xs. a ∷ xs) (range_push (a + 1) n j (omega arith))

pub range_more : (n : ℕ) → range_with_len 0 (n + 1) ≡ range_with_len 0 n ++ n ∷ []
range_more n = let e : n + 1 ≡ suc n = omega arith in ap (range_with_len 0) e ∙ range_push 0 n n (omega arith)

pub filter_one_more : (p : ℕ → Bool) (n : ℕ) → filter p (range_with_len 0 (n + 1)) ≡ filter p (range_with_len 0 n) ++ cond (p n) (n ∷ []) []
filter_one_more p n = ap (filter p) (range_more n) ∙ filter-append p (range_with_len 0 n) (n ∷ [])

pub order_more : (colours : List ℕ) (k : ℕ) → order_of colours (k + 1) ≡ order_of colours k ++ coloured colours k
order_more colours k =
    ap (flat_map (coloured colours)) (range_more k) ∙ flat_map-append (coloured colours) (range_with_len 0 k) (k ∷ []) ∙ ap (λ xs. order_of colours k ++ xs) (append-nil (coloured colours k))
