-- Lists with their two halves exchanged.
use Rattle.std.proofs.Common.{◌≡◌, ◌∙◌, sym, ap, ℕ, ◌+◌, ◌<◌, ◌⊎◌, inl, inr, ℤ, pos, List, [], ◌++◌, length, map, take, drop, get_or, arith, length-append}
use Rattle.std.proofs.Math.Seq.{take-append_seam, drop-append_seam}
use Rattle.std.proofs.lemmas.List.{length-drop, length-take-le, get_or-drop, get_or-take, get_or-map, get_or_append_left, get_or-append-add}

-- what stands behind the first n, and then these
abbrev pub swapped : {A : Type 0} → ℕ → List A → List A
swapped n list = drop n list ++ take n list

-- the places i and k are n apart, one in each half
abbrev pub AreAcross : ℕ → ℕ → ℕ → Type 0
AreAcross n i k = ((i < n) × (k ≡ n + i)) ⊎ ((k < n) × (i ≡ n + k))

pub across_below : (n i k : ℕ) → AreAcross n i k → (i < n + n) × (k < n + n)
across_below n i k (inl h) = let less = h.0 in let is = h.1 in (omega (arith, less), omega (arith, less, is))
across_below n i k (inr h) = let less = h.0 in let is = h.1 in (omega (arith, less, is), omega (arith, less))

pub swapped-append : {A : Type 0} (n : ℕ) (xs ys : List A) → length xs ≡ n → swapped n (xs ++ ys) ≡ ys ++ xs
swapped-append n xs ys e = ap (λ k. swapped k (xs ++ ys)) (sym e) ∙ (λ i. drop-append_seam xs ys i ++ take-append_seam xs ys i)

back_count : {A : Type 0} (n : ℕ) (xs : List A) → length xs ≡ n + n → length (drop n xs) ≡ n
back_count n xs e = let l = length-drop n xs in omega (arith, l, e)

pub swapped_count : {A : Type 0} (n : ℕ) (xs : List A) → length xs ≡ n + n → length (swapped n xs) ≡ n + n
swapped_count n xs e =
    let l = length-append (drop n xs) (take n xs) in
    let b = back_count n xs e in
    let f : length (take n xs) ≡ n = length-take-le n xs (omega (arith, e)) in
    omega (arith, l, b, f)

pub swapped_at : {A : Type 0} (n i k : ℕ) (xs : List A) (d : A) → length xs ≡ n + n → AreAcross n i k → get_or (swapped n xs) k d ≡ get_or xs i d
swapped_at n i k xs d e (inl h) =
    let b = back_count n xs e in
    let is = h.1 in
    let place : k ≡ length (drop n xs) + i = omega (arith, b, is) in
    ap (λ m. get_or (swapped n xs) m d) place ∙ get_or-append-add (drop n xs) (take n xs) i d ∙ get_or-take n xs i d h.0
swapped_at n i k xs d e (inr h) =
    let b = back_count n xs e in
    let less = h.0 in
    get_or_append_left (drop n xs) (take n xs) d k (omega (arith, b, less)) ∙ get_or-drop n xs k d ∙ ap (λ m. get_or xs m d) (sym h.1)

-- the matrix with the halves of its rows and of its columns exchanged
abbrev pub swapped_matrix : ℕ → List (List ℤ) → List (List ℤ)
swapped_matrix n matrix = map (swapped n) (swapped n matrix)

pub swapped_entry : (n i k j l : ℕ) (matrix : List (List ℤ)) → length matrix ≡ n + n → length (get_or matrix i []) ≡ n + n → AreAcross n i k → AreAcross n j l →
    get_or (get_or (swapped_matrix n matrix) k []) l (pos 0) ≡ get_or (get_or matrix i []) j (pos 0)
swapped_entry n i k j l matrix e row h v =
    let count = swapped_count n matrix e in
    let below = (across_below n i k h).1 in
    ap (λ (r : List ℤ). get_or r l (pos 0)) (get_or-map (swapped n) (swapped n matrix) k [] [] (omega (arith, count, below)) ∙ ap (swapped n) (swapped_at n i k matrix [] e h))
    ∙ swapped_at n j l (get_or matrix i []) (pos 0) row v
