-- Sums of whole numbers: parts, single terms, and any order.
use Rattle.std.proofs.Common.{◌≡◌, ◌≢◌, ◌∙◌, sym, ap, refl, subst, ℕ, zero, suc, ◌+◌, ◌<◌, ◌≤◌, ◌==◌, ℤ, pos, ◌+ℤ◌, cond, List, [], ◌∷◌, ◌++◌, length, map, get_or, arith, inl, inr}
use Rattle.std.specs.Prelude.{slice_index, slice_index_or}
use Rattle.std.specs.List.{All, Contains, range_with_len}
use Rattle.std.proofs.lemmas.Bool.{cases_lt, eq-eqb, ne_eqb}
use Rattle.std.proofs.lemmas.Int.{ints}
use Rattle.std.proofs.lemmas.List.{map-append, get_or_default}
use Rattle.std.proofs.lemmas.List.Elements.{All-head, All-tail}
use Rattle.std.proofs.lemmas.List.FromFn.{map-range_with_len_more, get_or-range_with_len, length-range_with_len}
use Rattle.lumped_mass.specs.Masses.{total}

zero_left : (a : ℤ) → pos 0 +ℤ a ≡ a
zero_left a = omega (arith, ints)

pub zero_right : (a : ℤ) → a +ℤ pos 0 ≡ a
zero_right a = omega (arith, ints)

joined : (a b c : ℤ) → a +ℤ (b +ℤ c) ≡ a +ℤ b +ℤ c
joined a b c = omega (arith, ints)

crossed : (a b c d : ℤ) → a +ℤ b +ℤ (c +ℤ d) ≡ a +ℤ c +ℤ (b +ℤ d)
crossed a b c d = omega (arith, ints)

pub total_append : (xs ys : List ℤ) → total (xs ++ ys) ≡ total xs +ℤ total ys
total_append [] ys = sym (zero_left (total ys))
total_append (x ∷ xs) ys = ap (λ s. x +ℤ s) (total_append xs ys) ∙ joined x (total xs) (total ys)

-- one more of a range
pub total_range_more : (f : ℕ → ℤ) (k : ℕ) → total (map f (range_with_len 0 (k + 1))) ≡ total (map f (range_with_len 0 k)) +ℤ f k
total_range_more f k =
    ap total (map-range_with_len_more f 0 k k (omega arith)) ∙ total_append (map f (range_with_len 0 k)) (f k ∷ []) ∙ ap (λ s. total (map f (range_with_len 0 k)) +ℤ s) (zero_right (f k))

pub total_append_map : (f : ℕ → ℤ) (xs ys : List ℕ) → total (map f (xs ++ ys)) ≡ total (map f xs) +ℤ total (map f ys)
total_append_map f xs ys = ap total (map-append f xs ys) ∙ total_append (map f xs) (map f ys)

-- sums of equal terms
same_of_all : {A : Type 0} (f g : A → ℤ) (xs : List A) → All (λ x. f x ≡ g x) xs → total (map f xs) ≡ total (map g xs)
same_of_all f g [] h = refl
same_of_all f g (x ∷ xs) h =
    ap (λ s. s +ℤ total (map f xs)) (All-head (λ x. f x ≡ g x) x xs h) ∙ ap (λ s. g x +ℤ s) (same_of_all f g xs (All-tail (λ x. f x ≡ g x) x xs h))

total_zeros : {A : Type 0} (xs : List A) → total (map (λ (x : A). pos 0) xs) ≡ pos 0
total_zeros [] = refl
total_zeros (x ∷ xs) = ap (λ s. pos 0 +ℤ s) (total_zeros xs)

pub total_none : {A : Type 0} (f : A → ℤ) (xs : List A) → All (λ x. f x ≡ pos 0) xs → total (map f xs) ≡ pos 0
total_none f xs h = same_of_all f (λ x. pos 0) xs h ∙ total_zeros xs

-- the sum of sums, and its order
total_sum : {A : Type 0} (f g : A → ℤ) (xs : List A) → total (map (λ x. f x +ℤ g x) xs) ≡ total (map f xs) +ℤ total (map g xs)
total_sum f g [] = refl
total_sum f g (x ∷ xs) = ap (λ s. f x +ℤ g x +ℤ s) (total_sum f g xs) ∙ crossed (f x) (g x) (total (map f xs)) (total (map g xs))

total_exchange : {A B : Type 0} (g : A → B → ℤ) (xs : List A) (ys : List B) → total (map (λ a. total (map (λ b. g a b) ys)) xs) ≡ total (map (λ b. total (map (λ a. g a b) xs)) ys)
total_exchange g [] ys = sym (total_zeros ys)
total_exchange g (x ∷ xs) ys =
    ap (λ s. total (map (λ b. g x b) ys) +ℤ s) (total_exchange g xs ys) ∙ sym (total_sum (λ b. g x b) (λ b. total (map (λ a. g a b) xs)) ys)

-- one term alone
pub total_only : {A : Type 0} (f : A → ℤ) (xs : List A) (k : ℕ) (x : A) → k < length xs → x ≡ get_or xs k x → ((j : ℕ) (d : A) → j < length xs → j ≢ k → f (get_or xs j d) ≡ pos 0) → total (map f xs) ≡ f x
total_only f [] k x h e none = absurd (omega (arith, h))
total_only f (y ∷ ys) zero x h e none =
    ap (λ s. f y +ℤ s) (total_none f ys (λ j d inside. none (suc j) d (omega (arith, inside)) (omega arith))) ∙ zero_right (f y) ∙ ap f (sym e)
total_only f (y ∷ ys) (suc k) x h e none =
    ap (λ s. s +ℤ total (map f ys)) (none 0 x (omega arith) (omega arith)) ∙ zero_left (total (map f ys))
    ∙ total_only f ys k x (omega (arith, h)) e (λ j d inside other. none (suc j) d (omega (arith, inside)) (omega (arith, other)))

-- what holds of all numbers below n
all_in_range : (P : ℕ → Type 0) (n : ℕ) → ((j : ℕ) → j < n → P j) → All P (range_with_len 0 n)
all_in_range P n h k d inside =
    let low : k < n = omega (arith, inside, length-range_with_len 0 n) in
    let at : get_or (range_with_len 0 n) k d ≡ k = get_or-range_with_len 0 n k d low ∙ omega arith in
    subst P (sym at) (h k low)

range_at : (n k : ℕ) → k < n → k ≡ get_or (range_with_len 0 n) k k
range_at n k h = sym (get_or-range_with_len 0 n k k h ∙ omega arith)

range_inside : (n k : ℕ) → k < n → k < length (range_with_len 0 n)
range_inside n k h = omega (arith, h, length-range_with_len 0 n)

-- the term of one number alone
total_pick : (f : ℕ → ℤ) (n k : ℕ) → k < n → total (map (λ j. cond (k == j) (f j) (pos 0)) (range_with_len 0 n)) ≡ f k
total_pick f n k h =
    total_only (λ j. cond (k == j) (f j) (pos 0)) (range_with_len 0 n) k k (range_inside n k h) (range_at n k h) (λ j d inside other.
    let low : j < n = omega (arith, inside, length-range_with_len 0 n) in
    let at : get_or (range_with_len 0 n) j d ≡ j = get_or-range_with_len 0 n j d low ∙ omega arith in
    let Q : ℕ → Type 0 = λ i. cond (k == i) (f i) (pos 0) ≡ pos 0 in
    subst Q (sym at) (ap (λ b. cond b (f j) (pos 0)) (ne_eqb k j (λ e. other (sym e)))))
    ∙ ap (λ b. cond b (f k) (pos 0)) (eq-eqb k k refl)

-- numbers that each stand once in a list
pub total_order : (f : ℕ → ℤ) (n : ℕ) (order : List ℕ) → All (λ c. c < n) order → ((c : ℕ) → c < n → Contains order c) → ((i j : ℕ) → i < j → j < length order → slice_index order i ≢ slice_index order j) →
    total (map f order) ≡ total (map f (range_with_len 0 n))
total_order f n order within each once =
    same_of_all f (λ c. total (map (λ k. cond (c == k) (f k) (pos 0)) (range_with_len 0 n))) order (λ i d inside. sym (total_pick f n (get_or order i d) (within i d inside)))
    ∙ total_exchange (λ c k. cond (c == k) (f k) (pos 0)) order (range_with_len 0 n)
    ∙ same_of_all (λ k. total (map (λ c. cond (c == k) (f k) (pos 0)) order)) f (range_with_len 0 n) (all_in_range (λ k. total (map (λ c. cond (c == k) (f k) (pos 0)) order) ≡ f k) n (λ k low. at_number k (each k low)))
  where
    differ : (k p j : ℕ) → p < length order → slice_index_or order p k ≡ k → j < length order → j ≢ p → slice_index_or order j k ≢ k
    differ k p j inside at here other e = elim (cases_lt j p) [
      | inl lt ↦ once j p lt inside (get_or_default order j 0 k here ∙ e ∙ sym at ∙ get_or_default order p k 0 inside)
      | inr ge ↦ (let lt : p < j = omega (arith, ge, other) in once p j lt here (get_or_default order p 0 k inside ∙ at ∙ sym e ∙ get_or_default order j k 0 here))
    ]

    at_number : (k : ℕ) → Contains order k → total (map (λ c. cond (c == k) (f k) (pos 0)) order) ≡ f k
    at_number k (p, inside, at) =
        total_only (λ c. cond (c == k) (f k) (pos 0)) order p k inside (sym at) (λ j d here other.
        ap (λ b. cond b (f k) (pos 0)) (ne_eqb (get_or order j d) k (λ e. differ k p j inside at here other (get_or_default order j k d here ∙ e))))
        ∙ ap (λ b. cond b (f k) (pos 0)) (eq-eqb k k refl)
