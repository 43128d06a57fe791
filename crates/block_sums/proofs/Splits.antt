-- What holds of all contributions of a list holds of those of its parts.
use Rattle.std.proofs.Common.{◌≡◌, ◌∙◌, sym, subst, ℕ, zero, suc, ◌+◌, ◌<◌, List, [], ◌∷◌, ◌++◌, length, map, arith, slice_index_or}
use Rattle.std.specs.List.{All, flat_map, range_with_len}
use Rattle.std.proofs.lemmas.List.Elements.{All-nil, All-cons, All-head, All-tail}
use Rattle.std.proofs.lemmas.List.FromFn.{get_or-range_with_len, length-range_with_len}

pub all_left : {Y : Type 0} (P : Y → Type 0) (xs ys : List Y) → All P (xs ++ ys) → All P xs
all_left P [] ys h = All-nil P
all_left P (x ∷ xs) ys h = All-cons P x xs (All-head P x (xs ++ ys) h) (all_left P xs ys (All-tail P x (xs ++ ys) h))

pub all_right : {Y : Type 0} (P : Y → Type 0) (xs ys : List Y) → All P (xs ++ ys) → All P ys
all_right P [] ys h = h
all_right P (x ∷ xs) ys h = all_right P xs ys (All-tail P x (xs ++ ys) h)

pub all_same : {Y : Type 0} (P : Y → Type 0) (xs ys : List Y) → xs ≡ ys → All P ys → All P xs
all_same {Y} P xs ys e h = let Q : List Y → Type 0 = λ list. All P list in subst Q (sym e) h

-- of one of the lists that are put together
pub all_inside : {X Y : Type 0} (P : Y → Type 0) (f : X → List Y) (xs : List X) (k : ℕ) (x : X) → k < length xs → x ≡ slice_index_or xs k x → All P (flat_map f xs) → All P (f x)
all_inside {X} P f [] k x inside e h = absurd (omega arith)
all_inside {X} P f (y ∷ xs) zero x inside e h = let Q : X → Type 0 = λ z. All P (f z) in subst Q (sym e) (all_left P (f y) (flat_map f xs) h)
all_inside {X} P f (y ∷ xs) (suc k) x inside e h = all_inside P f xs k x (omega arith) e (all_right P (f y) (flat_map f xs) h)

-- of that of a number
pub all_number : {Y : Type 0} (P : Y → Type 0) (f : ℕ → List Y) (n k : ℕ) → k < n → All P (flat_map f (range_with_len 0 n)) → All P (f k)
all_number P f n k inside h =
    all_inside P f (range_with_len 0 n) k k (omega (arith, inside, length-range_with_len 0 n))
    (let e : k ≡ slice_index_or (range_with_len 0 n) k k = (let z : k ≡ 0 + k = omega arith in z) ∙ sym (get_or-range_with_len 0 n k k inside) in e) h

-- of the image of an element
pub mapped_at : {X Y : Type 0} (P : Y → Type 0) (f : X → Y) (xs : List X) (k : ℕ) (x : X) → k < length xs → x ≡ slice_index_or xs k x → All P (map f xs) → P (f x)
mapped_at {X} P f [] k x inside e h = absurd (omega arith)
mapped_at {X} P f (y ∷ xs) zero x inside e h = let Q : X → Type 0 = λ z. P (f z) in subst Q (sym e) (All-head P (f y) (map f xs) h)
mapped_at {X} P f (y ∷ xs) (suc k) x inside e h = mapped_at P f xs k x (omega arith) e (All-tail P (f y) (map f xs) h)

-- of what is the same
pub at_same : {Y : Type 0} (P : Y → Type 0) (x y : Y) → x ≡ y → P y → P x
at_same P x y e h = subst P (sym e) h
