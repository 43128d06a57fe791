-- Contributions added one list after another.
use Rattle.std.proofs.Common.{◌≡◌, ◌∙◌, sym, ap, refl, subst, ℕ, zero, suc, ◌+◌, ◌<◌, List, [], ◌∷◌, ◌++◌, length, map, take, arith, slice_index_or}
use Rattle.std.specs.List.{All, fold, flat_map, range_with_len}
use Rattle.std.proofs.lemmas.List.Sums.{fold-append}
use Rattle.std.proofs.lemmas.Grind.{flat_map-append}
use Rattle.std.proofs.lemmas.List.Elements.{All-head, All-tail}
use Rattle.std.proofs.lemmas.List.{take_more, map-append, append-nil}
use Rattle.serial_sum.specs.Adders.{StayOut}
use Rattle.serial_sum.specs.declared.part.Contribution.{Contribution}
use Rattle.block_sums.specs.Adding.{Adds}

pub none_adds : {S T : Type 0} {Fits : S → Type 0} {step : S × T → Contribution → S × T} {s : S × T} → Fits s.0 → Adds Fits step s s []
none_adds fits = record { run = refl; fits = fits }

pub one_adds : {S T : Type 0} {Fits : S → Type 0} {step : S × T → Contribution → S × T} {s n : S × T} {c : Contribution} → n ≡ step s c → Fits n.0 → Adds Fits step s n (c ∷ [])
one_adds is fits = record { run = is; fits = fits }

pub same_adds : {S T : Type 0} {Fits : S → Type 0} {step : S × T → Contribution → S × T} {s n : S × T} {xs ys : List Contribution} → xs ≡ ys → Adds Fits step s n xs → Adds Fits step s n ys
same_adds {S} {T} {Fits} {step} {s} {n} e a = let P : List Contribution → Type 0 = λ list. Adds Fits step s n list in subst P e a

pub same_single : {S T : Type 0} {Fits : S → Type 0} {step : S × T → Contribution → S × T} {s n : S × T} {x y : Contribution} → x ≡ y → Adds Fits step s n (x ∷ []) → Adds Fits step s n (y ∷ [])
same_single e a = same_adds (ap (λ c. c ∷ []) e) a

pub both_add : {S T : Type 0} {Fits : S → Type 0} {step : S × T → Contribution → S × T} {s m n : S × T} {xs ys : List Contribution} → Adds Fits step s m xs → Adds Fits step m n ys → Adds Fits step s n (xs ++ ys)
both_add {S} {T} {Fits} {step} {s} {m} {n} {xs} {ys} a b = record {
  run = b.run ∙ ap (λ (r : S × T). fold step r ys) a.run ∙ sym (fold-append step s xs ys);
  fits = b.fits;
}

-- contributions to a row that isn't wanted
pub none_wanted : {S T : Type 0} {Fits : S → Type 0} {step : S × T → Contribution → S × T} {s : S × T} (row : ℕ) (list : List Contribution) → StayOut step row → All (λ (c : Contribution). c.row ≡ row) list → Fits s.0 → Adds Fits step s s list
none_wanted {S} {T} {Fits} {step} {s} row list out rows fits = record { run = sym (stays list rows); fits = fits }
  where
    stays : (list : List Contribution) → All (λ (c : Contribution). c.row ≡ row) list → fold step s list ≡ s
    stays [] rows = refl
    stays (c ∷ list) rows =
        ap (λ (r : S × T). fold step r list) (out s c (All-head (λ (x : Contribution). x.row ≡ row) c list rows))
        ∙ stays list (All-tail (λ (x : Contribution). x.row ≡ row) c list rows)

map_more : {A : Type 0} (f : A → Contribution) (xs : List A) (k : ℕ) (d : A) → k < length xs → map f (take (k + 1) xs) ≡ map f (take k xs) ++ f (slice_index_or xs k d) ∷ []
map_more f xs k d h = ap (map f) (take_more xs k d h) ∙ map-append f (take k xs) (slice_index_or xs k d ∷ [])

flat_more : {A : Type 0} (f : A → List Contribution) (xs : List A) (k : ℕ) (d : A) → k < length xs → flat_map f (take (k + 1) xs) ≡ flat_map f (take k xs) ++ f (slice_index_or xs k d)
flat_more f xs k d h =
    ap (flat_map f) (take_more xs k d h) ∙ flat_map-append f (take k xs) (slice_index_or xs k d ∷ []) ∙ ap (λ ys. flat_map f (take k xs) ++ ys) (append-nil (f (slice_index_or xs k d)))

range_suc : (a n : ℕ) → range_with_len a (suc n) ≡ range_with_len a n ++ (a + n) ∷ []
range_suc a zero = ap (λ x. x ∷ []) (let e : a ≡ a + 0 = omega arith in e)
range_suc a (suc n) =
    ap (λ ys. a ∷ ys) (range_suc (a + 1) n ∙ ap (λ x. range_with_len (a + 1) n ++ x ∷ []) (let e : a + 1 + n ≡ a + suc n = omega arith in e))

pub range_next : (a n : ℕ) → range_with_len a (n + 1) ≡ range_with_len a n ++ (a + n) ∷ []
range_next a n = ap (range_with_len a) (let e : n + 1 ≡ suc n = omega arith in e) ∙ range_suc a n

pub range_more : (f : ℕ → List Contribution) (k : ℕ) → flat_map f (range_with_len 0 (k + 1)) ≡ flat_map f (range_with_len 0 k) ++ f k
range_more f k =
    ap (flat_map f) (range_next 0 k) ∙ flat_map-append f (range_with_len 0 k) ((0 + k) ∷ []) ∙ ap (λ ys. flat_map f (range_with_len 0 k) ++ ys) (append-nil (f (0 + k)))
    ∙ ap (λ n. flat_map f (range_with_len 0 k) ++ f n) (let e : 0 + k ≡ k = omega arith in e)

-- one more of the terms
pub terms_step : {S T A : Type 0} {Fits : S → Type 0} {step : S × T → Contribution → S × T} {s m n : S × T} (f : A → Contribution) (xs : List A) (k : ℕ) (x : A) → k < length xs → x ≡ slice_index_or xs k x →
    Adds Fits step s m (map f (take k xs)) → Adds Fits step m n (f x ∷ []) → Adds Fits step s n (map f (take (k + 1) xs))
terms_step f xs k x h e a b = same_adds (ap (λ y. map f (take k xs) ++ f y ∷ []) e ∙ sym (map_more f xs k x h)) (both_add a b)

-- one more list
pub lists_step : {S T A : Type 0} {Fits : S → Type 0} {step : S × T → Contribution → S × T} {s m n : S × T} (f : A → List Contribution) (xs : List A) (k : ℕ) (x : A) → k < length xs → x ≡ slice_index_or xs k x →
    Adds Fits step s m (flat_map f (take k xs)) → Adds Fits step m n (f x) → Adds Fits step s n (flat_map f (take (k + 1) xs))
lists_step f xs k x h e a b = same_adds (ap (λ y. flat_map f (take k xs) ++ f y) e ∙ sym (flat_more f xs k x h)) (both_add a b)

-- one more number
pub range_step : {S T : Type 0} {Fits : S → Type 0} {step : S × T → Contribution → S × T} {s m n : S × T} (f : ℕ → List Contribution) (k : ℕ) →
    Adds Fits step s m (flat_map f (range_with_len 0 k)) → Adds Fits step m n (f k) → Adds Fits step s n (flat_map f (range_with_len 0 (k + 1)))
range_step f k a b = same_adds (sym (range_more f k)) (both_add a b)
